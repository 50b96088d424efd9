use Rattle.std.proofs.Common.{◌≡◌, true, Ok, ap, ◌∙◌, rules}
use Rattle.sqlite.specs.Held.{state}
use Rattle.sqlite.proofs.StateLemmas.{survives_weaker}
use Rattle.mr_model.specs.Tables.{Tables}
use Rattle.mr_model.specs.First.{moved}
use Rattle.mr_agree.specs.Agreeing.{agree}
use Rattle.mr_rows.proofs.QueryLemmas.{clean_before}
use Rattle.mr_first.specs.FirstDatabase.{first_in}
use Rattle.mr_first.proofs.ReadLemmas.{reads_made}
use Rattle.mr_first.proofs.MoveLemmas.{IsOf, moves, survives_moving}
use Rattle.mr_first.proofs.moving.move_up.Goals as goal
use Rattle.mr_rows.proofs.ColumnLemmas.{on_ok_any}

pub returns-in_err-tables-clause-survives : goal.returns-in_err-tables-clause-survives
returns-in_err-tables-clause-survives g c =
    survives_weaker (state g.S.Store c.args.conn.now) (state g.S.Store c.read_agreeing.new.conn) _ _ (λ _ db none kept. absurd (none kept)) c.read_agreeing.ensures.reads.0

pub returns-clause-moved : goal.returns-clause-moved
returns-clause-moved g c =
    let a = state g.S.Store c.args.conn.now in
    let b = state g.S.Store c.read_agreeing.new.conn in
    let t = c.in_ok-tables.tables in
    let put = c.deref.result.now in
    let meta = c.tables.inside.meta in
    let same : put ≡ t.log = search rules in
    let meta_is : meta ≡ t.meta = search rules in
    let read = reads_made a b t (λ t. (t ≡ moved (first_in a.now.trees)) × (agree (moved (first_in a.now.trees)) ≡ true)) (Ok meta) (λ m. IsOf m put a.now.trees)
    (λ kept is. (same ∙ ap (λ (t : Tables). t.log) is.0, meta_is ∙ ap (λ (t : Tables). t.meta) is.0)) c.in_ok-tables.ensures.reads in
    moves a b (state g.S.Store c.rewrite.new.conn) meta put c.rewrite.result read c.rewrite.ensures.rewritten c.rewrite.ensures.survives

pub returns-clause-survives : goal.returns-clause-survives
returns-clause-survives g c =
    let a = state g.S.Store c.args.conn.now in
    let b = state g.S.Store c.read_agreeing.new.conn in
    let t = c.in_ok-tables.tables in
    let put = c.deref.result.now in
    let meta = c.tables.inside.meta in
    let same : put ≡ t.log = search rules in
    let meta_is : meta ≡ t.meta = search rules in
    let read = reads_made a b t (λ t. (t ≡ moved (first_in a.now.trees)) × (agree (moved (first_in a.now.trees)) ≡ true)) (Ok meta) (λ m. IsOf m put a.now.trees)
    (λ kept is. (same ∙ ap (λ (t : Tables). t.log) is.0, meta_is ∙ ap (λ (t : Tables). t.meta) is.0)) c.in_ok-tables.ensures.reads in
    survives_moving a b (state g.S.Store c.rewrite.new.conn) meta put c.rewrite.result read c.rewrite.ensures.rewritten c.rewrite.ensures.survives

pub returns-clause-agree : goal.returns-clause-agree
returns-clause-agree g c clean kept =
    on_ok_any c.rewrite.result (c.in_ok-tables.ensures.reads.2 (clean_before c.rewrite.ensures.survives clean) kept).1.1
