use Rattle.std.proofs.Common.{◌≡◌, true, subst, ◌∙◌, ap, Err}
use Rattle.std.proofs.lemmas.Result.{err_from_is_err_and}
use Rattle.sqlite.specs.Held.{state}
use Rattle.mr_model.specs.First.{moved}
use Rattle.mr_agree.specs.Agreeing.{agree}
use Rattle.mr_rows.proofs.QueryLemmas.{told_so}
use Rattle.mr_rows.proofs.CauseLemmas.{made_fails_where}
use Rattle.mr_first.specs.FirstDatabase.{IsKeptFirst, first_in}
use Rattle.mr_first.specs.MovedUp.{CanMoveUp}
use Rattle.mr_first.proofs.ReadLemmas.{reads_made, kept_placed, err_so, never_so}
use Rattle.mr_rows.proofs.CauseLemmas.{same_reads, same_error}
use Rattle.mr_first.proofs.moved_tables.read_agreeing.Goals as goal

pub returns-in_err-first-clause-reads : goal.returns-in_err-first-clause-reads
returns-in_err-first-clause-reads g c =
    let p = err_from_is_err_and c.from_residual.result c.from_residual.ensures.1 in
    same_reads IsKeptFirst (state g.S.Store c.args.conn.now)
    (state g.S.Store c.read_first.new.conn) c.read_first.result _ c.from_residual.result _ c.in_err-first.field-0.0 (p.1 ∙ ap Err p.2) c.read_first.ensures.reads

pub returns-clause-reads : goal.returns-clause-reads
returns-clause-reads g c =
    let old = state g.S.Store c.args.conn.now in
    let first = c.in_ok-first.first in
    reads_made old (state g.S.Store c.read_first.new.conn) first (λ first. first ≡ first_in old.now.trees) c.agreeing_tables.result
    (λ t. (t ≡ moved (first_in old.now.trees)) × (agree (moved (first_in old.now.trees)) ≡ true))
    (λ kept is. told_so c.agreeing_tables.result _ _
    (λ t told. subst (λ x. (t ≡ moved x) × (agree (moved x) ≡ true)) is (told old.now.trees is)) c.agreeing_tables.ensures.moved) c.in_ok-first.ensures.reads

pub returns-in_err-first-clause-cause : goal.returns-in_err-first-clause-cause
returns-in_err-first-clause-cause g c = λ clean kept can.
    let p = err_from_is_err_and c.from_residual.result c.from_residual.ensures.1 in
    same_error c.read_first.result c.from_residual.result c.in_err-first.field-0.0 _ c.in_err-first.was (p.1 ∙ ap Err p.2)
    (c.read_first.ensures.cause clean (kept_placed (state g.S.Store c.args.conn.now) kept) (can.rows, can.one_meta))

pub returns-clause-cause : goal.returns-clause-cause
returns-clause-cause g c =
    let old = state g.S.Store c.args.conn.now in
    let first = c.in_ok-first.first in
    made_fails_where IsKeptFirst old (state g.S.Store c.read_first.new.conn) first (λ first. first ≡ first_in old.now.trees) CanMoveUp c.agreeing_tables.result c.in_ok-first.ensures.reads
    (λ can is. never_so (CanMoveUp old.now.trees) c.agreeing_tables.result
    (err_so {Q = CanMoveUp old.now.trees} c.agreeing_tables.result (λ can. (old.now.trees, is, can)) c.agreeing_tables.ensures.refused) can)
