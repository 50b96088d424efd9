use Rattle.std.proofs.Common.{◌≡◌, true, Result, Ok, Err, IfOk, OnOk, sym, ap, ◌∙◌}
use Rattle.std.proofs.lemmas.Result.{err_from_is_err_and}
use Rattle.sqlite.specs.Held.{state}
use Rattle.mr_model.specs.Scopes.{Nothing, in_scope}
use Rattle.mr_rows.specs.Database.{tables_in}
use Rattle.mr_rows.proofs.QueryLemmas.{reads_made}
use Rattle.mr_sql.specs.Numbers.{do_numbers_agree}
use Rattle.std.proofs.lemmas.Bool.{true≢false}
use Rattle.mr_part.specs.Parts.{without_bookings}
use Rattle.mr_part.proofs.PartScopes.{scope_agrees}
use Rattle.mr_sql.proofs.FailedReads.{alone_made, never_so, same_alone}
use Rattle.mr_rows.proofs.CauseLemmas.{same_reads}
use Rattle.mr_rows.specs.Database.{IsKept}
use Rattle.mr_sql.proofs.numbers.check_numbers.Goals as goal

so : {X E : Type 0} {P N : Type 0} (r : Result X E) → (P → N) → OnOk r P → IfOk r (λ _. N)
so (Ok x) way p = way p
so (Err e) way p = tt

pub returns-in_err-tables-clause-reads : goal.returns-in_err-tables-clause-reads
returns-in_err-tables-clause-reads g c =
    let p = err_from_is_err_and c.from_residual.result c.from_residual.ensures.1 in
    same_reads IsKept (state g.S.Store c.args.conn.now)
    (state g.S.Store c.read_bare.new.conn) c.read_bare.result _ c.from_residual.result _ c.in_err-tables.field-0.0 (p.1 ∙ ap Err p.2) c.read_bare.ensures.reads

pub returns-clause-reads : goal.returns-clause-reads
returns-clause-reads g c =
    let a = state g.S.Store c.args.conn.now in
    let t = tables_in a.now.trees in
    reads_made a (state g.S.Store c.read_bare.new.conn) c.in_ok-tables.tables (λ bare. in_scope Nothing bare ≡ in_scope Nothing t) c.test_numbers.result (λ _. do_numbers_agree t ≡ true)
    (λ kept is. so c.test_numbers.result (λ agree. sym (ap do_numbers_agree is) ∙ agree) c.test_numbers.ensures.agree) c.in_ok-tables.ensures.reads

pub returns-in_err-tables-clause-failed : goal.returns-in_err-tables-clause-failed
returns-in_err-tables-clause-failed g c =
    let p = err_from_is_err_and c.from_residual.result c.from_residual.ensures.1 in
    same_alone (state g.S.Store c.args.conn.now) (state g.S.Store c.read_bare.new.conn) c.read_bare.result c.from_residual.result c.in_err-tables.field-0.0 c.in_err-tables.was
    (p.1 ∙ ap Err p.2) c.read_bare.ensures.failed

pub returns-clause-failed : goal.returns-clause-failed
returns-clause-failed g c =
    let a = state g.S.Store c.args.conn.now in
    let t = tables_in a.now.trees in
    let bare = c.in_ok-tables.tables in
    alone_made a (state g.S.Store c.read_bare.new.conn) bare (λ bare. in_scope Nothing bare ≡ in_scope Nothing t) c.test_numbers.result c.in_ok-tables.ensures.reads
    (λ r stands is.
    let agree = scope_agrees Nothing r bare stands.sound (ap without_bookings (is ∙ ap (in_scope Nothing) stands.are)) in
    never_so c.test_numbers.result _ (λ e no. absurd (true≢false (sym agree ∙ no))) c.test_numbers.ensures.refused)
