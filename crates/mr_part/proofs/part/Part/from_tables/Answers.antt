use Rattle.std.proofs.Common.{◌≡◌, ◌∙◌, ap, sym, subst}
use Rattle.std.proofs.lemmas.Result.{err_from_is_err_and}
use Rattle.std.specs.Prelude.{IfErr}
use Rattle.mr_base.specs.declared.refusals.Refusal.TheVariants.{OutOfMemory}
use Rattle.mr_model.specs.Tables.{tables_of}
use Rattle.mr_part.specs.Parts.{without_bookings}
use Rattle.mr_part.specs.ScopeOf.{scope_of}
use Rattle.mr_part.proofs.PartScopes.{tested_within, board_told}
use Rattle.mr_part.proofs.part.Part.from_tables.Goals as goal

pub returns-in_err-summary-clause-only : goal.returns-in_err-summary-clause-only
returns-in_err-summary-clause-only c = λ a h e.
    let p = err_from_is_err_and c.from_residual.result c.from_residual.ensures.1 in
    subst (λ r. IfErr r (λ e. e ≡ OutOfMemory)) (sym p.1) (p.2 ∙ c.in_err-summary.ensures.only a h (ap without_bookings e))

pub returns-in-Err-clause-only : goal.returns-in-Err-clause-only
returns-in-Err-clause-only c = λ a h e.
    c.of_store.ensures.memory (c.in-Err.ensures.only (tested_within a (scope_of c.args.scope.now) c.args.tables.now c.in_ok-summary.wanted.bookings h c.in_ok-summary.ensures.wanted.bookings_are e))

pub returns-in-Ok-clause-part : goal.returns-in-Ok-clause-part
returns-in-Ok-clause-part c = λ a h e.
    let s = scope_of c.args.scope.now in
    let t = c.args.tables.now in
    let (numbers, rooms) = c.in_ok-summary.ensures.rows a h (ap without_bookings e) in
    let wanted = c.in_ok-summary.ensures.wanted in
    let test = c.in_ok-summary.wanted.bookings in
    let board = c.all.ensures ∙ c.in-Ok.ensures.board (tested_within a s t test h wanted.bookings_are e) ∙ board_told s t (tables_of a) test wanted.bookings_are e in
    λ i. record { summary = numbers i; rooms = rooms i; kept = (c.own.ensures ∙ wanted.kept_are a h (ap without_bookings e)) i; board = board i }
