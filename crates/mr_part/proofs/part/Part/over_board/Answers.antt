use Rattle.std.proofs.Common.{◌≡◌, ◌∙◌, ap, sym, subst, List}
use Rattle.std.proofs.lemmas.Result.{err_from_is_err_and}
use Rattle.std.specs.Prelude.{IfErr}
use Rattle.mr_base.specs.declared.refusals.Refusal.TheVariants.{OutOfMemory}
use Rattle.mr_model.specs.Texts.{Text}
use Rattle.mr_replay.specs.Seen.{seen_in}
use Rattle.mr_part.specs.ScopeOf.{scope_of}
use Rattle.mr_part.specs.Sets.{IsSetOf}
use Rattle.mr_part.proofs.SharedBoards.{rooms_in_scope, seen_is_in_scope}
use Rattle.mr_part.proofs.part.Part.over_board.Goals as goal

pub returns-in_err-summary-clause-only : goal.returns-in_err-summary-clause-only
returns-in_err-summary-clause-only c = λ a h e.
    let p = err_from_is_err_and c.from_residual.result c.from_residual.ensures.1 in
    subst (λ r. IfErr r (λ e. e ≡ OutOfMemory)) (sym p.1) (p.2 ∙ c.in_err-summary.ensures.only a h e)

pub returns-clause-part : goal.returns-clause-part
returns-clause-part c = λ a h by e on.
    let s = scope_of c.args.scope.now in
    let (numbers, rooms) = c.in_ok-summary.ensures.rows a h e in
    let wanted = c.in_ok-summary.ensures.wanted in
    let set = c.in_ok-summary.wanted.bookings.rooms in
    let are = subst (λ (names : List Text). IsSetOf set names) (rooms_in_scope s a c.args.tables.now e) wanted.bookings_are.rooms_are in
    let board = c.in_rooms.ensures ∙ ap (seen_in set) on ∙ seen_is_in_scope a set s h by are in
    λ i. record { summary = numbers i; rooms = rooms i; kept = (c.own.ensures ∙ wanted.kept_are a h e) i; board = board i }
