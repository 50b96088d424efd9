use Rattle.std.proofs.Common.{◌≡◌, true, sym, ap, subst, ◌∙◌, rules}
use Rattle.std.specs.Prelude.{IfErr, IfOk}
use Rattle.std.proofs.lemmas.Result.{err_from_is_err_and}
use Rattle.mr_base.specs.declared.refusals.Refusal.TheVariants.{OutOfMemory}
use Rattle.mr_model.specs.Scopes.{in_scope}
use Rattle.mr_model.specs.Tables.{Tables}
use Rattle.mr_part.specs.Parts.{IsPartOf, without_bookings}
use Rattle.mr_part.specs.ScopeOf.{scope_of}
use Rattle.mr_tables.specs.Boards.{board_of}
use Rattle.mr_replica.specs.Needed.{is_of_rooms}
use Rattle.mr_replica.specs.SharedLog.{IsSharedLog}
use Rattle.mr_replica.proofs.SharedLogs.{shared_is}
use Rattle.mr_replica.proofs.ScopeRows.{by_rooms, rooms_scope, some_of}
use Rattle.mr_replica.proofs.memory.Memory.part_for.Goals as goal

pub returns-clause-loaded : goal.returns-clause-loaded
returns-clause-loaded c = λ a h. c.from_tables.ensures.part a h.sound (c.in_ok-tables.ensures ∙ ap (in_scope (scope_of c.args.scope.now)) h.are)

pub returns-clause-only : goal.returns-clause-only
returns-clause-only c = λ a h. c.from_tables.ensures.only a h.sound (c.in_ok-tables.ensures ∙ ap (in_scope (scope_of c.args.scope.now)) h.are)

pub returns-then-is_of_rooms-clause-loaded : goal.returns-then-is_of_rooms-clause-loaded
returns-then-is_of_rooms-clause-loaded c = λ a h.
    let s = scope_of c.args.scope.now in
    let rooms : is_of_rooms s ≡ true = sym c.is_of_rooms.ensures ∙ c.if-is_of_rooms.true in
    let same : c.in_ok-shared.shared.value ≡ c.in-Some.board.value = search rules in
    c.over_board.ensures.part a h.sound (by_rooms s rooms)
    (ap (λ v. without_bookings (in_scope s v)) c.in_ok-rows.ensures ∙ rooms_scope s c.args.self.now rooms ∙ ap (λ v. without_bookings (in_scope s v)) h.are)
    (same ∙ some_of _ c.self.inside.board c.in-Some.board c.in-Some.is c.self.invariant.0 ∙ ap board_of (c.self.view_is ∙ h.are))

pub returns-then-is_of_rooms-clause-only : goal.returns-then-is_of_rooms-clause-only
returns-then-is_of_rooms-clause-only c = λ a h.
    let s = scope_of c.args.scope.now in
    let rooms : is_of_rooms s ≡ true = sym c.is_of_rooms.ensures ∙ c.if-is_of_rooms.true in
    c.over_board.ensures.only a h.sound
    (ap (λ v. without_bookings (in_scope s v)) c.in_ok-rows.ensures ∙ rooms_scope s c.args.self.now rooms ∙ ap (λ v. without_bookings (in_scope s v)) h.are)

pub returns-in_err-rows-clause-only : goal.returns-in_err-rows-clause-only
returns-in_err-rows-clause-only c = λ a h.
    let p = err_from_is_err_and c.from_residual.result c.from_residual.ensures.1 in
    subst (λ r. IfErr r (λ e. e ≡ OutOfMemory)) (sym p.1) p.2

pub returns-in_err-shared-clause-only : goal.returns-in_err-shared-clause-only
returns-in_err-shared-clause-only c = λ a h.
    let p = err_from_is_err_and c.from_residual-in_err-shared.result c.from_residual-in_err-shared.ensures.1 in
    subst (λ r. IfErr r (λ e. e ≡ OutOfMemory)) (sym p.1) p.2

pub returns-in_err-tables-clause-only : goal.returns-in_err-tables-clause-only
returns-in_err-tables-clause-only c = λ a h.
    let p = err_from_is_err_and c.from_residual-in_err-tables.result c.from_residual-in_err-tables.ensures.1 in
    subst (λ r. IfErr r (λ e. e ≡ OutOfMemory)) (sym p.1) p.2

pub returns-in-Above-clause-loaded : goal.returns-in-Above-clause-loaded
returns-in-Above-clause-loaded c = λ a h.
    let shared = subst (λ (t : Tables). IsSharedLog t.log c.in-Some-log.log.value.items) c.self.view_is (some_of _ c.self.inside.log c.in-Some-log.log c.in-Some-log.is c.self.invariant.1) in
    let log = shared_is c.args.self.now a c.in-Some-log.log.value.items h shared in
    subst (λ s. IfOk c.part_above.result (λ part. IsPartOf part (scope_of s) a)) (sym c.in-Above.is) (c.part_above.ensures.loaded a h log)
