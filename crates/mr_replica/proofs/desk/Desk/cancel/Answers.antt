use Rattle.std.proofs.Common.{◌≡◌, ◌∙◌, IsTrue, subst}
use Rattle.mr_model.specs.Scopes.{OfTarget}
use Rattle.mr_model.specs.Writes.{Id, is_id}
use Rattle.mr_part.specs.Steps.{cancel_request, outcome_at_room}
use Rattle.mr_part.specs.Answering.{put_cancel_outcome}
use Rattle.mr_part.proofs.Submitting.{not_booked}
use Rattle.mr_replica.specs.Dues.{IsExhausted}
use Rattle.mr_replica.proofs.Steps.{cancel_step}
use Rattle.mr_replica.proofs.Taken.{turned, unmade, told_on}
use Rattle.mr_tables.specs.Change.{ChangeView}
use Rattle.mr_base.specs.declared.refusals.Refusal.TheVariants as refusal
use Rattle.mr_replica.proofs.Dues.{due_step, is_known_to, unknown_room_of_cancel, booking_told, exhausted_cancel, never_exhausted}
use Rattle.mr_replica.proofs.desk.Desk.cancel.Goals as goal

pub returns-in-Ok-clause-step : goal.returns-in-Ok-clause-step
returns-in-Ok-clause-step c =
    turned (OfTarget c.args.target) (cancel_request c.args.room c.args.target) (λ a (done : Id × ChangeView). outcome_at_room c.args.room a done.0)
    (λ (done : Id × ChangeView). done.1) c.in-Ok.part c.args.self.now c.changed_by.new.self c.cancel.result c.changed_by.result
    (cancel_step c.args.room c.args.target c.as_str.ensures.is_name (subst (λ (id : Id). IsTrue (is_id id)) c.target.view_is c.target.invariant))
    c.in-Ok.ensures.part c.cancel.ensures.step c.changed_by.ensures.made c.changed_by.ensures.err c.changed_by.ensures.only

pub returns-in-Err-clause-step : goal.returns-in-Err-clause-step
returns-in-Err-clause-step c = unmade (cancel_request c.args.room c.args.target)
    (λ a (done : Id × ChangeView). outcome_at_room c.args.room a done.0) c.args.self.now c.args.self.now c.in-Err.refusal (λ _. c.args.self.now) (λ a h. c.in-Err.ensures.only a h)

pub returns-in-Ok-clause-own : goal.returns-in-Ok-clause-own
returns-in-Ok-clause-own c = λ a h. c.changed_by.ensures.own c.cancel.ensures.own

pub returns-in-Ok-clause-told : goal.returns-in-Ok-clause-told
returns-in-Ok-clause-told c = λ a h.
    told_on (λ (done : Id × ChangeView). outcome_at_room c.args.room (cancel_request c.args.room c.args.target a).replica done.0 ≡ put_cancel_outcome done.1.cancels) _
    c.cancel.result c.changed_by.result c.changed_by.ensures.made (c.cancel.ensures.told a h.sound (c.in-Ok.ensures.part a h))

pub returns-then-not-knows-clause-step : goal.returns-then-not-knows-clause-step
returns-then-not-knows-clause-step c =
    due_step (cancel_request c.args.room c.args.target) (λ a (done : Id × ChangeView). outcome_at_room c.args.room a done.0) c.args.self.now refusal.UnknownRoom
    (λ a h. unknown_room_of_cancel c.args.room c.args.target a (is_known_to c.args.room a c.self.view_is h.are c.knows.ensures ∙ c.if-not-knows.true))

pub returns-then-not-has_booking-clause-step : goal.returns-then-not-has_booking-clause-step
returns-then-not-has_booking-clause-step c =
    due_step (cancel_request c.args.room c.args.target) (λ a (done : Id × ChangeView). outcome_at_room c.args.room a done.0) c.args.self.now refusal.NoSuchRequest
    (λ a h. not_booked a c.args.room c.args.target (is_known_to c.args.room a c.self.view_is h.are c.knows.ensures ∙ c.if-not-knows.false)
    (booking_told c.args.room c.args.target a c.self.view_is h c.has_booking.ensures ∙ c.if-not-has_booking.true))

pub returns-in-Some-clause-step : goal.returns-in-Some-clause-step
returns-in-Some-clause-step c =
    due_step (cancel_request c.args.room c.args.target) (λ a (done : Id × ChangeView). outcome_at_room c.args.room a done.0) c.args.self.now c.in-Some.refusal
    (λ a h. exhausted_cancel c.args.room c.args.target c.args.self.now a c.in-Some.refusal h (is_known_to c.args.room a c.self.view_is h.are c.knows.ensures ∙ c.if-not-knows.false)
    (booking_told c.args.room c.args.target a c.self.view_is h c.has_booking.ensures ∙ c.if-not-has_booking.false)
    (subst (λ t. IsExhausted t c.in-Some.refusal) c.self.view_is c.in-Some.ensures.due))

pub returns-in-Some-clause-own : goal.returns-in-Some-clause-own
returns-in-Some-clause-own c = λ a h. never_exhausted c.self.inside.memory c.in-Some.refusal c.in-Some.ensures.due
