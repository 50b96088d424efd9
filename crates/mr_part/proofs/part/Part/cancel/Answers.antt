use Rattle.std.proofs.Common.{◌≡◌, Err, IfOk, true, false, ap, sym, ◌∙◌, subst, inl}
use Rattle.std.specs.Prelude.{bytes_eq}
use Rattle.std.specs.List.{list_any}
use Rattle.std.proofs.lemmas.Result.{err_from_is_err_and}
use Rattle.mr_model.specs.Writes.{Id}
use Rattle.mr_model.specs.Replica.{knows_room}
use Rattle.mr_model.specs.Step.{After, knows_booking}
use Rattle.mr_model.specs.Tables.{tables_of}
use Rattle.mr_tables.specs.Change.{ChangeView, changed}
use Rattle.mr_tables.specs.Summary.{stamp_next}
use Rattle.mr_part.specs.Answering.{reply_with}
use Rattle.mr_part.specs.Parts.{PartView}
use Rattle.mr_part.specs.Placing.{has_booking_on}
use Rattle.mr_part.specs.Steps.{cancel_request, outcome_at_room}
use Rattle.mr_part.proofs.Submitting.{Withdraws, withdraws, not_booked}
use Rattle.mr_part.proofs.PartCalls.{target_booked, part_cancel}
use Rattle.mr_part.proofs.part.Part.cancel.Goals as goal

pub returns-then-not-has_booking-clause-step : goal.returns-then-not-has_booking-clause-step
returns-then-not-has_booking-clause-step c = λ a sound part.
    let room = c.args.room in
    let target = c.args.target in
    let e = c.self.view_is ∙ part in
    let rooms = c.deref.ensures.value ∙ ap (λ (v : PartView). v.rooms) e in
    let known : knows_room a room ≡ true = sym (λ t. list_any (bytes_eq room) (rooms t)) ∙ sym c.is_known.ensures ∙ c.if-not-is_known.false in
    let none : knows_booking a room target ≡ false = sym (target_booked a room target c.args.self.now sound part)
    ∙ ap (λ (v : PartView). has_booking_on v.board room target) (sym c.self.view_is) ∙ sym c.has_booking.ensures ∙ c.if-not-has_booking.true in
    let step = not_booked a room target known none in
    inl (ap (λ (s : After). s.reply) (sym step), tt)

pub returns-in_err-stamp-clause-step : goal.returns-in_err-stamp-clause-step
returns-in_err-stamp-clause-step c = λ a sound part.
    let p = err_from_is_err_and c.from_residual.result c.from_residual.ensures.1 in
    let room = c.args.room in
    let target = c.args.target in
    let e = c.self.view_is ∙ part in
    let rooms = c.deref.ensures.value ∙ ap (λ (v : PartView). v.rooms) e in
    let known : knows_room a room ≡ true = sym (λ t. list_any (bytes_eq room) (rooms t)) ∙ sym c.is_known.ensures ∙ c.if-not-is_known.false in
    let booked : knows_booking a room target ≡ true = sym (target_booked a room target c.args.self.now sound part)
    ∙ ap (λ (v : PartView). has_booking_on v.board room target) (sym c.self.view_is) ∙ sym c.has_booking.ensures ∙ c.if-not-has_booking.false in
    let stamp = sym (ap stamp_next (ap (λ (v : PartView). v.summary) e)) ∙ sym c.next_stamp.ensures ∙ c.in_err-stamp.was in
    let step = subst (Withdraws a room target) stamp (withdraws a room target sound known booked) in
    let answer = p.1 ∙ ap Err p.2 in
    inl (
      ap (reply_with (λ (done : Id × ChangeView). outcome_at_room room (cancel_request room target a).replica done.0)) answer ∙ ap (λ (s : After). s.reply) (sym step),
      subst (λ r. IfOk r (λ (x : Id × ChangeView). changed x.1 (tables_of a) ≡ tables_of (cancel_request room target a).replica)) (sym answer) tt,
    )

pub returns-clause-step : goal.returns-clause-step
returns-clause-step c = λ a sound part.
    let room = c.args.room in
    let target = c.args.target in
    let p = c.args.self.now in
    let rooms = c.deref.ensures.value ∙ ap (λ (v : PartView). v.rooms) c.self.view_is in
    let there : list_any (bytes_eq room) p.rooms ≡ true = sym (λ t. list_any (bytes_eq room) (rooms t)) ∙ sym c.is_known.ensures ∙ c.if-not-is_known.false in
    let booked : has_booking_on p.board room target ≡ true = ap (λ (v : PartView). has_booking_on v.board room target) (sym c.self.view_is) ∙ sym c.has_booking.ensures ∙ c.if-not-has_booking.false in
    let stamp = sym (ap stamp_next (ap (λ (v : PartView). v.summary) c.self.view_is)) ∙ sym c.next_stamp.ensures ∙ c.in_ok-stamp.was in
    let done =
    part_cancel a room target p c.in_ok-stamp.stamp c.cancel-write.result c.id.result c.in_ok-change.change sound part c.is_within_limits.ensures there booked stamp
    c.cancel-write.ensures c.id.ensures c.in_ok-change.ensures.change in
    inl (done.step, done.turns)

pub returns-clause-told : goal.returns-clause-told
returns-clause-told c = λ a sound part.
    let room = c.args.room in
    let target = c.args.target in
    let p = c.args.self.now in
    let rooms = c.deref.ensures.value ∙ ap (λ (v : PartView). v.rooms) c.self.view_is in
    let there : list_any (bytes_eq room) p.rooms ≡ true = sym (λ t. list_any (bytes_eq room) (rooms t)) ∙ sym c.is_known.ensures ∙ c.if-not-is_known.false in
    let booked : has_booking_on p.board room target ≡ true = ap (λ (v : PartView). has_booking_on v.board room target) (sym c.self.view_is) ∙ sym c.has_booking.ensures ∙ c.if-not-has_booking.false in
    let stamp = sym (ap stamp_next (ap (λ (v : PartView). v.summary) c.self.view_is)) ∙ sym c.next_stamp.ensures ∙ c.in_ok-stamp.was in
    let done =
    part_cancel a room target p c.in_ok-stamp.stamp c.cancel-write.result c.id.result c.in_ok-change.change sound part c.is_within_limits.ensures there booked stamp
    c.cancel-write.ensures c.id.ensures c.in_ok-change.ensures.change in
    done.tells
