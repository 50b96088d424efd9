use Rattle.std.proofs.Common.{◌≡◌, sym, ap, ◌∙◌, subst, false, map, List}
use Rattle.mr_model.specs.Dropped.{Has}
use Rattle.mr_model.specs.Replica.{is_among}
use Rattle.mr_model.specs.Slots.{slot_in}
use Rattle.mr_model.specs.Tables.{Tables, BookingRow}
use Rattle.mr_model.specs.Queries.{booking_id, log_id}
use Rattle.mr_agree.specs.Agreeing.{same_booking, taken_row}
use Rattle.mr_audit.proofs.OneRow.{one_passes, none_passes, id_first}
use Rattle.mr_audit.proofs.places.is_booked.Goals as goal

pub returns-in-Some : goal.returns-in-Some
returns-in-Some c =
    let t = c.args.tables.now in
    let row = taken_row c.args.row.now c.args.cells.now (slot_in c.args.day.now c.args.time.now) in
    let rows = c.deref.ensures.value ∙ ap (λ (u : Tables). u.booking) c.tables.view_is in
    let found = c.in-Some.booked.now in
    let h = c.in-Some.ensures in
    c.is_same_booking.ensures
    ∙ sym (one_passes booking_id (log_id c.args.row.now) (same_booking row) (λ r e. id_first (booking_id row) (booking_id r) _ _ _ _ _ e) t.booking found c.requires.booking
    (subst (λ (rs : List BookingRow). Has found rs) rows h.0) (h.1 ∙ c.id.ensures))

pub returns-in-None : goal.returns-in-None
returns-in-None c =
    let t = c.args.tables.now in
    let row = taken_row c.args.row.now c.args.cells.now (slot_in c.args.day.now c.args.time.now) in
    let rows = c.deref.ensures.value ∙ ap (λ (u : Tables). u.booking) c.tables.view_is in
    let none : is_among (log_id c.args.row.now) (map booking_id t.booking) ≡ false = (λ i. is_among (sym c.id.ensures i) (map booking_id (sym rows i))) ∙ c.in-None.ensures in
    sym (none_passes booking_id (log_id c.args.row.now) (same_booking row) (λ r e. id_first (booking_id row) (booking_id r) _ _ _ _ _ e) t.booking none)
