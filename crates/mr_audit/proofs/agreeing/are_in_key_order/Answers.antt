use Rattle.std.proofs.Common.{◌∙◌, ◌↔◌, ap, subst, List, IsTrue}
use Rattle.mr_model.specs.Tables.{Tables, LogRow, BookingRow, ErrorRow, CancelledRow, CancelRow}
use Rattle.mr_model.specs.Queries.{booking_id, error_id, cancelled_id, cancel_id, log_id}
use Rattle.mr_tables.specs.Change.{id_before}
use Rattle.mr_tables.specs.TableOrders.{InOrder}
use Rattle.mr_tables.proofs.Rising.{both}
use Rattle.mr_audit.proofs.agreeing.are_in_key_order.Goals as goal

pub returns : goal.returns
returns c =
    let view = c.tables.view_is in
    let log = subst (λ (rows : List LogRow). IsTrue c.are_rising-log.result ↔ InOrder id_before log_id rows) (c.deref.ensures.value ∙ ap (λ (t : Tables). t.log) view) c.are_rising-log.ensures in
    let bookings = subst (λ (rows : List BookingRow). IsTrue c.are_rising-bookings.result ↔ InOrder id_before booking_id rows)
    (c.deref-2.ensures.value ∙ ap (λ (t : Tables). t.booking) view) c.are_rising-bookings.ensures in
    let errors = subst (λ (rows : List ErrorRow). IsTrue c.are_rising-errors.result ↔ InOrder id_before error_id rows)
    (c.deref-3.ensures.value ∙ ap (λ (t : Tables). t.errorlog) view) c.are_rising-errors.ensures in
    let cancelled = subst (λ (rows : List CancelledRow). IsTrue c.are_rising-cancelled.result ↔ InOrder id_before cancelled_id rows)
    (c.deref-4.ensures.value ∙ ap (λ (t : Tables). t.cancelled) view) c.are_rising-cancelled.ensures in
    let cancels = subst (λ (rows : List CancelRow). IsTrue c.are_rising-cancels.result ↔ InOrder id_before cancel_id rows)
    (c.deref-5.ensures.value ∙ ap (λ (t : Tables). t.cancels) view) c.are_rising-cancels.ensures in
    let all = both (both (both (both log bookings) errors) cancelled) cancels in (
      λ t. let p = all.0 t in record { log = p.0.0.0.0; booking = p.0.0.0.1; errorlog = p.0.0.1; cancelled = p.0.1; cancels = p.1 },
      λ k. all.1 ((((k.log, k.booking), k.errorlog), k.cancelled), k.cancels),
    )
