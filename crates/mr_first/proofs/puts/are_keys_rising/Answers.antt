use Rattle.std.proofs.Common.{◌∙◌, ◌↔◌, nat_lt, ap, subst, List, IsTrue}
use Rattle.mr_model.specs.Texts.{Text}
use Rattle.mr_model.specs.Replica.{text_before}
use Rattle.mr_model.specs.Tables.{VectorRow, BookingRow, ErrorRow}
use Rattle.mr_model.specs.Queries.{booking_id, error_id}
use Rattle.mr_model.specs.First.{WriteRow, FirstUndoRow, FirstTables}
use Rattle.mr_tables.specs.Change.{id_before}
use Rattle.mr_tables.specs.Rise.{Rise}
use Rattle.mr_tables.proofs.Rising.{both}
use Rattle.mr_first.specs.Forms.{write_id, undo_id}
use Rattle.mr_first.proofs.puts.are_keys_rising.Goals as goal

pub returns : goal.returns
returns c =
    let rooms = subst (λ (rows : List Text). IsTrue c.are_rising-rooms.result ↔ Rise text_before (λ (t : Text). t) rows)
    (c.deref.ensures.value ∙ ap (λ (t : FirstTables). t.room) c.first.view_is) c.are_rising-rooms.ensures in
    let servers = subst (λ (rows : List VectorRow). IsTrue c.are_rising-servers.result ↔ Rise nat_lt (λ (r : VectorRow). r.server) rows)
    (c.deref-2.ensures.value ∙ ap (λ (t : FirstTables). t.vector) c.first.view_is) c.are_rising-servers.ensures in
    let writes = subst (λ (rows : List WriteRow). IsTrue c.are_rising-writes.result ↔ Rise id_before write_id rows)
    (c.deref-3.ensures.value ∙ ap (λ (t : FirstTables). t.write_log) c.first.view_is) c.are_rising-writes.ensures in
    let undo = subst (λ (rows : List FirstUndoRow). IsTrue c.are_rising-undo.result ↔ Rise id_before undo_id rows)
    (c.deref-4.ensures.value ∙ ap (λ (t : FirstTables). t.undo) c.first.view_is) c.are_rising-undo.ensures in
    let bookings = subst (λ (rows : List BookingRow). IsTrue c.are_rising-bookings.result ↔ Rise id_before booking_id rows)
    (c.deref-5.ensures.value ∙ ap (λ (t : FirstTables). t.booking) c.first.view_is) c.are_rising-bookings.ensures in
    let errors = subst (λ (rows : List ErrorRow). IsTrue c.are_rising-errors.result ↔ Rise id_before error_id rows)
    (c.deref-6.ensures.value ∙ ap (λ (t : FirstTables). t.errorlog) c.first.view_is) c.are_rising-errors.ensures in
    let all = both (both (both (both (both rooms servers) writes) undo) bookings) errors in (
      λ t. let p = all.0 t in record { room = p.0.0.0.0.0; vector = p.0.0.0.0.1; write_log = p.0.0.0.1; undo = p.0.0.1; booking = p.0.1; errorlog = p.1 },
      λ k. all.1 (((((k.room, k.vector), k.write_log), k.undo), k.booking), k.errorlog),
    )
