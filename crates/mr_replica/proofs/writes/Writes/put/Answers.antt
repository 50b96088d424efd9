use Rattle.std.proofs.Common.{◌≡◌, [], refl, ap, ◌∙◌}
use Rattle.std.proofs.lemmas.Result.{on_ok_weaker}
use Rattle.mr_model.specs.Queries.{booking_id, error_id, cancelled_id, cancel_id, log_id}
use Rattle.mr_tables.specs.Change.{id_before, put_all, rows_without}
use Rattle.mr_replica.specs.Journal.{is_going, rows_but}
use Rattle.mr_replica.specs.Writes.{changed_rows, rows_of}
use Rattle.mr_replica.proofs.Journals.{made_of}
use Rattle.mr_replica.proofs.RowsById.{without_none}
use Rattle.mr_replica.proofs.writes.Writes.put.Goals as goal

pub returns-clause-made : goal.returns-clause-made
returns-clause-made c =
    let old = c.args.self.now in
    let change = c.change.inside in
    let log : rows_but log_id (is_going c.put_all.new.self.going) c.put_all.new.table.rows ≡ put_all id_before log_id change.log.items (rows_without log_id change.dropped.items old.log.rows) =
    made_of log_id _ _ change.dropped.items _ change.log.items old.log.rows c.in_ok-put_all.ensures.made c.deref.ensures.value c.deref-2.ensures.value in
    let booking : rows_but booking_id (is_going c.put_all-2.new.self.going) c.put_all-2.new.table.rows
    ≡ put_all id_before booking_id change.booking.items (rows_without booking_id change.unbooked.items old.booking.rows) =
    made_of booking_id _ _ change.unbooked.items _ change.booking.items old.booking.rows c.in_ok-put_all-2.ensures.made c.deref-3.ensures.value c.deref-4.ensures.value in
    let errorlog : rows_but error_id (is_going c.put_all-3.new.self.going) c.put_all-3.new.table.rows
    ≡ put_all id_before error_id change.errorlog.items (rows_without error_id change.unlogged.items old.errorlog.rows) =
    made_of error_id _ _ change.unlogged.items _ change.errorlog.items old.errorlog.rows c.in_ok-put_all-3.ensures.made c.deref-5.ensures.value c.deref-6.ensures.value in
    let cancelled : rows_but cancelled_id (is_going c.put_all-4.new.self.going) c.put_all-4.new.table.rows
    ≡ put_all id_before cancelled_id change.cancelled.items (rows_without cancelled_id change.uncancelled.items old.cancelled.rows) =
    made_of cancelled_id _ _ change.uncancelled.items _ change.cancelled.items old.cancelled.rows c.in_ok-put_all-4.ensures.made c.deref-7.ensures.value c.deref-8.ensures.value in
    on_ok_weaker c.put_all-5.result
    (λ made.
    let cancels : rows_but cancel_id (is_going c.put_all-5.new.self.going) c.put_all-5.new.table.rows ≡ put_all id_before cancel_id change.cancels.items old.cancels.rows =
    made_of cancel_id _ [] [] _ change.cancels.items old.cancels.rows made refl c.deref-9.ensures.value
    ∙ ap (put_all id_before cancel_id change.cancels.items) (without_none cancel_id old.cancels.rows) in
    (λ t. record { log = log t; booking = booking t; errorlog = errorlog t; cancelled = cancelled t; cancels = cancels t }) ∙ (λ t. changed_rows (c.change.view_is t) (rows_of old)))
    c.put_all-5.ensures.made
