-- The rows of a replica's tables are in the order of their keys.
use Rattle.std.proofs.Common.{List, [], ◌∷◌}
use Rattle.mr_model.specs.Texts.{Text}
use Rattle.mr_model.specs.Replica.{Replica, IsReplica, text_before, AreInNameOrder}
use Rattle.mr_model.specs.Queries.{booking_id, error_id, cancelled_id, cancel_id, log_id}
use Rattle.mr_model.specs.Tables.{tables_of}
use Rattle.mr_model.proofs.KeyOrder.{tables_in_order}
use Rattle.mr_audit.proofs.SortedIds.{ids_rising}
use Rattle.mr_part.proofs.MovedTables.{vector_in_order}
use Rattle.mr_tables.specs.TableOrders.{InOrder}
use Rattle.mr_replica.specs.Ordered.{AreInOrder}

names_rise : (ts : List Text) → AreInNameOrder ts → InOrder text_before (λ name. name) ts
names_rise [] h = tt
names_rise (t ∷ ts) h = (h.0, names_rise ts h.1)

pub replica_in_order : (a : Replica) → IsReplica a → AreInOrder (tables_of a)
replica_in_order a h =
    let writes = tables_in_order a h in
    record {
      room = names_rise a.rooms h.rooms_in_order;
      vector = vector_in_order a 1 99;
      log = ids_rising log_id (tables_of a).log writes.log;
      booking = ids_rising booking_id (tables_of a).booking writes.booking;
      errorlog = ids_rising error_id (tables_of a).errorlog writes.errorlog;
      cancelled = ids_rising cancelled_id (tables_of a).cancelled writes.cancelled;
      cancels = ids_rising cancel_id (tables_of a).cancels writes.cancels;
    }
