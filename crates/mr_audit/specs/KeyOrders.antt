-- Rows in the order of their keys, as the tests of ids ask for them.
use Rattle.mr_model.specs.Tables.{Tables}
use Rattle.mr_model.specs.Queries.{booking_id, error_id, cancelled_id, cancel_id, log_id}
use Rattle.mr_tables.specs.Change.{id_before}
use Rattle.mr_tables.specs.TableOrders.{InOrder}

-- the rows of each table of writes stand by rising id, so that none is there twice
pub record AreByRisingId (t : Tables) : Type 0 where
  pub log : InOrder id_before log_id t.log
  pub booking : InOrder id_before booking_id t.booking
  pub errorlog : InOrder id_before error_id t.errorlog
  pub cancelled : InOrder id_before cancelled_id t.cancelled
  pub cancels : InOrder id_before cancel_id t.cancels
