-- Rows of tables in the order of their keys, and how tables are refused whose rows aren't.
use Rattle.std.specs.Prelude.{◌≡◌, nat_lt}
use Rattle.mr_base.specs.declared.refusals.Refusal.{Refusal}
use Rattle.mr_base.specs.declared.refusals.Refusal.TheVariants as refusal
use Rattle.mr_model.specs.Replica.{text_before}
use Rattle.mr_model.specs.Tables.{Tables}
use Rattle.mr_model.specs.Queries.{booking_id, error_id, cancelled_id, cancel_id, log_id}
use Rattle.mr_tables.specs.Change.{id_before}
use Rattle.mr_tables.specs.TableOrders.{InOrder}

-- the rows of each table are in the order of their keys
pub record AreInOrder (t : Tables) : Type 0 where
  pub room : InOrder text_before (λ name. name) t.room
  pub vector : InOrder nat_lt (λ row. row.server) t.vector
  pub log : InOrder id_before log_id t.log
  pub booking : InOrder id_before booking_id t.booking
  pub errorlog : InOrder id_before error_id t.errorlog
  pub cancelled : InOrder id_before cancelled_id t.cancelled
  pub cancels : InOrder id_before cancel_id t.cancels

-- the tables are refused with this one: out of memory if their rows are in order, and else as rows that break their rules
pub record IsDueOver (tables : Tables) (e : Refusal) : Type 0 where
  pub ordered : AreInOrder tables → e ≡ refusal.OutOfMemory
  pub unordered : (AreInOrder tables → ⊥) → e ≡ refusal.Store
