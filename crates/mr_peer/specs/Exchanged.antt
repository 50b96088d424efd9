-- What one call of an exchange did over a keeper, as one record.
use Rattle.std.specs.Prelude.{◌⊎◌, Result, IfOk}
use Rattle.mr_model.specs.Replica.{Replica}
use Rattle.mr_model.specs.Tables.{Tables, Stands}
use Rattle.mr_store.specs.KeeperCalls.{IsSettled}
use Rattle.mr_store.specs.declared.keeper.Keeper.{Ghosts}
use Rattle.mr_http.specs.declared.faults.WebFault.{WebFault}

-- The keeper before the call and after it, and its result. Each replica that the tables stood for becomes one that they stand for, as
-- `Becomes` tells; of a keeper that a failure has shut, it becomes some replica so. A crash leaves tables that it might have left before,
-- or those that are `Reached`.
pub record IsExchanged {K X : Type 0} (keeper : Ghosts K) (old new : K) (result : Result X WebFault)
    (Becomes : Replica → Result X WebFault → Replica → Type 0) (Reached : Tables → Type 0) : Type 0 where
  pub clean : keeper.is_clean new → keeper.is_clean old
  pub opens : keeper.is_clean new → keeper.is_open new → keeper.is_open old
  pub settled : keeper.is_clean new → keeper.is_open new → IsSettled (keeper.may_leave old) (keeper.tables old)
      → IsSettled (keeper.may_leave new) (keeper.tables new)
  pub stands : keeper.is_clean new → keeper.is_open new → (a : Replica) → Stands (keeper.tables old) a
      → (b : Replica) × Stands (keeper.tables new) b × Becomes a result b
  pub answered : keeper.is_clean new → keeper.is_open old → (a : Replica) → Stands (keeper.tables old) a → (b : Replica) × Becomes a result b
  pub lasts : IfOk result (λ _. keeper.is_clean new → keeper.is_open old → keeper.is_open new)
  pub crash : keeper.is_clean new → keeper.is_open old → (t : Tables) → keeper.may_leave new t → keeper.may_leave old t ⊎ Reached t
