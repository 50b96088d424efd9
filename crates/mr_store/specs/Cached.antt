-- What a keeper with its rows in memory is to the keeper below it.
use Rattle.std.specs.Prelude.{◌≡◌, Bool, true, false, Option, Some, None, Result, OnOk}
use Rattle.mr_model.specs.Replica.{Replica}
use Rattle.mr_model.specs.Tables.{Tables, Stands}
use Rattle.mr_tables.specs.Change.{ChangeView, changed}
use Rattle.mr_store.specs.KeeperCalls.{failures_after, IsSettled}
use Rattle.mr_store.specs.declared.keeper.Fault.{Fault}
use Rattle.mr_store.specs.declared.keeper.Keeper.{Ghosts}

-- The rows in memory, where there are any, are those of the keeper: as long as nobody else has written it and no failure has shut it.
abbrev pub IsMemoryOf : {K : Type 0} → Ghosts K → K → Option Tables → Type 0
IsMemoryOf keeper k None = Unit {0}
IsMemoryOf keeper k (Some tables) = keeper.is_clean k → keeper.is_open k → tables ≡ keeper.tables k

-- and where there are any, no failure has shut the keeper
abbrev pub IsOpenWith : {K : Type 0} → Ghosts K → K → Option Tables → Type 0
IsOpenWith keeper k None = Unit {0}
IsOpenWith keeper k (Some tables) = keeper.is_clean k → keeper.is_open k

-- The keeper was asked, if it was in doubt, and has answered: it is open. If not, it is as it was.
abbrev pub IsConfirmed : {K : Type 0} → Ghosts K → K → Bool → K → Type 0
IsConfirmed keeper old true new = keeper.is_clean new → keeper.is_open new
IsConfirmed keeper old false new = new ≡ old

-- the change is made in the rows in memory; or there are none any more
abbrev pub IsMemoryAfter : ChangeView → Option Tables → Option Tables → Type 0
IsMemoryAfter change old None = Unit {0}
IsMemoryAfter change None (Some new) = ⊥
IsMemoryAfter change (Some old) (Some new) = new ≡ changed change old

-- The keeper below never answers that the store failed; and that none of its values was written by others or is shut, so that rows which
-- are read of it always are its own.
abbrev pub NeverFails : {K : Type 0} → Ghosts K → Type 0
NeverFails {K} keeper = keeper.never_fails × ((k : K) → keeper.is_clean k × keeper.is_open k)

-- The rows are asked for: a call that leaves the tables, but for this, that it may answer with nothing asked of the keeper.
pub record IsRecall {K X : Type 0} (keeper : Ghosts K) (old new : K) (result : Result X Fault) : Type 0 where
  pub clean : keeper.is_clean new → keeper.is_clean old
  pub opens : keeper.is_clean new → keeper.is_open new → keeper.is_open old
  pub lasts : keeper.is_clean new → keeper.is_open old → OnOk result (keeper.is_open new)
  pub same : keeper.is_clean new → keeper.is_open new → keeper.tables new ≡ keeper.tables old
  pub counts : keeper.failures new ≡ failures_after result (keeper.failures old)
  pub sure : NeverFails keeper → (a : Replica) → Stands (keeper.tables old) a → keeper.failures new ≡ keeper.failures old
  pub crash : keeper.is_clean new → (t : Tables) → keeper.may_leave new t → keeper.may_leave old t
  pub settled : keeper.is_clean new → keeper.is_open new → IsSettled (keeper.may_leave old) (keeper.tables old) → IsSettled (keeper.may_leave new) (keeper.tables new)
