-- When a keeper that fails once fails, and what a keeper's calls are to it, by its ghosts.
use Rattle.std.specs.Prelude.{◌≡◌, ◌-◌, ◌==◌, ◌&&◌, ◌||◌, Bool, true, not, Result, Err}
use Rattle.mr_tables.specs.Change.{ChangeView}
use Rattle.mr_store.specs.KeeperCalls.{IsQuiet, IsAtomic}
use Rattle.mr_store.specs.declared.keeper.Fault.{Fault}
use Rattle.mr_store.specs.declared.keeper.Keeper.{Ghosts}
use Rattle.mr_store.specs.declared.tripped.Tripped.{Tripped}

-- the next call is the one that fails
abbrev pub is_due : {K : Type 0} → Tripped K → Bool
is_due k = not k.is_over && k.left == 0

-- The call that fails answers the fault, leaves the keeper below as it was, and is the only one that makes it over. Each call counts.
pub record IsTripped {K X : Type 0} (old new : Tripped K) (result : Result X Fault) : Type 0 where
  pub fails : is_due old ≡ true → (result ≡ Err old.fault) × (new.keeper ≡ old.keeper)
  pub once : new.is_over ≡ (old.is_over || is_due old)
  pub left : new.left ≡ old.left - 1
  pub fault : new.fault ≡ old.fault

-- ---- the trait's clauses of a call

-- it leaves the tables as they are
abbrev pub IsQuietAt : {K X : Type 0} → Ghosts K → K → K → Result X Fault → Type 0
IsQuietAt keeper old new result = IsQuiet keeper.tables keeper.failures keeper.is_clean keeper.is_open keeper.may_leave keeper.never_fails old new result

-- it makes the change
abbrev pub IsAtomicAt : {K X : Type 0} → Ghosts K → ChangeView → K → K → Result X Fault → Type 0
IsAtomicAt keeper change old new result = IsAtomic keeper.tables keeper.failures keeper.is_clean keeper.is_open keeper.may_leave keeper.never_fails change old new result
