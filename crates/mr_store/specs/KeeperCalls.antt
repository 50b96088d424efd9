-- What calls of a keeper answer, what a crash may leave, and what each call is to its keeper.
use Rattle.std.specs.Prelude.{◌≡◌, ℕ, ◌+◌, ◌⊎◌, Result, Ok, Err, OnOk, OnErr}
use Rattle.mr_model.specs.Replica.{Replica}
use Rattle.mr_model.specs.Tables.{Tables, Stands}
use Rattle.mr_base.specs.declared.refusals.Refusal.{Refusal}
use Rattle.mr_base.specs.declared.refusals.Refusal.TheVariants as refusal
use Rattle.mr_tables.specs.Change.{ChangeView, changed}
use Rattle.mr_store.specs.declared.keeper.Fault.{Fault}
use Rattle.mr_store.specs.declared.keeper.Fault.TheVariants as fault

abbrev pub fault_refusal : Fault → Refusal
fault_refusal fault.OutOfMemory = refusal.OutOfMemory
fault_refusal fault.Store = refusal.Store

abbrev pub failures_for : Fault → ℕ → ℕ
failures_for fault.OutOfMemory n = n
failures_for fault.Store n = n + 1

-- a fault of the store is counted
abbrev pub failures_after : {X : Type 0} → Result X Fault → ℕ → ℕ
failures_after (Ok x) n = n
failures_after (Err e) n = failures_for e n

-- a crash would leave these tables and no others
abbrev pub IsSettled : (Tables → Type 0) → Tables → Type 0
IsSettled may_leave t = (u : Tables) → may_leave u → u ≡ t

-- ---- calls of a keeper, by what its ghosts say of it before and after the call

-- It leaves the tables as they are, and a crash may leave nothing more than before. A failure of the store is counted. An answer comes of an
-- open keeper alone, and leaves it open; a failed call may shut it.
pub record IsQuiet {K X : Type 0} (tables : K → Tables) (failures : K → ℕ) (is_clean is_open : K → Type 0) (may_leave : K → Tables → Type 0) (never_fails : Type 0) (old new : K) (result : Result X Fault) : Type 0 where
  pub clean : is_clean new → is_clean old
  pub opens : is_clean new → is_open new → is_open old
  pub lasts : is_clean new → is_open old → OnOk result (is_open new)
  pub answered : is_clean new → OnOk result (is_open old)
  pub same : is_clean new → is_open new → tables new ≡ tables old
  pub counts : failures new ≡ failures_after result (failures old)
  pub sure : never_fails → (a : Replica) → Stands (tables old) a → failures new ≡ failures old
  pub crash : is_clean new → (t : Tables) → may_leave new t → may_leave old t
  pub settled : is_clean new → is_open new → IsSettled (may_leave old) (tables old) → IsSettled (may_leave new) (tables new)

-- The tables have the whole change afterwards; where it is refused, nothing of it. A crash may leave either; of a shut keeper, nothing more than
-- before. The rest is as for a call that leaves the tables.
pub record IsAtomic {K X : Type 0} (tables : K → Tables) (failures : K → ℕ) (is_clean is_open : K → Type 0) (may_leave : K → Tables → Type 0) (never_fails : Type 0) (change : ChangeView) (old new : K) (result : Result X Fault) : Type 0 where
  pub clean : is_clean new → is_clean old
  pub opens : is_clean new → is_open new → is_open old
  pub lasts : is_clean new → is_open old → OnOk result (is_open new)
  pub answered : is_clean new → OnOk result (is_open old)
  pub applied : is_clean new → is_open new → OnOk result (tables new ≡ changed change (tables old))
  pub refused : is_clean new → is_open new → OnErr result (tables new ≡ tables old)
  pub counts : failures new ≡ failures_after result (failures old)
  pub sure : never_fails → (a : Replica) → Stands (tables old) a → failures new ≡ failures old
  pub crash : is_clean new → (t : Tables) → may_leave new t → may_leave old t ⊎ (is_open old × (t ≡ changed change (tables old)))
  pub settled : is_clean new → is_open new → IsSettled (may_leave old) (tables old) → IsSettled (may_leave new) (tables new)
