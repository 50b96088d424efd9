-- A database that holds a replica is refused as one whose store failed only if the store failed.
use Rattle.std.proofs.Common.{◌≡◌, ◌≢◌, inl, inr, ℕ, ◌≤◌, ◌<◌, None, Result, Ok, Err, length, IsTrue, IfErr, sym, ◌∙◌, arith}
use Rattle.sqlite_disk.specs.Disk.{MoreFaults}
use Rattle.sqlite_trees.specs.Tree.{Trees}
use Rattle.sqlite_trees.specs.declared.error.StoreError.{StoreError}
use Rattle.sqlite_trees.specs.declared.error.StoreError.TheVariants.{OutOfMemory, Io, Corrupt, Full, Broken, Unstorable}
use Rattle.sqlite_rules.specs.Calls.{Excuses}
use Rattle.sqlite_schema.specs.declared.schema.Schema.{Schema}
use Rattle.sqlite_catalog.specs.Listing.{IsSound}
use Rattle.sqlite.specs.State.{State, store_error}
use Rattle.sqlite.specs.Steps.{FailsToOpen}
use Rattle.sqlite.specs.declared.error.Error.{Error}
use Rattle.sqlite.specs.declared.error.Error.TheVariants.{SqliteFailure}
use Rattle.sqlite.specs.declared.error.ErrorCode.TheVariants as code
use Rattle.mr_base.specs.declared.refusals.Refusal.{Refusal}
use Rattle.mr_base.specs.declared.refusals.Refusal.TheVariants as refusal
use Rattle.mr_rows.specs.Schema.{our_schema}
use Rattle.mr_rows.specs.Shown.{AreOurRows}
use Rattle.mr_rows.specs.Causes.{IsOfStore, FailsByStoreIn}
use Rattle.mr_rows.proofs.HeldRows.{rows_held}
use Rattle.mr_sql.specs.Found.{IsTaken}
use Rattle.mr_sql.specs.Failed.{StoreFailed, HoldReplica}
use Rattle.mr_sql.proofs.FailedReads.{of_store}
use Rattle.mr_sql.proofs.TakenLemmas.{of_schema}

-- an error of which this is known, told as a refusal
pub store_failed : (old new : State) (e : Error) (r : Refusal) → (e ≡ SqliteFailure code.OutOfMemory → r ≡ refusal.OutOfMemory)
    → (e ≢ SqliteFailure code.OutOfMemory → IsOfStore old new e) → r ≡ refusal.Store → StoreFailed old new
store_failed old new e r memory cause is = of_store old new e other (cause other)
  where
    other : e ≢ SqliteFailure code.OutOfMemory
    other out = let both = sym (memory out) ∙ is in cc

-- want of memory alone is no failure of the store
pub only_memory : {X : Type 0} (under : Schema) (Rows : Trees → Type 0) (old new : State) (r : Result X Error) → IfErr r (λ e. e ≡ SqliteFailure code.OutOfMemory) → FailsByStoreIn under Rows old new r
only_memory under Rows old new (Ok x) memory = λ clean here rows. tt
only_memory under Rows old new (Err e) memory = λ clean here rows other. absurd (other memory)

-- a database that holds a replica has rows that are read
pub rows_found : (trees : Trees) → HoldReplica trees → AreOurRows trees × (length (trees 0) ≤ 1)
rows_found trees held =
    let rows = rows_held trees held.2.0 held.1 held.2.1 in
    let one = rows.1 in
    (rows.0, omega (arith, one))

-- and it has our schema
pub holds_ours : (s : State) → IsTaken s → HoldReplica s.now.trees → s.now.schema ≡ our_schema
holds_ours s taken held = of_schema s our_schema taken held.0

-- ---- of a connection that was just opened

-- its disk failed
pub disk_failed : (old new : State) → IsTrue old.is_open → old.step_limit ≡ None → StoreFailed old new → 0 < new.faults
disk_failed old new now free (inl more) = omega (arith, more)
disk_failed old new now free (inr (inl shut)) = absurd (let never = rw shut at now in cc)
disk_failed old new now free (inr (inr limit)) = absurd (let never = rw free at limit in cc)

-- a store that holds a database is taken for none only if its disk failed
pub not_opened : (trees : Trees) (schema : Schema) (first old new : ℕ) (e : Error) → IsSound schema trees → first ≤ old
    → FailsToOpen trees (MoreFaults old new) e → e ≢ SqliteFailure code.OutOfMemory → MoreFaults first new
not_opened trees schema first old new e sound less (inl none) other = absurd (none.1 schema sound)
not_opened trees schema first old new e sound less (inr (k, same, had)) other = go k same had
  where
    go : (k : StoreError) → e ≡ store_error k → Excuses (MoreFaults old new) ⊥ k → MoreFaults first new
    go OutOfMemory same had = absurd (other same)
    go Io same had = omega (arith, less, had)
    go Corrupt same had = omega (arith, less, had)
    go Full same had = omega (arith, less, had)
    go Broken same had = absurd had
    go Unstorable same had = absurd had
