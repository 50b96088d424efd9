-- Calls of a keeper over a connection, by what its trait says of them.
use Rattle.std.specs.Prelude.{◌≡◌, ℕ, Result, IsTrue}
use Rattle.sqlite_trees.specs.Tree.{Trees}
use Rattle.sqlite_trees.specs.declared.store.Store.{Ghosts}
use Rattle.sqlite.specs.Held.{Held, state}
use Rattle.sqlite.specs.State.{HasCleanDisk}
use Rattle.mr_model.specs.Tables.{Tables}
use Rattle.mr_tables.specs.Change.{ChangeView}
use Rattle.mr_store.specs.KeeperCalls.{IsAtomic, IsQuiet}
use Rattle.mr_store.specs.declared.keeper.Fault.{Fault}
use Rattle.mr_rows.specs.Database.{tables_in}

-- it leaves the tables
abbrev pub IsQuietCall : {S X : Type 0} → Ghosts S → Held S × ℕ → Held S × ℕ → Result X Fault → Type 0
IsQuietCall g old new result =
    IsQuiet (λ (k : Held _ × ℕ). tables_in (state g k.0).now.trees) (λ (k : Held _ × ℕ). k.1) (λ (k : Held _ × ℕ). HasCleanDisk (state g k.0)) (λ (k : Held _ × ℕ). IsTrue (state g k.0).is_open)
    (λ (k : Held _ × ℕ) (t : Tables). (trees : Trees) × (state g k.0).may_leave trees × (t ≡ tables_in trees)) ⊥ old new result

-- it makes the change
abbrev pub IsAtomicCall : {S X : Type 0} → Ghosts S → ChangeView → Held S × ℕ → Held S × ℕ → Result X Fault → Type 0
IsAtomicCall g change old new result =
    IsAtomic (λ (k : Held _ × ℕ). tables_in (state g k.0).now.trees) (λ (k : Held _ × ℕ). k.1) (λ (k : Held _ × ℕ). HasCleanDisk (state g k.0)) (λ (k : Held _ × ℕ). IsTrue (state g k.0).is_open)
    (λ (k : Held _ × ℕ) (t : Tables). (trees : Trees) × (state g k.0).may_leave trees × (t ≡ tables_in trees)) ⊥ change old new result
