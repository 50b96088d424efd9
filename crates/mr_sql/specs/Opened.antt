-- What is known of a keeper that was just opened, and of what comes back of a database that is refused.
use Rattle.std.specs.Prelude.{◌≡◌, ◌⊎◌, ◌<◌, ℕ, false, Result, Ok, Err, IsTrue}
use Rattle.sqlite_disk.specs.Disk.{MoreFaults}
use Rattle.sqlite_trees.specs.Tree.{Trees}
use Rattle.sqlite_trees.specs.View.{IsClean}
use Rattle.sqlite_trees.specs.declared.store.Store.{Ghosts}
use Rattle.sqlite_catalog.specs.Listing.{IsSound}
use Rattle.sqlite.specs.Held.{Held, state}
use Rattle.sqlite.specs.Recovery.{Image}
use Rattle.sqlite.specs.State.{State, HasCleanDisk}
use Rattle.mr_base.specs.declared.refusals.Refusal.{Refusal}
use Rattle.mr_base.specs.declared.refusals.Refusal.TheVariants as refusal
use Rattle.mr_rows.specs.Schema.{no_schema}
use Rattle.mr_sql.specs.Found.{IsAdopted, IsResumed, LeavesTables, StaysAs}
use Rattle.mr_sql.specs.Refused.{AreSomebodys, IsAnothers, IsFoundIn, IsNobodys}
use Rattle.mr_sql.specs.Failed.{HoldReplica}

-- No call of the keeper has failed. On a clean disk it is open, its tables are such, and a crash would leave them and nothing else.
pub record IsNewKeeper (AreSuch : Trees → Type 0) (s : State) (failures : ℕ) : Type 0 where
  pub opens : HasCleanDisk s → IsTrue s.is_open
  pub opened : HasCleanDisk s → AreSuch s.now.trees
  pub settled : HasCleanDisk s → LeavesTables s
  pub uncounted : failures ≡ 0

-- what these became of tables that files of these bytes held
abbrev pub AreFrom : Image → (Trees → Trees → Type 0) → Trees → Type 0
AreFrom image Became after = (before : Trees) × IsFoundIn image before × Became before after

-- ---- refusals

-- why a database isn't opened
abbrev pub IsOfOpening : Refusal → Type 0
IsOfOpening e = (e ≡ refusal.OutOfMemory) ⊎ ((e ≡ refusal.Store) ⊎ (e ≡ refusal.NotAReplica))

-- When a database with these trees is refused, and what is left of it: 26 comes only of tables that are strange, 25 only of tables that may fail,
-- and of a replica's only if the disk failed.
pub record IsRefusedAs (AreStrange MayFail : Trees → Type 0) (before : Trees) (e : Refusal) (s : State) : Type 0 where
  pub strange : e ≡ refusal.NotAReplica → AreStrange before
  pub store : e ≡ refusal.Store → MayFail before
  pub failed : HoldReplica before → e ≡ refusal.Store → 0 < s.faults
  pub stays : IsTrue s.is_open → StaysAs before s

-- and what a crash would leave: what was committed, or what it would have become
pub record IsGivenBack (AreStrange MayFail : Trees → Type 0) (Became : Trees → Trees → Type 0) (before : Trees) (e : Refusal) (s : State) : Type 0 where
  pub refused : IsRefusedAs AreStrange MayFail before e s
  pub crash : (trees : Trees) → s.may_leave trees → (trees ≡ before) ⊎ Became before trees

-- tables that were to be those of this server and primary
abbrev pub RefusesToAdopt : ℕ → ℕ → Trees → Refusal → State → Type 0
RefusesToAdopt server primary = IsGivenBack (IsAnothers server primary) (λ trees. IsSound no_schema trees ⊎ AreSomebodys trees) (IsAdopted server primary)

-- and those that were to be a replica's, whichever it is
abbrev pub RefusesToResume : Trees → Refusal → State → Type 0
RefusesToResume = IsGivenBack IsNobodys AreSomebodys IsResumed

-- A store that can't be read as a database comes back with what was committed. Of a replica's tables it says 25 only if its disk failed, or it had
-- been shut.
pub record IsStoreBack {S : Type 0} (g : Ghosts S) (old : State) (e : Refusal) (store : S) : Type 0 where
  pub cause : (e ≡ refusal.OutOfMemory) ⊎ (e ≡ refusal.Store)
  pub back : IsClean (g.view store) → IsTrue (g.view store).is_open → (g.view store).trees ≡ old.committed.trees
  pub failed_back : IsClean (g.view store) → HoldReplica old.committed.trees → e ≡ refusal.Store
      → MoreFaults old.faults (g.faults store) ⊎ (old.is_open ≡ false)
  pub crash_back : (trees : Trees) → g.recovers store trees → old.may_leave trees

-- a connection is refused so, and comes back, or its store does if it can't be opened anew
abbrev pub ComesBack : {S : Type 0} → (g : Ghosts S) → (Trees → Refusal → State → Type 0) → State → Refusal → Result (Held S) S → Type 0
ComesBack g Refuses old e (Ok c) = HasCleanDisk (state g c) → HasCleanDisk old × Refuses old.committed.trees e (state g c)
ComesBack g Refuses old e (Err store) = IsStoreBack g old e store

-- what files of these bytes held is refused so
abbrev pub ComesBackFrom : Image → (Trees → Refusal → State → Type 0) → Refusal → State → Type 0
ComesBackFrom image Refuses e s = HasCleanDisk s → (before : Trees) × IsFoundIn image before × Refuses before e s
