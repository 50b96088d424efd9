-- The program's databases as those of offices: found again behind a crash, and founded.
use Rattle.std.specs.Prelude.{◌≢◌, ℕ, IsTrue}
use Rattle.std.specs.List.{AllByRecursion}
use Rattle.sqlite_trees.specs.Tree.{Trees}
use Rattle.sqlite_trees.specs.declared.store.Store as store
use Rattle.sqlite_catalog.specs.Listing.{IsSound}
use Rattle.sqlite.specs.Held.{Held, state}
use Rattle.sqlite.specs.State.{HasCleanDisk}
use Rattle.mr_model.specs.Writes.{is_server}
use Rattle.mr_store.specs.declared.keeper.Keeper.{Ghosts}
use Rattle.mr_rows.specs.Schema.{no_schema}
use Rattle.mr_sql.specs.Found.{IsAdopted}
use Rattle.mr_sql.specs.Opened.{IsNewKeeper}
use Rattle.mr_offices.specs.Standing.{Office, Offices}
use Rattle.mr_offices.specs.Happenings.{IsFounded, IsReopened, first_server}
use Rattle.mr_branches.specs.Sights.{sight_of}

-- a keeper (its connection, and its count of failures) that was found again behind a crash of another, on a clean disk, is that one's database, opened again
abbrev pub AreFoundAgain : {S : Type 0} → store.Ghosts S → Ghosts (Held S × ℕ) → Type 0
AreFoundAgain {S} g keeper =
    (old new : Held S × ℕ) → IsNewKeeper (state g old.0).may_leave (state g new.0) new.1 → HasCleanDisk (state g new.0)
    → IsReopened (sight_of keeper) old new

-- One that was made for a server and a primary, of a database without a table, is that of a new office, if no office has the number yet and the primary is the
-- first office's, or it is the first office.
abbrev pub AreFounded : {S : Type 0} → store.Ghosts S → Ghosts (Held S × ℕ) → Type 0
AreFounded {S} g keeper =
    (v : Offices (Held S × ℕ)) (server : ℕ) (before : Trees) (new : Held S × ℕ)
    → IsTrue (is_server server) → AllByRecursion (λ (o : Office (Held S × ℕ)). o.server ≢ server) v.offices → IsSound no_schema before
    → IsNewKeeper (IsAdopted server (first_server v.offices server) before) (state g new.0) new.1 → HasCleanDisk (state g new.0)
    → IsFounded (sight_of keeper) v server new
