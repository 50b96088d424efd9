-- What moving up makes of a database of the first schema.
use Rattle.std.specs.Prelude.{◌≡◌, true, List, length, map, IsTrue, Result, OnOk, OnErr}
use Rattle.sqlite_trees.specs.Tree.{Trees}
use Rattle.sqlite.specs.State.{State, HasCleanDisk}
use Rattle.sqlite.specs.declared.error.Error.{Error}
use Rattle.mr_model.specs.Replica.{Replica}
use Rattle.mr_model.specs.Tables.{Tables}
use Rattle.mr_model.specs.First.{WriteRow, FirstUndoRow, FirstTables, StandsFirst, moved}
use Rattle.mr_model.specs.Changes.{AreInKeyOrder}
use Rattle.mr_agree.specs.Agreeing.{agree}
use Rattle.mr_rows.specs.Database.{IsApplied, tables_in}
use Rattle.mr_first.specs.Forms.{write_id, undo_id}
use Rattle.mr_first.specs.FirstDatabase.{AreHeldFirst, IsKeptFirst, first_in}
use Rattle.mr_first.specs.FirstShown.{AreFirstRows}

-- the rows of both logs have the same keys, one after the other
abbrev pub ArePaired : List WriteRow → List FirstUndoRow → Type 0
ArePaired ws us = map write_id ws ≡ map undo_id us

-- the logs of a replica's first tables do
abbrev pub LogsOfReplicasArePaired : Type 0
LogsOfReplicasArePaired = (t : FirstTables) (r : Replica) → StandsFirst t r → ArePaired t.write_log t.undo

-- the first tables of a replica, moved up, have rows that agree with each other, in the order of their keys
abbrev pub MovedTablesOfReplicasAgree : Type 0
MovedTablesOfReplicasAgree = (t : FirstTables) (r : Replica) → StandsFirst t r → (agree (moved t) ≡ true) × AreInKeyOrder (moved t)

-- ---- rows that moving up doesn't refuse

-- all rows can be read, there is one of `meta`, all rows of both logs have partners, and they agree with each other once they are moved
pub record CanMoveUp (trees : Trees) : Type 0 where
  pub rows : AreFirstRows trees
  pub one_meta : length (trees 0) ≡ 1
  pub paired : ArePaired (first_in trees).write_log (first_in trees).undo
  pub agrees : agree (moved (first_in trees)) ≡ true
  pub in_order : AreInKeyOrder (moved (first_in trees))

-- rows that a keeper holds for a replica's first tables are such
abbrev pub FirstTablesOfReplicasMoveUp : Type 0
FirstTablesOfReplicasMoveUp = (trees : Trees) (r : Replica) → AreHeldFirst trees → StandsFirst (first_in trees) r → CanMoveUp trees

-- ---- the move

-- The first tables became these of the second schema, or the database is as it was. It is asked of an honest disk, and of a connection
-- that no failure of the disk has shut.
abbrev pub MovesTo : State → State → Tables → Result (Unit {0}) Error → Type 0
MovesTo old new t result =
    HasCleanDisk new → IsTrue new.is_open → IsTrue old.is_open
    × (IsKeptFirst old → OnOk result (IsApplied old new t) × OnErr result ((new.now ≡ old.now) × (new.committed ≡ old.committed)))

-- what a crash may leave beside what it could leave before: the moved tables
abbrev pub IsMoved : State → Tables → Trees → Type 0
IsMoved old t trees = IsKeptFirst old → tables_in trees ≡ t
