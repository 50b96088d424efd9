-- The kept writes that parts share: when a list is that of the rows of the log.
use Rattle.std.specs.Prelude.{◌≡◌, ℕ, Bool, true, List, IsTrue}
use Rattle.std.specs.Ordering.{is_lt}
use Rattle.mr_model.specs.Dropped.{Has}
use Rattle.mr_model.specs.Replay.{Place}
use Rattle.mr_model.specs.Writes.{Write, is_write}
use Rattle.mr_model.specs.Tables.{LogRow, log_row_with}
use Rattle.mr_tables.specs.TableOrders.{InOrder}
use Rattle.mr_part.specs.declared.kept_rows.KeptRow.{KeptRow}
use Rattle.mr_part.specs.declared.kept_rows.RunPlace.{RunPlace}
use Rattle.mr_part.specs.KeptRows.{kept_row_with, run_place, run_cmp}
use Rattle.mr_part.specs.WithoutChoices.{without_choices, kept_without_choices}

-- the kept row tells what the row of the log does, and is that of each write that the row is of
pub record IsTold (row : LogRow) (x : KeptRow) : Type 0 where
  pub told : kept_without_choices x ≡ without_choices row
  pub only : (w : Write) (place : Place) (seq : ℕ) → IsTrue (is_write w) → row ≡ log_row_with w place seq → x ≡ kept_row_with w seq place

-- the order of execution
abbrev pub run_before : RunPlace → RunPlace → Bool
run_before a b = is_lt (run_cmp a b)

abbrev pub AreKeptInRunOrder : List KeptRow → Type 0
AreKeptInRunOrder rows = InOrder run_before run_place rows

-- each row of the log is told by one of these, and each of them tells a row of the log
pub record AreTold (log : List LogRow) (rows : List KeptRow) : Type 0 where
  pub each : (row : LogRow) → Has row log → (x : KeptRow) × Has x rows × IsTold row x
  pub own : (x : KeptRow) → Has x rows → (row : LogRow) × Has row log × IsTold row x

-- and they stand in the order of execution
pub record IsSharedLog (log : List LogRow) (rows : List KeptRow) : Type 0 where
  pub told : AreTold log rows
  pub order : AreKeptInRunOrder rows
