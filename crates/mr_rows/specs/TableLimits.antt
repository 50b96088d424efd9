-- Tables whose rows are all within the limits, as those of a replica are.
use Rattle.std.specs.Prelude.{◌≡◌, IsTrue, length}
use Rattle.std.specs.List.{AllByRecursion}
use Rattle.sqlite_trees.specs.Tree.{Trees}
use Rattle.mr_model.specs.Writes.{is_room_name}
use Rattle.mr_model.specs.Replica.{Replica}
use Rattle.mr_model.specs.Tables.{Tables, Stands}
use Rattle.mr_rows.specs.Database.{AreHeld, tables_in}
use Rattle.mr_rows.specs.Shown.{AreOurRows}
use Rattle.mr_rows.specs.RowLimits.{is_meta_row, is_vector_row, is_log_row, is_booking_row, is_error_row, is_cancelled_row, is_cancel_row}

pub record AreWithinLimits (t : Tables) : Type 0 where
  pub meta : IsTrue (is_meta_row t.meta)
  pub room : AllByRecursion (λ row. IsTrue (is_room_name row)) t.room
  pub vector : AllByRecursion (λ row. IsTrue (is_vector_row row)) t.vector
  pub log : AllByRecursion (λ row. IsTrue (is_log_row row)) t.log
  pub booking : AllByRecursion (λ row. IsTrue (is_booking_row row)) t.booking
  pub errorlog : AllByRecursion (λ row. IsTrue (is_error_row row)) t.errorlog
  pub cancelled : AllByRecursion (λ row. IsTrue (is_cancelled_row row)) t.cancelled
  pub cancels : AllByRecursion (λ row. IsTrue (is_cancel_row row)) t.cancels

abbrev pub LimitsAreKept : Type 0
LimitsAreKept = (t : Tables) (r : Replica) → Stands t r → AreWithinLimits t

-- rows that a keeper holds for a replica can all be read, and `meta` has one
abbrev pub HeldRowsAreOurs : Type 0
HeldRowsAreOurs = (trees : Trees) (r : Replica) → AreHeld trees → Stands (tables_in trees) r → AreOurRows trees × (length (trees 0) ≡ 1)
