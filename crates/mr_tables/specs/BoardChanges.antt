-- What the tables tell of an id, and the board that tells it anew for some ids.
use Rattle.std.specs.Prelude.{if◌then◌else◌, List, [], ◌∷◌, map, Option, Some, None, option_map}
use Rattle.std.specs.List.{find}
use Rattle.std.specs.Option.{option_or}
use Rattle.std.specs.BTreeMap.{insert_entry}
use Rattle.std.specs.Map.{remove_entry}
use Rattle.mr_model.specs.Writes.{Id, same_id}
use Rattle.mr_model.specs.Tables.{CancelRow, Tables}
use Rattle.mr_model.specs.Queries.{booking_id, error_id, cancelled_id, cancel_id}
use Rattle.mr_base.specs.Ids.{id_cmp}
use Rattle.mr_replay.specs.declared.rows.Row.{Row}
use Rattle.mr_replay.specs.Rows.{Rows}
use Rattle.mr_replay.specs.Holds.{AreDistinct}
use Rattle.mr_tables.specs.Boards.{booking_entry, error_entry, cancelled_entry, cancel_entry, is_void}

-- the row of an id in one table
abbrev pub row_with_id : {R : Type 0} → (R → Id) → Id → List R → Option R
row_with_id key i rows = find (λ row. same_id (key row) i) rows

-- no id stands twice in a table that tells a board
pub record HaveOneRowEach (t : Tables) : Type 0 where
  pub booking : AreDistinct (map booking_id t.booking)
  pub errorlog : AreDistinct (map error_id t.errorlog)
  pub cancelled : AreDistinct (map cancelled_id t.cancelled)
  pub cancels : AreDistinct (map cancel_id t.cancels)

-- ---- what the tables tell of an id

abbrev pub void_told : CancelRow → Option Row
void_told row = if is_void row then Some (cancel_entry row).1 else None

abbrev pub cancel_told : Option CancelRow → Option Row
cancel_told None = None
cancel_told (Some row) = void_told row

abbrev pub row_told : Tables → Id → Option Row
row_told t i =
    option_or (cancel_told (row_with_id cancel_id i t.cancels))
    (option_or (option_map (λ row. (cancelled_entry row).1) (row_with_id cancelled_id i t.cancelled))
    (option_or (option_map (λ row. (error_entry row).1) (row_with_id error_id i t.errorlog)) (option_map (λ row. (booking_entry row).1) (row_with_id booking_id i t.booking))))

-- the board with this row under an id, or with none
abbrev pub with_told : Rows → Id → Option Row → Rows
with_told b i None = remove_entry (same_id i) b
with_told b i (Some row) = insert_entry id_cmp b i row

-- the board once each of these ids is told by the tables
abbrev pub told_anew : Tables → List Id → Rows → Rows
told_anew t [] b = b
told_anew t (i ∷ is) b = told_anew t is (with_told b i (row_told t i))
