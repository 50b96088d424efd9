-- Rows of the first schema as the cells of their tables, and back, where the second schema has other ones; and their limits.
use Rattle.std.specs.Prelude.{pos, negsuc, zero, suc, Bool, true, false, ◌&&◌, nat_le, [], ◌∷◌}
use Rattle.sqlite_value.specs.declared.value.Value.{Value}
use Rattle.sqlite_value.specs.declared.value.Value.TheVariants.{Null, Int, Real, Text, Blob}
use Rattle.sqlite_value.specs.Order.{Row, column, bytes}
use Rattle.mr_model.specs.Writes.{is_server, is_count, is_time, is_room_name, is_title, is_length}
use Rattle.mr_model.specs.Replay.{Place, Taken, Logged, Done, Void}
use Rattle.mr_model.specs.First.{WriteRow, FirstUndoRow}
use Rattle.mr_rows.specs.RowCells.{nat_of, whole_of, place_number, place_in}
use Rattle.mr_rows.specs.RowLimits.{is_choices, is_commit}
use Rattle.mr_rows.specs.Columns.{Columns}

abbrev pub write_cells : WriteRow → Row
write_cells w = Int (pos w.server) ∷ Int (pos w.n) ∷ Int (pos w.time) ∷ Text w.room ∷ Int (pos w.length) ∷ Text w.choices ∷ Text w.title ∷ Int (pos w.seq) ∷ []

abbrev pub write_row_from : Row → WriteRow
write_row_from r = record {
  server = nat_of (column r 1);
  n = nat_of (column r 2);
  time = nat_of (column r 3);
  room = bytes (column r 4);
  length = nat_of (column r 5);
  choices = bytes (column r 6);
  title = bytes (column r 7);
  seq = nat_of (column r 8);
}

abbrev pub undo_cells : FirstUndoRow → Row
undo_cells u = Int (pos u.server) ∷ Int (pos u.n) ∷ Int (place_number u.place) ∷ []

abbrev pub undo_in : Row → FirstUndoRow
undo_in r = record { server = nat_of (column r 1); n = nat_of (column r 2); place = place_in (whole_of (column r 3)) }

-- ---- limits

abbrev pub is_write_row : WriteRow → Bool
is_write_row w =
    is_server w.server && is_count w.n && is_time w.time && is_room_name w.room && is_length w.length && is_choices w.length w.choices && is_title w.title
    && is_commit w.seq

-- of a booking with at most eight alternatives
abbrev pub is_first_place : Place → Bool
is_first_place (Taken k) = nat_le k 8
is_first_place Logged = true
is_first_place Done = false
is_first_place Void = false

abbrev pub is_undo_row : FirstUndoRow → Bool
is_undo_row u = is_server u.server && is_count u.n && is_first_place u.place

-- ---- the same, as a test of cells where they lie tells

abbrev pub is_first_place_cell : Value → Bool
is_first_place_cell Null = false
is_first_place_cell (Int (pos k)) = nat_le k 8
is_first_place_cell (Int (negsuc zero)) = true
is_first_place_cell (Int (negsuc (suc n))) = false
is_first_place_cell (Real x) = false
is_first_place_cell (Text t) = false
is_first_place_cell (Blob b) = false

-- the place of a booking with at most eight alternatives
abbrev pub first_place_columns : Columns Place
first_place_columns =
    record { width = 1; cells = λ p. Int (place_number p) ∷ []; value_in = λ r. place_in (whole_of (column r 0)); are = λ r. is_first_place_cell (column r 0); within = is_first_place }
