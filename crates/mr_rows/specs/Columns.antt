-- How values stand in the cells of a row, one beside the other.
use Rattle.std.specs.Prelude.{◌≡◌, ℕ, ◌+◌, ◌==◌, pos, Bool, true, ◌&&◌, take, drop, [], ◌∷◌, ◌++◌, length, map}
use Rattle.std.specs.Bool.{Decides}
use Rattle.sqlite_value.specs.declared.value.Value.TheVariants.{Int, Text}
use Rattle.sqlite_value.specs.Order.{Row, column, bytes}
use Rattle.sqlite.specs.Values.{bound_value}
use Rattle.mr_model.specs.Texts as texts
use Rattle.mr_model.specs.Texts.{within}
use Rattle.mr_model.specs.Calendar.{Date, is_date, date_text, date_in}
use Rattle.mr_model.specs.Writes.{Id, is_id, is_room_name, is_title}
use Rattle.mr_model.specs.Replay.{Place}
use Rattle.mr_model.specs.Tables.{ActionCells, MeetingCells}
use Rattle.mr_tables.specs.Cells.{is_cancel_cells}
use Rattle.mr_rows.specs.RowCells.{nat_of, whole_of, flag_number, place_number, place_in, action_row, action_in}
use Rattle.mr_rows.specs.RowLimits.{is_day_text, is_meeting_cells, is_action_cells, is_place_of}
use Rattle.mr_rows.specs.CellLimits.{is_number_cell, is_text, is_mark_cell, is_span_cells, is_id_cells, are_meeting_cells, are_logged_cells}

-- values V in so many cells: how they are spelled, what is read of cells, whether these pass their tests, and the limits of the values
pub record Columns (V : Type 0) : Type 0 where
  pub width : ℕ
  pub cells : V → Row
  pub value_in : Row → V
  pub are : Row → Bool
  pub within : V → Bool

-- The test tells whether these cells are spelled as what is read of them, and whether that is within a limit.
pub record ShowsCells (test : Bool) (spelled cells : Row) (limit : Bool) : Type 0 where
  pub long : length spelled ≡ length cells
  pub told : Decides test ((spelled ≡ cells) × (limit ≡ true))

-- so it is of as many cells as these are
abbrev pub AreShown : {V : Type 0} → Columns V → Type 0
AreShown c = (r : Row) → length r ≡ c.width → ShowsCells (c.are r) (c.cells (c.value_in r)) r (c.within (c.value_in r))

-- their cells are so many, and a statement takes them as they are
abbrev pub AreSpelled : {V : Type 0} → Columns V → Type 0
AreSpelled {V} c = (x : V) → (length (c.cells x) ≡ c.width) × (map bound_value (c.cells x) ≡ c.cells x)

-- ---- one value

abbrev pub number_columns : ℕ → ℕ → Columns ℕ
number_columns low high = record { width = 1; cells = λ n. Int (pos n) ∷ []; value_in = λ r. nat_of (column r 0); are = λ r. is_number_cell low high (column r 0); within = within low high }

abbrev pub mark_columns : Columns Bool
mark_columns = record { width = 1; cells = λ b. Int (flag_number b) ∷ []; value_in = λ r. nat_of (column r 0) == 1; are = λ r. is_mark_cell (column r 0); within = λ _. true }

abbrev pub name_columns : Columns texts.Text
name_columns = record { width = 1; cells = λ t. Text t ∷ []; value_in = λ r. bytes (column r 0); are = λ r. is_text is_room_name (column r 0); within = is_room_name }

abbrev pub title_columns : Columns texts.Text
title_columns = record { width = 1; cells = λ t. Text t ∷ []; value_in = λ r. bytes (column r 0); are = λ r. is_text is_title (column r 0); within = is_title }

abbrev pub day_columns : Columns Date
day_columns = record { width = 1; cells = λ d. Text (date_text d) ∷ []; value_in = λ r. date_in (bytes (column r 0)); are = λ r. is_text is_day_text (column r 0); within = is_date }

abbrev pub id_columns : Columns Id
id_columns = record {
  width = 2;
  cells = λ id. Int (pos id.server) ∷ Int (pos id.n) ∷ [];
  value_in = λ r. record { server = nat_of (column r 0); n = nat_of (column r 1) };
  are = λ r. is_id_cells (column r 0) (column r 1);
  within = is_id;
}

-- the minutes at which a slot begins and stops
abbrev pub span_columns : Columns (ℕ × ℕ)
span_columns = record {
  width = 2;
  cells = λ s. Int (pos s.0) ∷ Int (pos s.1) ∷ [];
  value_in = λ r. (nat_of (column r 0), nat_of (column r 1));
  are = λ r. is_span_cells (column r 0) (column r 1);
  within = λ s. within 0 1439 s.0 && within (s.0 + 1) 1440 s.1;
}

abbrev pub meeting_columns : Columns MeetingCells
meeting_columns = record {
  width = 3;
  cells = λ m. Int (pos m.length) ∷ Text m.choices ∷ Text m.title ∷ [];
  value_in = λ r. record { length = nat_of (column r 0); choices = bytes (column r 1); title = bytes (column r 2) };
  are = λ r. are_meeting_cells (column r 0) (column r 1) (column r 2);
  within = is_meeting_cells;
}

-- what a row of `log` has of a write, and its place
abbrev pub logged_columns : Columns (ActionCells × Place)
logged_columns = record {
  width = 7;
  cells = λ x. action_row x.0 ++ Int (place_number x.1) ∷ [];
  value_in = λ r. (
    action_in (nat_of (column r 0)) (record { length = nat_of (column r 1); choices = bytes (column r 2); title = bytes (column r 3) })
        (record { server = nat_of (column r 4); n = nat_of (column r 5) }),
    place_in (whole_of (column r 6)),
  );
  are = are_logged_cells;
  within = λ x. is_action_cells x.0 && is_place_of (is_cancel_cells x.0) x.1;
}

-- ---- two, one behind the other

abbrev pub both : {A B : Type 0} → Columns A → Columns B → Columns (A × B)
both a b = record {
  width = a.width + b.width;
  cells = λ x. a.cells x.0 ++ b.cells x.1;
  value_in = λ r. (a.value_in (take a.width r), b.value_in (drop a.width r));
  are = λ r. a.are (take a.width r) && b.are (drop a.width r);
  within = λ x. a.within x.0 && b.within x.1;
}
