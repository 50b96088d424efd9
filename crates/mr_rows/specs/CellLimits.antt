-- Whether values are cells of columns, and rows those of tables, as a test of them where they lie tells.
use Rattle.std.specs.Prelude.{ℕ, ◌+◌, pos, negsuc, zero, suc, Bool, true, false, not, ◌&&◌, nat_le, if◌then◌else◌, [], ◌∷◌}
use Rattle.sqlite_value.specs.declared.value.Value.{Value}
use Rattle.sqlite_value.specs.declared.value.Value.TheVariants.{Null, Int, Real, Text, Blob}
use Rattle.sqlite_value.specs.Order.{Row, column}
use Rattle.mr_model.specs.Texts as texts
use Rattle.mr_model.specs.Texts.{within}
use Rattle.mr_model.specs.Writes.{is_title, greatest_alternatives, greatest_count, greatest_time}
use Rattle.mr_rows.specs.RowCells.{nat_of}
use Rattle.mr_rows.specs.RowLimits.{is_choices}

-- ---- values

-- a number from low to high
abbrev pub is_number_cell : ℕ → ℕ → Value → Bool
is_number_cell low high Null = false
is_number_cell low high (Int (pos n)) = within low high n
is_number_cell low high (Int (negsuc n)) = false
is_number_cell low high (Real x) = false
is_number_cell low high (Text t) = false
is_number_cell low high (Blob b) = false

-- a text that passes a test
abbrev pub is_text : (texts.Text → Bool) → Value → Bool
is_text passes Null = false
is_text passes (Int n) = false
is_text passes (Real x) = false
is_text passes (Text t) = passes t
is_text passes (Blob b) = false

abbrev pub is_empty_text : texts.Text → Bool
is_empty_text [] = true
is_empty_text (c ∷ cs) = false

abbrev pub is_server_cell : Value → Bool
is_server_cell v = is_number_cell 1 99 v

abbrev pub is_count_cell : Value → Bool
is_count_cell v = is_number_cell 1 greatest_count v

abbrev pub is_time_cell : Value → Bool
is_time_cell v = is_number_cell 1 greatest_time v

-- the number of a commit, or how many there are; 0 if there is none
abbrev pub is_commit_cell : Value → Bool
is_commit_cell v = is_number_cell 0 999_999_999_999 v

abbrev pub is_mark_cell : Value → Bool
is_mark_cell v = is_number_cell 0 1 v

-- a slot's start and its stop, which is later
abbrev pub is_span_cells : Value → Value → Bool
is_span_cells start stop = is_number_cell 0 1439 start && is_number_cell (nat_of start + 1) 1440 stop

abbrev pub is_id_cells : Value → Value → Bool
is_id_cells server n = is_server_cell server && is_count_cell n

-- a choice, the error log, or a cancel that is done or void
abbrev pub is_place_cell : Bool → Value → Bool
is_place_cell cancels Null = false
is_place_cell cancels (Int (pos k)) = not cancels && nat_le k greatest_alternatives
is_place_cell cancels (Int (negsuc zero)) = not cancels
is_place_cell cancels (Int (negsuc (suc zero))) = cancels
is_place_cell cancels (Int (negsuc (suc (suc zero)))) = cancels
is_place_cell cancels (Int (negsuc (suc (suc (suc n))))) = false
is_place_cell cancels (Real x) = false
is_place_cell cancels (Text t) = false
is_place_cell cancels (Blob b) = false

-- ---- cells beside each other

-- a booking's length, choices and title
abbrev pub are_meeting_cells : Value → Value → Value → Bool
are_meeting_cells length choices title = is_number_cell 1 1440 length && is_text (is_choices (nat_of length)) choices && is_text is_title title

-- What a row of `log` has of a write that books, and of one that cancels: its kind, its meeting, its target and its place. What it hasn't is 0 or an empty text.
abbrev pub are_booking_cells : Row → Bool
are_booking_cells r =
    are_meeting_cells (column r 1) (column r 2) (column r 3) && (is_number_cell 0 0 (column r 4) && is_number_cell 0 0 (column r 5)) && is_place_cell false (column r 6)

abbrev pub are_cancel_cells : Row → Bool
are_cancel_cells r =
    is_number_cell 1 1 (column r 0) && (is_number_cell 0 0 (column r 1) && is_text is_empty_text (column r 2) && is_text is_empty_text (column r 3))
    && is_id_cells (column r 4) (column r 5) && is_place_cell true (column r 6)

abbrev pub are_logged_cells : Row → Bool
are_logged_cells r = if is_number_cell 0 0 (column r 0) then are_booking_cells r else are_cancel_cells r

-- a row of `meta` as a query shows it, under the schema of this number
abbrev pub are_meta_cells : ℕ → Row → Bool
are_meta_cells schema r =
    is_number_cell 1 1 (column r 0) && is_number_cell schema schema (column r 1) && is_server_cell (column r 2) && is_server_cell (column r 3)
    && is_commit_cell (column r 4) && is_commit_cell (column r 5) && is_number_cell 0 greatest_time (column r 6)
