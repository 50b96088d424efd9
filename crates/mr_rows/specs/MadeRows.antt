-- Rows as they are made of the values of their columns.
use Rattle.std.proofs.Common.{◌≡◌, ℕ, suc, true, [], ◌∷◌, length, Bool, ◌&&◌, append_assoc, pos, refl, sym, ap, ◌∙◌}
use Rattle.std.specs.Prelude.{nat_le}
use Rattle.std.proofs.Math.Bool.{and_assoc, and-true}
use Rattle.sqlite_value.specs.declared.value.Value.TheVariants.{Int, Text}
use Rattle.sqlite_value.specs.Order.{Row}
use Rattle.mr_model.specs.Texts as texts
use Rattle.mr_model.specs.Texts.{within}
use Rattle.mr_model.specs.Calendar.{Date, is_date}
use Rattle.mr_model.specs.Writes.{Id, is_id, is_time, is_room_name, is_server, is_title, greatest_count, greatest_time}
use Rattle.mr_model.specs.Replay.{Place}
use Rattle.mr_model.specs.Tables.{VectorRow, ActionCells, LogRow, BookingRow, ErrorRow, CancelledRow, taken_back, CancelRow}
use Rattle.mr_tables.specs.Cells.{is_cancel_cells}
use Rattle.mr_rows.specs.RowCells.{place_number, action_row}
use Rattle.mr_rows.specs.RowLimits.{is_commit, is_slot_row, is_action_cells, is_place_of}
use Rattle.mr_rows.specs.Columns.{Columns, number_columns, mark_columns, name_columns, title_columns, day_columns, id_columns, span_columns, logged_columns, both}
use Rattle.mr_rows.specs.Form.{Form, room_form, vector_form, log_form, booking_form, error_form, cancelled_form, cancel_form}
use Rattle.mr_rows.specs.Shown.{columns_from}

-- the rows of a table are so made of the values of its columns
pub record IsMade {R K V : Type 0} (f : Form R K) (c : Columns V) (of : V → R) : Type 0 where
  pub wide : length f.table.columns ≡ c.width
  pub few : nat_le c.width 100 ≡ true
  pub read : (r : Row) → f.row_in r ≡ of (c.value_in (columns_from 1 c.width r))
  pub spelled : (x : V) → f.cells (of x) ≡ c.cells x
  pub limits : (x : V) → f.within (of x) ≡ c.within x

abbrev pub made : {R K V : Type 0} {f : Form R K} {c : Columns V} {of : V → R} → length f.table.columns ≡ c.width → nat_le c.width 100 ≡ true
    → ((r : Row) → f.row_in r ≡ of (c.value_in (columns_from 1 c.width r))) → ((x : V) → f.cells (of x) ≡ c.cells x)
    → ((x : V) → f.within (of x) ≡ c.within x) → IsMade f c of
made wide few read spelled limits = record { wide = wide; few = few; read = read; spelled = spelled; limits = limits }

-- ---- columns of several tables

abbrev pub time_columns : Columns ℕ
time_columns = number_columns 1 greatest_time

abbrev pub commit_columns : Columns ℕ
commit_columns = number_columns 0 999_999_999_999

-- those that `booking`, `errorlog` and `cancelled` begin with
abbrev pub SlotParts : Type 0
SlotParts = ((((texts.Text × Date) × (ℕ × ℕ)) × Id) × texts.Text)

abbrev pub slot_columns : Columns SlotParts
slot_columns = both (both (both (both name_columns day_columns) span_columns) id_columns) title_columns

slot_limits : (x : SlotParts) → is_slot_row x.0.0.0.0 x.0.0.0.1 x.0.0.1.0 x.0.0.1.1 x.0.1.server x.0.1.n x.1 ≡ slot_columns.within x
slot_limits x =
    let day = is_room_name x.0.0.0.0 && is_date x.0.0.0.1 in
    let start = within 0 1439 x.0.0.1.0 in
    let stop = within (suc x.0.0.1.0) 1440 x.0.0.1.1 in
    ap (λ b. b && is_title x.1) (and_assoc _ (is_server x.0.1.server) _ ∙ ap (λ b. b && is_id x.0.1) (and_assoc day _ _))

-- ---- the tables

abbrev pub vector_of : (((ℕ × ℕ) × ℕ) × ℕ) → VectorRow
vector_of x = record { server = x.0.0.0; count = x.0.0.1; last_time = x.0.1; committed = x.1 }

abbrev pub booking_row_of : (SlotParts × Bool) → BookingRow
booking_row_of x = record { room = x.0.0.0.0.0; day = x.0.0.0.0.1; start = x.0.0.0.1.0; stop = x.0.0.0.1.1; server = x.0.0.1.server; n = x.0.0.1.n; title = x.0.1; committed = x.1 }

abbrev pub error_of : ((SlotParts × ℕ) × ℕ) → ErrorRow
error_of x = record { room = x.0.0.0.0.0.0; day = x.0.0.0.0.0.1; start = x.0.0.0.0.1.0; stop = x.0.0.0.0.1.1; server = x.0.0.0.1.server; n = x.0.0.0.1.n; title = x.0.0.1; time = x.0.1; seq = x.1 }

abbrev pub cancelled_of : ((SlotParts × Bool) × Id) → CancelledRow
cancelled_of x = taken_back x.1 (booking_row_of x.0)

abbrev pub log_of : ((((Id × ℕ) × texts.Text) × (ActionCells × Place)) × ℕ) → LogRow
log_of x = record { server = x.0.0.0.0.server; n = x.0.0.0.0.n; time = x.0.0.0.1; room = x.0.0.1; action = x.0.1.0; place = x.0.1.1; seq = x.1 }

abbrev pub cancel_row_of : (((((Id × texts.Text) × Id) × Bool) × ℕ) × ℕ) → CancelRow
cancel_row_of x = record { server = x.0.0.0.0.0.server; n = x.0.0.0.0.0.n; room = x.0.0.0.0.1; target = x.0.0.0.1; done = x.0.0.1; time = x.0.1; seq = x.1 }

pub room_made : IsMade room_form name_columns (λ name. name)
room_made = made refl refl (λ r. refl) (λ x. refl) (λ x. refl)

pub vector_made : IsMade vector_form (both (both (both (number_columns 1 99) (number_columns 1 greatest_count)) time_columns) (number_columns 0 greatest_count)) vector_of
vector_made = made refl refl (λ r. refl) (λ x. refl) (λ x. refl)

pub booking_made : IsMade booking_form (both slot_columns mark_columns) booking_row_of
booking_made = made refl refl (λ r. refl) (λ x. refl) (λ x. slot_limits x.0 ∙ sym (and-true _))

pub error_made : IsMade error_form (both (both slot_columns time_columns) commit_columns) error_of
error_made = made refl refl (λ r. refl) (λ x. refl) (λ x. ap (λ b. b && is_time x.0.1 && is_commit x.1) (slot_limits x.0.0))

pub cancelled_made : IsMade cancelled_form (both (both slot_columns mark_columns) id_columns) cancelled_of
cancelled_made = made refl refl (λ r. refl) (λ x. refl) (λ x. ap (λ b. b && is_id x.1) (slot_limits x.0.0 ∙ sym (and-true _)))

pub log_made : IsMade log_form (both (both (both (both id_columns time_columns) name_columns) logged_columns) commit_columns) log_of
log_made =
    made refl refl (λ r. refl) (λ x. ap (λ cells. Int (pos x.0.0.0.0.server) ∷ Int (pos x.0.0.0.0.n) ∷ Int (pos x.0.0.0.1) ∷ Text x.0.0.1 ∷ cells)
    (sym (append_assoc (action_row x.0.1.0) (Int (place_number x.0.1.1) ∷ []) (Int (pos x.1) ∷ []))))
    (λ x. ap (λ b. b && is_commit x.1) (and_assoc _ (is_action_cells x.0.1.0) (is_place_of (is_cancel_cells x.0.1.0) x.0.1.1)))

pub cancel_made : IsMade cancel_form (both (both (both (both (both id_columns name_columns) id_columns) mark_columns) time_columns) commit_columns) cancel_row_of
cancel_made = made refl refl (λ r. refl) (λ x. refl) (λ x. ap (λ b. b && is_time x.0.1 && is_commit x.1) (sym (and-true _)))
