-- Rows of the tables that the first schema alone has, as they are made of the values of their columns.
use Rattle.std.proofs.Common.{ℕ, zero, suc, pos, negsuc, ◌∷◌, [], ◌&&◌, refl, ap, ◌∙◌}
use Rattle.std.proofs.Math.Bool.{and_assoc}
use Rattle.sqlite_value.specs.declared.value.Value.{Value}
use Rattle.sqlite_value.specs.declared.value.Value.TheVariants.{Null, Int, Real, Text, Blob}
use Rattle.sqlite_value.specs.Order.{column}
use Rattle.mr_model.specs.Texts as texts
use Rattle.mr_model.specs.Writes.{Id, is_length, is_title}
use Rattle.mr_model.specs.Replay.{Place}
use Rattle.mr_model.specs.Tables.{MeetingCells}
use Rattle.mr_model.specs.First.{WriteRow, FirstUndoRow}
use Rattle.mr_rows.specs.RowCells.{whole_of, place_number, place_in}
use Rattle.mr_rows.specs.RowLimits.{is_choices, is_commit}
use Rattle.mr_rows.specs.Columns.{ShowsCells, AreShown, name_columns, id_columns, meeting_columns, both}
use Rattle.mr_rows.specs.ShownCells.{one, other}
use Rattle.mr_rows.specs.ColumnLaws.{of_columns}
use Rattle.mr_rows.specs.MadeRows.{IsMade, made, time_columns, commit_columns}
use Rattle.mr_first.specs.FirstCells.{is_first_place, is_first_place_cell, first_place_columns}
use Rattle.mr_first.specs.Forms.{write_form, undo_form}

-- ---- places

first_place : (v : Value) → ShowsCells (is_first_place_cell v) (Int (place_number (place_in (whole_of v))) ∷ []) (v ∷ []) (is_first_place (place_in (whole_of v)))
first_place (Int (pos k)) = one (λ h. (refl, h)) (λ _ l. l)
first_place (Int (negsuc zero)) = one (λ h. (refl, h)) (λ _ l. l)
first_place (Int (negsuc (suc zero))) = one (λ h. absurd (cc)) (λ _ l. l)
first_place (Int (negsuc (suc (suc n)))) = one (λ h. absurd (cc)) (λ _ l. l)
first_place Null = other (λ e. cc)
first_place (Real x) = other (λ e. cc)
first_place (Text t) = other (λ e. cc)
first_place (Blob b) = other (λ e. cc)

pub first_place_shown : AreShown first_place_columns
first_place_shown = of_columns first_place_columns (λ r. first_place (column r 0))

-- ---- the tables

abbrev pub write_row_of : ((((Id × ℕ) × texts.Text) × MeetingCells) × ℕ) → WriteRow
write_row_of x = record { server = x.0.0.0.0.server; n = x.0.0.0.0.n; time = x.0.0.0.1; room = x.0.0.1; length = x.0.1.length; choices = x.0.1.choices; title = x.0.1.title; seq = x.1 }

abbrev pub first_undo_row_of : (Id × Place) → FirstUndoRow
first_undo_row_of x = record { server = x.0.server; n = x.0.n; place = x.1 }

pub write_made : IsMade write_form (both (both (both (both id_columns time_columns) name_columns) meeting_columns) commit_columns) write_row_of
write_made =
    made refl refl (λ r. refl) (λ x. refl)
    (λ x. ap (λ b. b && is_commit x.1) (ap (λ b. b && is_title x.0.1.title) (and_assoc _ (is_length x.0.1.length) (is_choices x.0.1.length x.0.1.choices))
    ∙ and_assoc _ (is_length x.0.1.length && is_choices x.0.1.length x.0.1.choices) (is_title x.0.1.title)))

pub undo_made : IsMade undo_form (both id_columns first_place_columns) first_undo_row_of
undo_made = made refl refl (λ r. refl) (λ x. refl) (λ x. refl)
