-- Cells of columns that pass their tests are spelled as what is read of them, and only such cells.
use Rattle.std.proofs.Common.{◌≡◌, ℕ, zero, suc, ◌+◌, [], ◌∷◌, ◌++◌, length, Bool, false, true, ◌&&◌, refl, sym, ap, subst, ◌∙◌, arith}
use Rattle.std.specs.Prelude.{take, drop, map}
use Rattle.std.proofs.lemmas.List.{length-take, length-drop, length-append, map-append, take-append-drop}
use Rattle.sqlite_value.specs.declared.value.Value.{Value}
use Rattle.sqlite_value.specs.declared.value.Value.TheVariants.{Int}
use Rattle.sqlite_value.specs.Order.{Row, column, bytes}
use Rattle.sqlite.specs.Values.{bound_value}
use Rattle.mr_model.specs.Writes.{Id, is_room_name, is_title}
use Rattle.mr_model.specs.Tables.{ActionCells, OfMeeting, OfCancel, MeetingCells}
use Rattle.mr_tables.specs.Cells.{is_cancel_cells}
use Rattle.mr_rows.specs.RowCells.{nat_of, whole_of, place_number, place_in, action_row, action_in}
use Rattle.mr_rows.specs.RowLimits.{is_choices, is_action_cells, is_place_of}
use Rattle.mr_rows.specs.CellLimits.{is_number_cell, are_booking_cells, are_cancel_cells, are_logged_cells}
use Rattle.mr_rows.specs.Shown.{columns_from}
use Rattle.mr_rows.specs.Columns.{Columns, ShowsCells, AreShown, AreSpelled, number_columns, mark_columns, name_columns, title_columns}
use Rattle.mr_rows.specs.Columns.{day_columns, id_columns, span_columns, meeting_columns, logged_columns, both}
use Rattle.mr_rows.specs.ShownCells.{also, sure, number, given, mark_cell, id_cells, place, text, day, empty}

-- ---- so many cells

pub columns_behind : (at n : ℕ) (v : Value) (r : Row) → columns_from (at + 1) n (v ∷ r) ≡ columns_from at n r
columns_behind at zero v r = refl
columns_behind at (suc n) v r = (λ i. head i ∷ columns_from (at + 1 + 1) n (v ∷ r)) ∙ ap (λ xs. column r at ∷ xs) (columns_behind (at + 1) n v r)
  where
    next : at + 1 ≡ suc at
    next = omega arith

    head : column (v ∷ r) (at + 1) ≡ column r at
    head = ap (column (v ∷ r)) next

-- a row of so many cells has these columns and no more
pub own_columns : (r : Row) → columns_from 0 (length r) r ≡ r
own_columns [] = refl
own_columns (v ∷ r) = ap (λ xs. v ∷ xs) (columns_behind 0 (length r) v r ∙ own_columns r)

pub of_columns : {V : Type 0} (c : Columns V) → ((r : Row) → ShowsCells (c.are r) (c.cells (c.value_in r)) (columns_from 0 c.width r) (c.within (c.value_in r))) → AreShown c
of_columns c shown r long = subst (λ cells. ShowsCells (c.are r) (c.cells (c.value_in r)) cells (c.within (c.value_in r))) (ap (λ n. columns_from 0 n r) (sym long) ∙ own_columns r) (shown r)

-- ---- one value

pub number_shown : (low high : ℕ) → AreShown (number_columns low high)
number_shown low high = of_columns (number_columns low high) (λ r. number low high (column r 0))

pub mark_shown : AreShown mark_columns
mark_shown = of_columns mark_columns (λ r. mark_cell (column r 0))

pub name_shown : AreShown name_columns
name_shown = of_columns name_columns (λ r. text is_room_name (column r 0))

pub title_shown : AreShown title_columns
title_shown = of_columns title_columns (λ r. text is_title (column r 0))

pub day_shown : AreShown day_columns
day_shown = of_columns day_columns (λ r. day (column r 0))

pub id_shown : AreShown id_columns
id_shown = of_columns id_columns (λ r. id_cells (column r 0) (column r 1))

pub span_shown : AreShown span_columns
span_shown = of_columns span_columns (λ r. also (number 0 1439 (column r 0)) (number (nat_of (column r 0) + 1) 1440 (column r 1)))

pub meeting_shown : AreShown meeting_columns
meeting_shown = of_columns meeting_columns (λ r. also (also (number 1 1440 (column r 0)) (text (is_choices (nat_of (column r 0))) (column r 1))) (text is_title (column r 2)))

-- ---- what a row of `log` has of a write

abbrev meeting_of : Row → MeetingCells
meeting_of r = record { length = nat_of (column r 1); choices = bytes (column r 2); title = bytes (column r 3) }

abbrev target_of : Row → Id
target_of r = record { server = nat_of (column r 4); n = nat_of (column r 5) }

abbrev ShowsAction : Row → Bool → ActionCells → Type 0
ShowsAction r test a =
    ShowsCells test (action_row a ++ Int (place_number (place_in (whole_of (column r 6)))) ∷ []) (columns_from 0 7 r)
    (is_action_cells a && is_place_of (is_cancel_cells a) (place_in (whole_of (column r 6))))

-- a write that books
meeting : (r : Row) → ShowsAction r (is_number_cell 0 0 (column r 0) && are_booking_cells r) (OfMeeting (meeting_of r))
meeting r =
    let cells = also (also (number 1 1440 (column r 1)) (text (is_choices (nat_of (column r 1))) (column r 2))) (text is_title (column r 3)) in
    also (given 0 (column r 0)) (also (sure _ (also cells (also (given 0 (column r 4)) (given 0 (column r 5))))) (place false (column r 6)))

-- one that cancels
target : (r : Row) → ShowsAction r (are_cancel_cells r) (OfCancel (target_of r))
target r =
    let none = also (also (given 0 (column r 1)) (empty (column r 2))) (empty (column r 3)) in
    also (also (also (given 1 (column r 0)) none) (id_cells (column r 4) (column r 5))) (place true (column r 6))

-- a number that is known is what is read
kind_is : (k : ℕ) (v : Value) → is_number_cell k k v ≡ true → nat_of v ≡ k
kind_is k v h = sym (ap (λ r. nat_of (column r 0)) ((given k v).told.0 h).0)

-- what is read of a row that books
pub books : (v : Value) (m got : MeetingCells) (t : Id) → is_number_cell 0 0 v ≡ true → got ≡ m → OfMeeting got ≡ action_in (nat_of v) m t
books v m got t booked is = ap OfMeeting is ∙ sym (ap (λ k. action_in k m t) (kind_is 0 v booked))

-- either
pub logged_shown : AreShown logged_columns
logged_shown = of_columns logged_columns (λ r. go r (nat_of (column r 0)) refl)
  where
    -- its kind is one of two
    go : (r : Row) (k : ℕ) → nat_of (column r 0) ≡ k → ShowsAction r (are_logged_cells r) (action_in k (meeting_of r) (target_of r))
    go r zero kind = subst (λ test. ShowsAction r test (OfMeeting (meeting_of r))) (grind (arith, kind, kind_is 1 (column r 0))) (meeting r)
    go r (suc k) kind = subst (λ test. ShowsAction r test (OfCancel (target_of r))) (grind (arith, kind, kind_is 0 (column r 0))) (target r)

pub logged_spelled : AreSpelled logged_columns
logged_spelled x = go x.0
  where
    go : (a : ActionCells) → (length (logged_columns.cells (a, x.1)) ≡ 7) × (map bound_value (logged_columns.cells (a, x.1)) ≡ logged_columns.cells (a, x.1))
    go (OfMeeting m) = (refl, refl)
    go (OfCancel t) = (refl, refl)

-- ---- two, one behind the other

pub both_shown : {A B : Type 0} (a : Columns A) (b : Columns B) → AreShown a → AreShown b → AreShown (both a b)
both_shown a b of_a of_b r long =
    let first = of_a (take a.width r) (length-take a.width r ∙ omega (arith, long)) in
    let second = of_b (drop a.width r) (length-drop a.width r ∙ omega (arith, long)) in
    subst (λ cells. ShowsCells ((both a b).are r) ((both a b).cells ((both a b).value_in r)) cells ((both a b).within ((both a b).value_in r))) (take-append-drop a.width r) (also first second)

pub both_spelled : {A B : Type 0} (a : Columns A) (b : Columns B) → AreSpelled a → AreSpelled b → AreSpelled (both a b)
both_spelled a b of_a of_b x = (
  length-append (a.cells x.0) (b.cells x.1) ∙ (λ i. (of_a x.0).0 i + (of_b x.1).0 i),
  map-append bound_value (a.cells x.0) (b.cells x.1) ∙ (λ i. (of_a x.0).1 i ++ (of_b x.1).1 i),
)
