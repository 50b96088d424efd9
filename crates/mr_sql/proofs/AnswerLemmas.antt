-- What the keeper's queries answer of the tables.
use Rattle.std.proofs.Common.{◌≡◌, Bool, true, false, ◌&&◌, cond, if◌then◌else◌, List, [], ◌∷◌, filter, inl, inr, Option, Some, None, refl, sym, ap, subst, ◌∙◌}
use Rattle.std.specs.Prelude.{bytes_eq, find}
use Rattle.std.specs.List.Sorted.{IsPermutation, IsSortedBy}
use Rattle.std.proofs.lemmas.List.Sorted.{IsPermutation-trans}
use Rattle.sqlite_trees.proofs.ListLemmas.{IsPermutation-filter}
use Rattle.sqlite_trees.specs.Tree.{Trees}
use Rattle.mr_model.specs.Texts.{Text}
use Rattle.mr_model.specs.Calendar.{Date}
use Rattle.mr_model.specs.Writes.{Id, same_id}
use Rattle.mr_model.specs.Tables.{BookingRow, ErrorRow, CancelledRow, CancelRow, Tables}
use Rattle.mr_model.specs.Queries.{booking_id, error_id, cancelled_id, cancel_id}
use Rattle.mr_model.specs.Dropped.{Has}
use Rattle.mr_model.proofs.Members.{find_none}
use Rattle.mr_tables.proofs.Putting.{OneAKey}
use Rattle.mr_rows.specs.Database.{in_order, tables_in}
use Rattle.mr_rows.specs.RowCells.{booking_row_from, error_in, cancelled_in, cancel_row_from}
use Rattle.mr_rows.specs.Form.{booking_form, error_form, cancelled_form, cancel_form}
use Rattle.mr_rows.proofs.FirstLemmas.{ids_apart}
use Rattle.mr_rows.proofs.ValueLemmas.{among_one, or_false}
use Rattle.mr_store.specs.Picked.{is_day_asked, booking_before, picked_errors, picked_cancelled, picked_cancels, AreBookings, find_booking, find_error, find_cancelled, find_cancel, IsPlaceOf}
use Rattle.mr_tables.specs.declared.place_rows.PlaceRow.TheVariants.{Booked, Logged, Cancelled, Cancel}
use Rattle.mr_sql.specs.PlaceOfId.{cancel_row_in, taken_in, error_row_in, chosen}

-- ---- a calendar

asked_both : (day : Option Date) (room : Text) (rows : List BookingRow)
    → filter (λ r. is_day_asked day r.day) (filter (λ r. bytes_eq r.room room) rows) ≡ filter (λ r. bytes_eq r.room room && is_day_asked day r.day) rows
asked_both day room [] = refl
asked_both day room (r ∷ rows) = go (bytes_eq r.room room) (asked_both day room rows)
  where
    go : (b : Bool) → filter (λ r. is_day_asked day r.day) (filter (λ r. bytes_eq r.room room) rows) ≡ filter (λ r. bytes_eq r.room room && is_day_asked day r.day) rows
        → filter (λ r. is_day_asked day r.day) (cond b (r ∷ filter (λ r. bytes_eq r.room room) rows) (filter (λ r. bytes_eq r.room room) rows))
        ≡ cond (b && is_day_asked day r.day) (r ∷ filter (λ r. bytes_eq r.room room && is_day_asked day r.day) rows) (filter (λ r. bytes_eq r.room room && is_day_asked day r.day) rows)
    go true ih = ap (λ more. cond (is_day_asked day r.day) (r ∷ more) more) ih
    go false ih = ih

pub calendar_is : (room : Text) (day : Option Date) (trees : Trees) (shown out : List BookingRow)
    → IsPermutation (filter (λ row. bytes_eq row.room room) (in_order booking_form (trees 10))) shown → IsPermutation (filter (λ r. is_day_asked day r.day) shown) out
    → IsSortedBy booking_before out → AreBookings room day (tables_in trees) out
unfolding tables_in
calendar_is room day trees shown out read same sorted =
    (subst (λ xs. IsPermutation xs out) (asked_both day room (in_order booking_form (trees 10))) (IsPermutation-trans _ _ _ (IsPermutation-filter (λ r. is_day_asked day r.day) _ _ read) same), sorted)

-- ---- the rows of a room in the other tables

pub errors_are : (room : Text) (trees : Trees) (rows : List ErrorRow)
    → IsPermutation (filter (λ row. bytes_eq row.room room) (in_order error_form (trees 12))) rows → IsPermutation (picked_errors room (tables_in trees)) rows
unfolding tables_in
errors_are room trees rows same = same

pub cancelled_are : (room : Text) (trees : Trees) (rows : List CancelledRow)
    → IsPermutation (filter (λ row. bytes_eq row.room room) (in_order cancelled_form (trees 16))) rows → IsPermutation (picked_cancelled room (tables_in trees)) rows
unfolding tables_in
cancelled_are room trees rows same = same

pub cancels_are : (room : Text) (trees : Trees) (rows : List CancelRow)
    → IsPermutation (filter (λ row. bytes_eq row.room room) (in_order cancel_form (trees 18))) rows → IsPermutation (picked_cancels room (tables_in trees)) rows
unfolding tables_in
cancels_are room trees rows same = same

-- ---- the one of the rows of an id that is of the room

abbrev keep : {X : Type 0} → (X → Bool) → Option X → Option X
keep q None = None
keep q (Some x) = if q x then Some x else None

find_both : {X : Type 0} (p q : X → Bool) (xs : List X) → ((x y : X) → Has x xs → Has y xs → p x ≡ true → p y ≡ true → x ≡ y) → find (λ x. p x && q x) xs ≡ keep q (find p xs)
find_both p q [] one = refl
find_both {X} p q (x ∷ xs) one = go (p x) refl (find_both p q xs (λ y z h k. one y z (inr h) (inr k)))
  where
    none : q x ≡ false → p x ≡ true → find (λ y. p y && q y) xs ≡ None
    none fails does = find_none (λ y. p y && q y) xs (λ y h. each y h (p y) refl)
      where
        each : (y : X) → Has y xs → (b : Bool) → p y ≡ b → (p y && q y) ≡ false
        each y h false e = rw e
        each y h true e = rw e (ap q (one y x (inr h) (inl refl) e does) ∙ fails)

    go : (b : Bool) → p x ≡ b → find (λ y. p y && q y) xs ≡ keep q (find p xs) → cond (b && q x) (Some x) (find (λ y. p y && q y) xs) ≡ keep q (cond b (Some x) (find p xs))
    go false e ih = ih
    go true e ih = pick (q x) refl
      where
        pick : (c : Bool) → q x ≡ c → cond c (Some x) (find (λ y. p y && q y) xs) ≡ cond c (Some x) None
        pick true f = refl
        pick false f = none f e

-- by the order of the tables, of rows that are those of the id wherever they are of the room
module _ (room : Text) (id : Id) (t : Tables) where
  cancel_is : (cancel : Option CancelRow) → find_booking room id t ≡ None → find_error room id t ≡ None
      → find_cancelled room id t ≡ None → find_cancel room id t ≡ keep (λ r. bytes_eq r.room room) cancel
      → IsPlaceOf room id t (cancel_row_in room cancel)
  cancel_is None unbooked unlogged untaken e = (unbooked, unlogged, untaken, e)
  cancel_is (Some row) unbooked unlogged untaken e = go (bytes_eq row.room room) e
    where
      go : (b : Bool) → find_cancel room id t ≡ cond b (Some row) None → IsPlaceOf room id t (cond b (Some (Cancel row)) None)
      go true e = (unbooked, unlogged, untaken, e)
      go false e = (unbooked, unlogged, untaken, e)

  taken_is : (cancelled : Option CancelledRow) (cancel : Option CancelRow) → find_booking room id t ≡ None
      → find_error room id t ≡ None → find_cancelled room id t ≡ keep (λ r. bytes_eq r.room room) cancelled
      → find_cancel room id t ≡ keep (λ r. bytes_eq r.room room) cancel → IsPlaceOf room id t (taken_in room cancelled cancel)
  taken_is None cancel unbooked unlogged e last = cancel_is cancel unbooked unlogged e last
  taken_is (Some row) cancel unbooked unlogged e last = go (bytes_eq row.room room) e
    where
      go : (b : Bool) → find_cancelled room id t ≡ cond b (Some row) None → IsPlaceOf room id t (cond b (Some (Cancelled row)) (cancel_row_in room cancel))
      go true e = (unbooked, unlogged, e)
      go false e = cancel_is cancel unbooked unlogged e last

  erred_is : (error : Option ErrorRow) (cancelled : Option CancelledRow) (cancel : Option CancelRow) → find_booking room id t ≡ None → find_error room id t ≡ keep (λ r. bytes_eq r.room room) error
      → find_cancelled room id t ≡ keep (λ r. bytes_eq r.room room) cancelled → find_cancel room id t ≡ keep (λ r. bytes_eq r.room room) cancel
      → IsPlaceOf room id t (error_row_in room error (taken_in room cancelled cancel))
  erred_is None cancelled cancel unbooked e third last = taken_is cancelled cancel unbooked e third last
  erred_is (Some row) cancelled cancel unbooked e third last = go (bytes_eq row.room room) e
    where
      go : (b : Bool) → find_error room id t ≡ cond b (Some row) None → IsPlaceOf room id t (cond b (Some (Logged row)) (taken_in room cancelled cancel))
      go true e = (unbooked, e)
      go false e = taken_is cancelled cancel unbooked e third last

  booked_is : (booking : Option BookingRow) (error : Option ErrorRow) (cancelled : Option CancelledRow) (cancel : Option CancelRow) → find_booking room id t ≡ keep (λ r. bytes_eq r.room room) booking
      → find_error room id t ≡ keep (λ r. bytes_eq r.room room) error → find_cancelled room id t ≡ keep (λ r. bytes_eq r.room room) cancelled
      → find_cancel room id t ≡ keep (λ r. bytes_eq r.room room) cancel
      → IsPlaceOf room id t (chosen room booking error (taken_in room cancelled cancel))
  booked_is None error cancelled cancel e second third last = erred_is error cancelled cancel e second third last
  booked_is (Some row) error cancelled cancel e second third last = go (bytes_eq row.room room) e
    where
      go : (b : Bool) → find_booking room id t ≡ cond b (Some row) None → IsPlaceOf room id t (cond b (Some (Booked row)) (error_row_in room error (taken_in room cancelled cancel)))
      go true e = e
      go false e = erred_is error cancelled cancel e second third last

-- the row of a table with this id and of the room is the row with the id, where that is of the room
find_kept : {R : Type 0} (key : R → Id) (room_of : R → Text) (room : Text) (id : Id) (table : List R) → OneAKey key table
    → find (λ r. same_id (key r) id && bytes_eq (room_of r) room) table ≡ keep (λ r. bytes_eq (room_of r) room) (find (λ r. same_id (key r) id) table)
find_kept {R} key room_of room id table one = find_both (λ r. same_id (key r) id) (λ r. bytes_eq (room_of r) room) table same_key
  where
    same_key : (x y : R) → Has x table → Has y table → same_id (key x) id ≡ true → same_id (key y) id ≡ true → x ≡ y
    same_key x y h k e f =
        one x y h k (among_one (key x) id (or_false (same_id (key x) id) ∙ e) ∙ sym (among_one (key y) id (or_false (same_id (key y) id) ∙ f)))

pub chosen_is : (room : Text) (id : Id) (trees : Trees) (booking : Option BookingRow) (error : Option ErrorRow) (cancelled : Option CancelledRow) (cancel : Option CancelRow)
    → booking ≡ find (λ r. same_id (booking_id r) id) (in_order booking_form (trees 10)) → error ≡ find (λ r. same_id (error_id r) id) (in_order error_form (trees 12))
    → cancelled ≡ find (λ r. same_id (cancelled_id r) id) (in_order cancelled_form (trees 16)) → cancel ≡ find (λ r. same_id (cancel_id r) id) (in_order cancel_form (trees 18))
    → IsPlaceOf room id (tables_in trees) (chosen room booking error (taken_in room cancelled cancel))
unfolding tables_in
chosen_is room id trees booking error cancelled cancel first second third last =
    booked_is room id (tables_in trees) booking error cancelled cancel
    (find_kept booking_id (λ r. r.room) room id (tables_in trees).booking (ids_apart booking_id booking_row_from (trees 10)) ∙ ap (keep (λ r. bytes_eq r.room room)) (sym first))
    (find_kept error_id (λ r. r.room) room id (tables_in trees).errorlog (ids_apart error_id error_in (trees 12)) ∙ ap (keep (λ r. bytes_eq r.room room)) (sym second))
    (find_kept cancelled_id (λ r. r.room) room id (tables_in trees).cancelled (ids_apart cancelled_id cancelled_in (trees 16)) ∙ ap (keep (λ r. bytes_eq r.room room)) (sym third))
    (find_kept cancel_id (λ r. r.room) room id (tables_in trees).cancels (ids_apart cancel_id cancel_row_from (trees 18)) ∙ ap (keep (λ r. bytes_eq r.room room)) (sym last))
