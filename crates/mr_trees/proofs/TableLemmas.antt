-- The rows of a tree, in the order of their keys.
use Rattle.std.proofs.Common.{◌≡◌, Bool, true, false, ◌&&◌, cond, true≢false, arith, ◌<◌, length, List, [], ◌∷◌, map, filter, Option, Some, None, ◌⊎◌, inl, inr, refl, sym, ap, subst, ◌∙◌}
use Rattle.std.specs.Prelude.{bytes_eq, find, slice_index_or}
use Rattle.std.specs.List.Sorted.{IsPermutation, IsSortedBy}
use Rattle.std.proofs.lemmas.Bool.{and_parts}
use Rattle.std.proofs.lemmas.List.Sorted.{IsPermutation-refl, IsPermutation-sym, IsPermutation-trans, IsPermutation-cons, IsPermutation-middle}
use Rattle.sqlite_value.specs.Order.{Row}
use Rattle.sqlite_trees.specs.Tree.{Trees}
use Rattle.sqlite_trees.proofs.ListLemmas.{IsPermutation-filter}
use Rattle.mr_model.specs.Texts.{Text}
use Rattle.mr_model.specs.Calendar.{Date}
use Rattle.mr_model.specs.Writes.{Id, same_id}
use Rattle.mr_model.specs.Tables.{BookingRow, ErrorRow, CancelledRow, CancelRow}
use Rattle.mr_model.specs.Queries.{booking_id, error_id, cancelled_id, cancel_id}
use Rattle.mr_model.specs.Dropped.{Has}
use Rattle.mr_model.proofs.Members.{all_has, same_id-true}
use Rattle.mr_tables.specs.Change.{put, id_before}
use Rattle.mr_tables.specs.TableOrders.{IsOrder, InOrder, id_order, number_order, name_order}
use Rattle.mr_tables.proofs.Putting.{Lacks, put_in_order, in_order_same}
use Rattle.mr_store.specs.Picked.{is_day_asked, booking_before, AreBookings, picked_errors, picked_cancelled, picked_cancels, find_booking, find_error, find_cancelled, find_cancel}
use Rattle.mr_rows.specs.Form.{Form, meta_form, room_form, vector_form, log_form, booking_form, error_form, cancelled_form, cancel_form}
use Rattle.mr_rows.specs.Database.{IsHeld, AreHeld, in_order, first_meta, tables_in}
use Rattle.mr_rows.proofs.SortedByKey.{Apart, ordered_in_order, ordered_has, has_ordered}
use Rattle.mr_rows.proofs.TableLemmas.{keys_apart}
use Rattle.mr_trees.specs.TreeTables.{insert_row, sorted_rows, tables_shown}

-- ---- each row is there

module _ {R K : Type 0} (before : K → K → Bool) (key : R → K) where
  inserted : (x : R) (ys : List R) → IsPermutation (x ∷ ys) (insert_row before key x ys)
  inserted x [] = IsPermutation-refl (x ∷ [])
  inserted x (y ∷ ys) = go (before (key y) (key x)) (inserted x ys)
    where
      go : (b : Bool) → IsPermutation (x ∷ ys) (insert_row before key x ys) → IsPermutation (x ∷ y ∷ ys) (cond b (y ∷ insert_row before key x ys) (x ∷ y ∷ ys))
      go true ih = IsPermutation-trans _ _ _ (IsPermutation-middle (x ∷ []) y ys) (IsPermutation-cons y (x ∷ ys) (insert_row before key x ys) ih)
      go false ih = IsPermutation-refl (x ∷ y ∷ ys)

  -- of rows that pass a test, none of which stands before another, the first stays the first
  find_inserted : (p : R → Bool) → ((x y : R) → p x ≡ true → p y ≡ true → before (key x) (key y) ≡ false) → (x : R) (ys : List R) → find p (insert_row before key x ys) ≡ find p (x ∷ ys)
  find_inserted p never x [] = refl
  find_inserted p never x (y ∷ ys) = go (before (key y) (key x)) refl (find_inserted p never x ys)
    where
      turned : (a : Bool) → p y ≡ a → (b : Bool) → p x ≡ b → before (key y) (key x) ≡ true → cond a (Some y) (cond b (Some x) (find p ys)) ≡ cond b (Some x) (cond a (Some y) (find p ys))
      turned true e true f d = absurd (true≢false (sym d ∙ never y x e f))
      turned true e false f d = refl
      turned false e true f d = refl
      turned false e false f d = refl

      go : (b : Bool) → before (key y) (key x) ≡ b → find p (insert_row before key x ys) ≡ find p (x ∷ ys) → find p (cond b (y ∷ insert_row before key x ys) (x ∷ y ∷ ys)) ≡ find p (x ∷ y ∷ ys)
      go true d ih = ap (λ rest. cond (p y) (Some y) rest) ih ∙ turned (p y) refl (p x) refl d
      go false d ih = refl

  has_inserted : (row x : R) (ys : List R) → Has row (insert_row before key x ys) → (row ≡ x) ⊎ Has row ys
  has_inserted row x [] h = h
  has_inserted row x (y ∷ ys) h = go (before (key y) (key x)) h (has_inserted row x ys)
    where
      go : (b : Bool) → Has row (cond b (y ∷ insert_row before key x ys) (x ∷ y ∷ ys)) → (Has row (insert_row before key x ys) → (row ≡ x) ⊎ Has row ys) → (row ≡ x) ⊎ Has row (y ∷ ys)
      go true (inl e) ih = inr (inl e)
      go true (inr g) ih = elim (ih g) [
        | inl e ↦ inl e
        | inr k ↦ inr (inr k)
      ]
      go false g ih = g

  inserted_has : (row x : R) (ys : List R) → (row ≡ x) ⊎ Has row ys → Has row (insert_row before key x ys)
  inserted_has row x [] h = h
  inserted_has row x (y ∷ ys) h = go (before (key y) (key x)) h (inserted_has row x ys)
    where
      go : (b : Bool) → (row ≡ x) ⊎ Has row (y ∷ ys) → ((row ≡ x) ⊎ Has row ys → Has row (insert_row before key x ys)) → Has row (cond b (y ∷ insert_row before key x ys) (x ∷ y ∷ ys))
      go true (inl e) ih = inr (ih (inl e))
      go true (inr (inl e)) ih = inl e
      go true (inr (inr g)) ih = inr (ih (inr g))
      go false g ih = g

  -- a row of a new key is put
  insert_is_put : IsOrder K before → (x : R) (ys : List R) → Lacks key (key x) ys → insert_row before key x ys ≡ put before key x ys
  insert_is_put o x [] lacks = refl
  insert_is_put o x (y ∷ ys) lacks = go (before (key x) (key y)) refl (before (key y) (key x)) refl (insert_is_put o x ys (λ z h. lacks z (inr h)))
    where
      go : (b : Bool) → before (key x) (key y) ≡ b → (c : Bool) → before (key y) (key x) ≡ c → insert_row before key x ys ≡ put before key x ys
          → cond c (y ∷ insert_row before key x ys) (x ∷ y ∷ ys) ≡ cond b (x ∷ y ∷ ys) (cond c (y ∷ put before key x ys) (x ∷ ys))
      go true b true c ih = absurd (o.irreflexive (key x) (o.transitive (key x) (key y) (key x) b c))
      go true b false c ih = refl
      go false b true c ih = ap (λ rest. y ∷ rest) ih
      go false b false c ih = absurd (lacks y (inl refl) (sym (o.total (key x) (key y) b c)))

module _ {R K : Type 0} (f : Form R K) where
  pub sorted_same : (rows : List Row) → IsPermutation (map f.row_in rows) (sorted_rows f rows)
  sorted_same [] = IsPermutation-refl []
  sorted_same (r ∷ rows) = IsPermutation-trans _ _ _ (IsPermutation-cons (f.row_in r) _ _ (sorted_same rows)) (inserted f.before f.key (f.row_in r) (sorted_rows f rows))

  find_sorted : (p : R → Bool) → ((x y : R) → p x ≡ true → p y ≡ true → f.before (f.key x) (f.key y) ≡ false) → (rows : List Row) → find p (sorted_rows f rows) ≡ find p (map f.row_in rows)
  find_sorted p never [] = refl
  find_sorted p never (r ∷ rows) =
      find_inserted f.before f.key p never (f.row_in r) (sorted_rows f rows) ∙ ap (λ rest. cond (p (f.row_in r)) (Some (f.row_in r)) rest) (find_sorted p never rows)

  has_sorted : (row : R) (rows : List Row) → Has row (sorted_rows f rows) → Has row (map f.row_in rows)
  has_sorted row [] h = h
  has_sorted row (r ∷ rows) h = elim (has_inserted f.before f.key row (f.row_in r) (sorted_rows f rows) h) [
    | inl e ↦ inl e
    | inr g ↦ inr (has_sorted row rows g)
  ]

  sorted_has : (row : R) (rows : List Row) → Has row (map f.row_in rows) → Has row (sorted_rows f rows)
  sorted_has row [] h = h
  sorted_has row (r ∷ rows) (inl e) = inserted_has f.before f.key row (f.row_in r) (sorted_rows f rows) (inl e)
  sorted_has row (r ∷ rows) (inr h) = inserted_has f.before f.key row (f.row_in r) (sorted_rows f rows) (inr (sorted_has row rows h))

  -- ---- rows no two of which have one key

  sorted_in_order : (o : IsOrder K f.before) (rows : List Row) → Apart f.before f.key (map f.row_in rows) → InOrder f.before f.key (sorted_rows f rows)
  sorted_in_order o [] apart = tt
  sorted_in_order o (r ∷ rows) apart =
      let x = f.row_in r in
      let ys = sorted_rows f rows in
      subst (λ zs. InOrder f.before f.key zs)
      (sym (insert_is_put f.before f.key o x ys (λ y h k. all_has (λ w. f.key x ≡ f.key w → ⊥) y (map f.row_in rows) apart.0 (has_sorted y rows h) (sym k))))
      (put_in_order f.before f.key o x ys (sorted_in_order o rows apart.1))

  pub sorted_held : IsOrder K f.before → (rows : List Row) → IsHeld f rows → sorted_rows f rows ≡ in_order f rows
  sorted_held o rows held =
      let apart = keys_apart f rows held in
      in_order_same f.before f.key o (sorted_rows f rows) (in_order f rows) (sorted_in_order o rows apart) (ordered_in_order f.before f.key o (map f.row_in rows))
      (λ row h. has_ordered f.before f.key o (map f.row_in rows) apart row (has_sorted row rows h))
      (λ row h. sorted_has row rows (ordered_has f.before f.key o (map f.row_in rows) row h))

pub shown_held : (trees : Trees) → AreHeld trees → tables_shown trees ≡ tables_in trees
unfolding tables_shown tables_in
shown_held trees held =
    let meta = ap first_meta (sorted_held meta_form number_order (trees 0) held.meta) in
    let room = sorted_held room_form name_order (trees 2) held.room in
    let vector = sorted_held vector_form number_order (trees 4) held.vector in
    let log = sorted_held log_form id_order (trees 14) held.log in
    let booking = sorted_held booking_form id_order (trees 10) held.booking in
    let errorlog = sorted_held error_form id_order (trees 12) held.errorlog in
    let cancelled = sorted_held cancelled_form id_order (trees 16) held.cancelled in
    let cancels = sorted_held cancel_form id_order (trees 18) held.cancels in
    λ i. record { meta = meta i; room = room i; vector = vector i; log = log i; booking = booking i; errorlog = errorlog i; cancelled = cancelled i; cancels = cancels i }

-- ---- rows that pass a test, in a tree and of a table

-- the rows of a room, and the stored rows that have its name
pub rows_picked : {R : Type 0} (g : Row → R) (p : Row → Bool) (q : R → Bool) → ((r : Row) → q (g r) ≡ p r) → (rows : List Row) → filter q (map g rows) ≡ map g (filter p rows)
rows_picked g p q same [] = refl
rows_picked {R} g p q same (r ∷ rows) = ap (λ b. cond b (g r ∷ filter q (map g rows)) (filter q (map g rows))) (same r) ∙ go (p r) (rows_picked g p q same rows)
  where
    go : (b : Bool) → filter q (map g rows) ≡ map g (filter p rows) → cond b (g r ∷ filter q (map g rows)) (filter q (map g rows)) ≡ map g (cond b (r ∷ filter p rows) (filter p rows))
    go true ih = ap (λ rest. g r ∷ rest) ih
    go false ih = ih

pub all_picked : (rows : List Row) → filter (λ r. true) rows ≡ rows
all_picked [] = refl
all_picked (r ∷ rows) = ap (λ rest. r ∷ rest) (all_picked rows)

pub sorted_picked : {R K : Type 0} (f : Form R K) (q : R → Bool) (rows : List Row) (out : List R) → out ≡ filter q (map f.row_in rows) → IsPermutation (filter q (sorted_rows f rows)) out
sorted_picked f q rows out is = subst (IsPermutation _) (sym is) (IsPermutation-filter q _ _ (IsPermutation-sym _ _ (sorted_same f rows)))

pub find_filtered : {R : Type 0} (p q : R → Bool) (xs : List R) → find p (filter q xs) ≡ find (λ x. p x && q x) xs
find_filtered p q [] = refl
find_filtered {R} p q (x ∷ xs) = go (q x) (find_filtered p q xs)
  where
    both : (a : Bool) (rest : Option R) → cond a (Some x) rest ≡ cond (a && true) (Some x) rest
    both true rest = refl
    both false rest = refl

    none : (a : Bool) (rest : Option R) → rest ≡ cond (a && false) (Some x) rest
    none true rest = refl
    none false rest = refl

    go : (b : Bool) → find p (filter q xs) ≡ find (λ x. p x && q x) xs → find p (cond b (x ∷ filter q xs) (filter q xs)) ≡ cond (p x && b) (Some x) (find (λ x. p x && q x) xs)
    go true ih = ap (λ rest. cond (p x) (Some x) rest) ih ∙ both (p x) _
    go false ih = ih ∙ none (p x) _

-- of rows that stand by their ids, the one with an id that is of a room
pub find_in_sorted : {R : Type 0} (f : Form R Id) (q : R → Bool) (id : Id) (rows : List Row) → f.before ≡ id_before
    → find (λ r. same_id (f.key r) id && q r) (sorted_rows f rows) ≡ find (λ r. same_id (f.key r) id && q r) (map f.row_in rows)
find_in_sorted {R} f q id rows by_id = find_sorted f (λ r. same_id (f.key r) id && q r) never rows
  where
    is : (x : R) → (same_id (f.key x) id && q x) ≡ true → f.key x ≡ id
    is x h = same_id-true (f.key x) id (and_parts (same_id (f.key x) id) (q x) h).0

    low : (b : Bool) → id_before id id ≡ b → b ≡ false
    low true h = absurd (id_order.irreflexive id h)
    low false h = refl

    never : (x y : R) → (same_id (f.key x) id && q x) ≡ true → (same_id (f.key y) id && q y) ≡ true → f.before (f.key x) (f.key y) ≡ false
    never x y h g = ap (λ (less : Id → Id → Bool). less (f.key x) (f.key y)) by_id ∙ ap (λ k. id_before k (f.key y)) (is x h) ∙ ap (λ k. id_before id k) (is y g) ∙ low (id_before id id) refl

-- the first of the rows that were kept, if there is one
pub first_kept : {R : Type 0} (p : R → Bool) (xs kept : List R) (y : R) → kept ≡ filter p xs → 0 < length kept → y ≡ slice_index_or kept 0 y → Some y ≡ find p xs
first_kept {R} p xs kept y is some at = go kept some at ∙ ap head is ∙ sym (heads xs)
  where
    head : List R → Option R
    head [] = None
    head (x ∷ more) = Some x

    heads : (xs : List R) → find p xs ≡ head (filter p xs)
    heads [] = refl
    heads (x ∷ xs) = one (p x) (heads xs)
      where
        one : (b : Bool) → find p xs ≡ head (filter p xs) → cond b (Some x) (find p xs) ≡ head (cond b (x ∷ filter p xs) (filter p xs))
        one true ih = refl
        one false ih = ih

    go : (kept : List R) → 0 < length kept → y ≡ slice_index_or kept 0 y → Some y ≡ head kept
    go [] some at = absurd (omega (arith, some))
    go (x ∷ more) some at = ap Some at

pub none_kept : {R : Type 0} (p : R → Bool) (xs kept : List R) → kept ≡ filter p xs → length kept ≡ 0 → None ≡ find p xs
none_kept {R} p xs kept is none = go xs (ap length (sym is) ∙ none)
  where
    go : (xs : List R) → length (filter p xs) ≡ 0 → None ≡ find p xs
    go [] h = refl
    go (x ∷ xs) h = one (p x) h (go xs)
      where
        one : (b : Bool) → length (cond b (x ∷ filter p xs) (filter p xs)) ≡ 0 → (length (filter p xs) ≡ 0 → None ≡ find p xs) → None ≡ cond b (Some x) (find p xs)
        one true h ih = absurd (omega (arith, h))
        one false h ih = ih h

-- what the four tables have of an id and a room
module _ (room : Text) (id : Id) (trees : Trees) where
  pub booking_shown : find_booking room id (tables_shown trees) ≡ find (λ r. same_id (booking_id r) id && bytes_eq r.room room) (map booking_form.row_in (trees 10))
  unfolding tables_shown
  booking_shown = find_in_sorted booking_form (λ r. bytes_eq r.room room) id (trees 10) refl

  pub error_shown : find_error room id (tables_shown trees) ≡ find (λ r. same_id (error_id r) id && bytes_eq r.room room) (map error_form.row_in (trees 12))
  unfolding tables_shown
  error_shown = find_in_sorted error_form (λ r. bytes_eq r.room room) id (trees 12) refl

  pub cancelled_shown : find_cancelled room id (tables_shown trees) ≡ find (λ r. same_id (cancelled_id r) id && bytes_eq r.room room) (map cancelled_form.row_in (trees 16))
  unfolding tables_shown
  cancelled_shown = find_in_sorted cancelled_form (λ r. bytes_eq r.room room) id (trees 16) refl

  pub cancel_shown : find_cancel room id (tables_shown trees) ≡ find (λ r. same_id (cancel_id r) id && bytes_eq r.room room) (map cancel_form.row_in (trees 18))
  unfolding tables_shown
  cancel_shown = find_in_sorted cancel_form (λ r. bytes_eq r.room room) id (trees 18) refl

-- the rows that answer the other questions
pub rooms_shown : (trees : Trees) (out : List Text) → out ≡ map room_form.row_in (filter (λ r. true) (trees 2)) → IsPermutation (tables_shown trees).room out
unfolding tables_shown
rooms_shown trees out is = subst (IsPermutation _) (sym (is ∙ ap (map room_form.row_in) (all_picked (trees 2)))) (IsPermutation-sym _ _ (sorted_same room_form (trees 2)))

pub errors_shown : (room : Text) (trees : Trees) (out : List ErrorRow)
    → out ≡ filter (λ row. bytes_eq row.room room) (map error_form.row_in (trees 12)) → IsPermutation (picked_errors room (tables_shown trees)) out
unfolding tables_shown
errors_shown room trees out is = sorted_picked error_form (λ row. bytes_eq row.room room) (trees 12) out is

pub cancelled_rows_shown : (room : Text) (trees : Trees) (out : List CancelledRow)
    → out ≡ filter (λ row. bytes_eq row.room room) (map cancelled_form.row_in (trees 16)) → IsPermutation (picked_cancelled room (tables_shown trees)) out
unfolding tables_shown
cancelled_rows_shown room trees out is = sorted_picked cancelled_form (λ row. bytes_eq row.room room) (trees 16) out is

pub cancels_shown : (room : Text) (trees : Trees) (out : List CancelRow)
    → out ≡ filter (λ row. bytes_eq row.room room) (map cancel_form.row_in (trees 18)) → IsPermutation (picked_cancels room (tables_shown trees)) out
unfolding tables_shown
cancels_shown room trees out is = sorted_picked cancel_form (λ row. bytes_eq row.room room) (trees 18) out is

-- ---- a calendar

asked_both : (day : Option Date) (room : Text) (rows : List BookingRow)
    → filter (λ r. is_day_asked day r.day) (filter (λ r. bytes_eq r.room room) rows) ≡ filter (λ r. bytes_eq r.room room && is_day_asked day r.day) rows
asked_both day room [] = refl
asked_both day room (r ∷ rows) = go (bytes_eq r.room room) (asked_both day room rows)
  where
    go : (b : Bool) → filter (λ r. is_day_asked day r.day) (filter (λ r. bytes_eq r.room room) rows) ≡ filter (λ r. bytes_eq r.room room && is_day_asked day r.day) rows
        → filter (λ r. is_day_asked day r.day) (cond b (r ∷ filter (λ r. bytes_eq r.room room) rows) (filter (λ r. bytes_eq r.room room) rows))
        ≡ cond (b && is_day_asked day r.day) (r ∷ filter (λ r. bytes_eq r.room room && is_day_asked day r.day) rows) (filter (λ r. bytes_eq r.room room && is_day_asked day r.day) rows)
    go true ih = ap (λ more. cond (is_day_asked day r.day) (r ∷ more) more) ih
    go false ih = ih

pub calendar_is : (room : Text) (day : Option Date) (trees : Trees) (shown out : List BookingRow)
    → shown ≡ filter (λ row. bytes_eq row.room room) (map booking_form.row_in (trees 10)) → IsPermutation (filter (λ r. is_day_asked day r.day) shown) out
    → IsSortedBy booking_before out → AreBookings room day (tables_shown trees) out
unfolding tables_shown
calendar_is room day trees shown out read same sorted = (
  subst (λ xs. IsPermutation xs out) (asked_both day room (sorted_rows booking_form (trees 10)))
      (IsPermutation-trans _ _ _ (IsPermutation-filter (λ r. is_day_asked day r.day) _ _ (sorted_picked booking_form (λ row. bytes_eq row.room room) (trees 10) shown read)) same),
  sorted,
)
