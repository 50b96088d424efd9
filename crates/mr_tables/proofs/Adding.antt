-- The rows of writes, added write by write.
use Rattle.std.proofs.Common.{◌≡◌, refl, sym, ap, ◌∙◌, ℕ, suc, ◌+◌, ◌<◌, List, [], ◌∷◌, ◌++◌, length, get_or, take, Option, Some, None, arith, append-nil}
use Rattle.std.proofs.lemmas.List.{take_more, length-take-le}
use Rattle.std.proofs.lemmas.List.Elements.{filter_map-append}
use Rattle.std.specs.List.{cons_option, filter_map}
use Rattle.mr_model.specs.Texts.{Text}
use Rattle.mr_model.specs.Writes.{Id, Write}
use Rattle.mr_model.specs.Tables.{MetaRow, VectorRow, LogRow, PlaceRow, Booked, Erred, Cancelled, Cancel, as_booking, as_error, as_cancelled, as_cancel}
use Rattle.mr_model.specs.Queries.{booking_id, error_id, cancelled_id}
use Rattle.mr_replay.specs.Places.{UndoRow}
use Rattle.mr_tables.specs.ExecutionRows.{log_row_on, place_row_on, log_rows, place_rows}
use Rattle.mr_tables.specs.Written.{not_booked, not_erred, not_cancelled, with_places, written, with_place, with_write_rows}

-- ---- lists of rows

first_number : (k n : ℕ) → k + 1 + n ≡ k + suc n
first_number k n = omega arith

log_rows-push : (commits k : ℕ) (ws : List Write) (us : List UndoRow) (w : Write) (u : UndoRow) → length us ≡ length ws
    → log_rows commits k (ws ++ w ∷ []) (us ++ u ∷ []) ≡ log_rows commits k ws us ++ log_row_on commits (k + length ws) w u ∷ []
log_rows-push commits k [] [] w u l = let e : k ≡ k + 0 = omega arith in ap (λ n. log_row_on commits n w u ∷ []) e
log_rows-push commits k [] (t ∷ ts) w u l = absurd (let e : suc (length ts) ≡ 0 = l in omega (arith, e))
log_rows-push commits k (v ∷ vs) [] w u l = absurd (let e : 0 ≡ suc (length vs) = l in omega (arith, e))
log_rows-push commits k (v ∷ vs) (t ∷ ts) w u l =
    let e : suc (length ts) ≡ suc (length vs) = l in
    ap (λ rows. log_row_on commits k v t ∷ rows) (log_rows-push commits (k + 1) vs ts w u (omega (arith, e)))
    ∙ ap (λ n. log_row_on commits k v t ∷ (log_rows commits (k + 1) vs ts ++ log_row_on commits n w u ∷ [])) (first_number k (length vs))

place_rows-push : (commits k : ℕ) (ws : List Write) (us : List UndoRow) (bys : List (Option Id)) (w : Write) (u : UndoRow) (by : Option Id) → length us ≡ length ws
    → length bys ≡ length ws → place_rows commits k (ws ++ w ∷ []) (us ++ u ∷ []) (bys ++ by ∷ []) ≡ place_rows commits k ws us bys ++ place_row_on commits (k + length ws) w u by ∷ []
place_rows-push commits k [] [] [] w u by l m = let e : k ≡ k + 0 = omega arith in ap (λ n. place_row_on commits n w u by ∷ []) e
place_rows-push commits k [] (t ∷ ts) bys w u by l m = absurd (let e : suc (length ts) ≡ 0 = l in omega (arith, e))
place_rows-push commits k [] [] (b ∷ bs) w u by l m = absurd (let e : suc (length bs) ≡ 0 = m in omega (arith, e))
place_rows-push commits k (v ∷ vs) [] bys w u by l m = absurd (let e : 0 ≡ suc (length vs) = l in omega (arith, e))
place_rows-push commits k (v ∷ vs) (t ∷ ts) [] w u by l m = absurd (let e : 0 ≡ suc (length vs) = m in omega (arith, e))
place_rows-push commits k (v ∷ vs) (t ∷ ts) (b ∷ bs) w u by l m =
    let e : suc (length ts) ≡ suc (length vs) = l in
    let f : suc (length bs) ≡ suc (length vs) = m in
    ap (λ rows. place_row_on commits k v t b ∷ rows) (place_rows-push commits (k + 1) vs ts bs w u by (omega (arith, e)) (omega (arith, f)))
    ∙ ap (λ n. place_row_on commits k v t b ∷ (place_rows commits (k + 1) vs ts bs ++ place_row_on commits n w u by ∷ [])) (first_number k (length vs))

-- ---- the tables of one row more

grown : {Y : Type 0} (f : PlaceRow → Option Y) (places : List PlaceRow) (row : PlaceRow) (y : Y) → f row ≡ Some y → filter_map f places ++ y ∷ [] ≡ filter_map f (places ++ row ∷ [])
grown f places row y e = ap (λ o. filter_map f places ++ cons_option o []) (sym e) ∙ sym (filter_map-append f places (row ∷ []))

kept : {Y : Type 0} (f : PlaceRow → Option Y) (places : List PlaceRow) (row : PlaceRow) → f row ≡ None → filter_map f places ≡ filter_map f (places ++ row ∷ [])
kept f places row e = sym (append-nil (filter_map f places)) ∙ ap (λ o. filter_map f places ++ cons_option o []) (sym e) ∙ sym (filter_map-append f places (row ∷ []))

pub place-push : (meta : MetaRow) (rooms : List Text) (vector : List VectorRow) (log : List LogRow) (places : List PlaceRow) (row : PlaceRow)
    → with_place (with_places meta rooms vector log places) row ≡ with_places meta rooms vector log (places ++ row ∷ [])
place-push meta rooms vector log places (Booked row) = λ i. record {
  meta = meta;
  room = rooms;
  vector = vector;
  dropped = [];
  log = log;
  unbooked = kept not_booked places (Booked row) refl i;
  booking = grown as_booking places (Booked row) row refl i;
  unlogged = grown not_erred places (Booked row) (booking_id row) refl i;
  errorlog = kept as_error places (Booked row) refl i;
  uncancelled = grown not_cancelled places (Booked row) (booking_id row) refl i;
  cancelled = kept as_cancelled places (Booked row) refl i;
  cancels = kept as_cancel places (Booked row) refl i;
}
place-push meta rooms vector log places (Erred row) = λ i. record {
  meta = meta;
  room = rooms;
  vector = vector;
  dropped = [];
  log = log;
  unbooked = grown not_booked places (Erred row) (error_id row) refl i;
  booking = kept as_booking places (Erred row) refl i;
  unlogged = kept not_erred places (Erred row) refl i;
  errorlog = grown as_error places (Erred row) row refl i;
  uncancelled = grown not_cancelled places (Erred row) (error_id row) refl i;
  cancelled = kept as_cancelled places (Erred row) refl i;
  cancels = kept as_cancel places (Erred row) refl i;
}
place-push meta rooms vector log places (Cancelled row) = λ i. record {
  meta = meta;
  room = rooms;
  vector = vector;
  dropped = [];
  log = log;
  unbooked = grown not_booked places (Cancelled row) (cancelled_id row) refl i;
  booking = kept as_booking places (Cancelled row) refl i;
  unlogged = grown not_erred places (Cancelled row) (cancelled_id row) refl i;
  errorlog = kept as_error places (Cancelled row) refl i;
  uncancelled = kept not_cancelled places (Cancelled row) refl i;
  cancelled = grown as_cancelled places (Cancelled row) row refl i;
  cancels = kept as_cancel places (Cancelled row) refl i;
}
place-push meta rooms vector log places (Cancel row) = λ i. record {
  meta = meta;
  room = rooms;
  vector = vector;
  dropped = [];
  log = log;
  unbooked = kept not_booked places (Cancel row) refl i;
  booking = kept as_booking places (Cancel row) refl i;
  unlogged = kept not_erred places (Cancel row) refl i;
  errorlog = kept as_error places (Cancel row) refl i;
  uncancelled = kept not_cancelled places (Cancel row) refl i;
  cancelled = kept as_cancelled places (Cancel row) refl i;
  cancels = grown as_cancel places (Cancel row) row refl i;
}

-- ---- write by write

pub written-push : (meta : MetaRow) (rooms : List Text) (vector : List VectorRow) (commits k : ℕ) (ws : List Write) (us : List UndoRow)
    (bys : List (Option Id)) (w : Write) (u : UndoRow) (by : Option Id) → length us ≡ length ws → length bys ≡ length ws
    → with_write_rows (written meta rooms vector commits k ws us bys) commits (k + length ws) w u by ≡ written meta rooms vector commits k (ws ++ w ∷ []) (us ++ u ∷ []) (bys ++ by ∷ [])
written-push meta rooms vector commits k ws us bys w u by l m =
    place-push meta rooms vector (log_rows commits k ws us ++ log_row_on commits (k + length ws) w u ∷ []) (place_rows commits k ws us bys) (place_row_on commits (k + length ws) w u by)
    ∙ (λ i. with_places meta rooms vector (sym (log_rows-push commits k ws us w u l) i) (sym (place_rows-push commits k ws us bys w u by l m) i))

-- one write more of three lists
pub written-more : (meta : MetaRow) (rooms : List Text) (vector : List VectorRow) (commits k i : ℕ) (ws : List Write) (us : List UndoRow) (bys : List (Option Id))
    (w : Write) (u : UndoRow) (by : Option Id) → length us ≡ length ws → length bys ≡ length ws → i < length ws → w ≡ get_or ws i w → u ≡ get_or us i u
    → by ≡ get_or bys i by → with_write_rows (written meta rooms vector commits k (take i ws) (take i us) (take i bys)) commits (k + i) w u by
    ≡ written meta rooms vector commits k (take (i + 1) ws) (take (i + 1) us) (take (i + 1) bys)
written-more meta rooms vector commits k i ws us bys w u by l m low p q r =
    let a : length (take i ws) ≡ i = length-take-le i ws (omega (arith, low)) in
    let b : length (take i us) ≡ i = length-take-le i us (omega (arith, low, l)) in
    let c : length (take i bys) ≡ i = length-take-le i bys (omega (arith, low, m)) in
    ap (λ n. with_write_rows (written meta rooms vector commits k (take i ws) (take i us) (take i bys)) commits (k + n) w u by) (sym a)
    ∙ written-push meta rooms vector commits k (take i ws) (take i us) (take i bys) w u by (b ∙ sym a) (c ∙ sym a)
    ∙ (λ t. written meta rooms vector commits k (take i ws ++ p t ∷ []) (take i us ++ q t ∷ []) (take i bys ++ r t ∷ []))
    ∙ (λ t. written meta rooms vector commits k (sym (take_more ws i w low) t) (sym (take_more us i u (omega (arith, low, l))) t) (sym (take_more bys i by (omega (arith, low, m))) t))
