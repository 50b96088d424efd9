-- The rows of each table stand by rising id, so that none is there twice.
use Rattle.std.proofs.Common.{◌≡◌, sym, ap, ◌∙◌, subst, ℕ, zero, suc, ◌+◌, ◌<◌, ◌≤◌, not, eqb, List, [], ◌∷◌, map, drop, length, inl, inr, Option, Some, arith, eqb-true, slice_index}
use Rattle.std.specs.Prelude.{flat_map}
use Rattle.std.specs.List.{filter_map}
use Rattle.mr_model.specs.Dropped.{Has}
use Rattle.mr_model.specs.Texts.{numbers_on}
use Rattle.mr_model.specs.Writes.{Id, Write, id_of}
use Rattle.mr_model.specs.Replica.{Replica, writes_of, is_dropped, IsReplica}
use Rattle.mr_model.specs.Tables.{LogRow, PlaceRow, by_id, place_row, as_booking, as_error, as_cancelled, as_cancel, log_row, kept, tables_of}
use Rattle.mr_model.specs.Changes.{IdBefore, RiseById, AreInKeyOrder}
use Rattle.mr_model.specs.Queries.{booking_id, error_id, cancelled_id, cancel_id, row_id}
use Rattle.mr_model.proofs.Members.{filter_has, map_has, has_all, all_has, Sorted, sorted_filter}
use Rattle.mr_model.proofs.KnownById.{numbered_bounds, numbered_writes}
use Rattle.mr_model.proofs.RowsById.{flat_has, by_id_has}
use Rattle.mr_model.proofs.Runs.{sorted_append}
use Rattle.mr_model.proofs.ErrorsTell.{sorted_within, sorted_filter_map}
use Rattle.mr_model.proofs.RowsTell.{one_row, booked_is, erred_is, cancelled_is, cancel_is}

numbered_sorted : {A : Type 0} (f : A → ℕ) (k : ℕ) (xs : List A) → map f xs ≡ numbers_on k (length xs) → Sorted (λ x y. f x < f y) xs
numbered_sorted f k [] e = tt
numbered_sorted f k (x ∷ xs) e =
    let first : f x ≡ k = ap (λ (ms : List ℕ). slice_index ms 0) e in
    let rest = ap (λ (ms : List ℕ). drop 1 ms) e in
    (has_all (λ y. f x < f y) xs (λ y h. let low : k + 1 ≤ f y = (numbered_bounds f (k + 1) y xs rest h).0 in omega (arith, first, low)), numbered_sorted f (k + 1) xs rest)

-- the numbers from k on are at least k
pub numbers_low : (m k n : ℕ) → Has m (numbers_on k n) → k ≤ m
numbers_low m k zero h = absurd h
numbers_low m k (suc n) (inl e) = omega (arith, e)
numbers_low m k (suc n) (inr h) = let l : k + 1 ≤ m = numbers_low m (k + 1) n h in omega (arith, l)

abbrev pub WriteBefore : Write → Write → Type 0
WriteBefore x y = IdBefore (id_of x) (id_of y)

pub by_id_sorted : (r : Replica) → IsReplica r → Sorted WriteBefore (by_id r.known)
by_id_sorted r h = go 1 99
  where
    server_of : (s : ℕ) (x : Write) → Has x (writes_of s r.known) → x.stamp.server ≡ s
    server_of s x a = eqb-true x.stamp.server s (filter_has (λ v. eqb v.stamp.server s) x r.known a).1

    block : (s : ℕ) → Sorted WriteBefore (writes_of s r.known)
    block s =
        sorted_within (λ x y. x.stamp.n < y.stamp.n) WriteBefore (writes_of s r.known) (λ x y a b l. inr (server_of s x a ∙ sym (server_of s y b), l))
        (numbered_sorted (λ (w : Write). w.stamp.n) 1 (writes_of s r.known) (numbered_writes r s h))

    go : (k n : ℕ) → Sorted WriteBefore (flat_map (λ s. writes_of s r.known) (numbers_on k n))
    go k zero = tt
    go k (suc n) =
        sorted_append WriteBefore (writes_of k r.known) (flat_map (λ s. writes_of s r.known) (numbers_on (k + 1) n)) (block k) (go (k + 1) n)
        (λ x y a b. let (s, i, c) = flat_has (λ t. writes_of t r.known) y (numbers_on (k + 1) n) b in
        let p : x.stamp.server ≡ k = server_of k x a in
        let q : y.stamp.server ≡ s = server_of s y c in
        let l : k + 1 ≤ s = numbers_low s (k + 1) n i in
        inl (omega (arith, p, q, l)))

rise_by : {R : Type 0} (key : R → Id) (rows : List R) → Sorted (λ a b. IdBefore (key a) (key b)) rows → RiseById (map key rows)
rise_by key [] s = tt
rise_by key (x ∷ xs) s =
    (has_all (IdBefore (key x)) (map key xs) (λ i h. let (y, g, e) = map_has key i xs h in subst (IdBefore (key x)) (sym e) (all_has (λ b. IdBefore (key x) (key b)) y xs s.0 g)), rise_by key xs s.1)

sorted_of : {A B : Type 0} (P : B → B → Type 0) (f : A → B) (xs : List A) → Sorted (λ x y. P (f x) (f y)) xs → Sorted P (map f xs)
sorted_of P f [] s = tt
sorted_of P f (x ∷ xs) s = (has_all (P (f x)) (map f xs) (λ z h. let (y, g, e) = map_has f z xs h in subst (P (f x)) (sym e) (all_has (λ w. P (f x) (f w)) y xs s.0 g)), sorted_of P f xs s.1)

-- the rows of one table
table_rises : {R : Type 0} (r : Replica) (f : PlaceRow → Option R) (key : R → Id) → IsReplica r
    → ((p : PlaceRow) (row : R) → f p ≡ Some row → key row ≡ row_id p) → RiseById (map key (filter_map (λ w. f (place_row r w)) (by_id r.known)))
table_rises r f key h keyed =
    rise_by key (filter_map (λ w. f (place_row r w)) (by_id r.known))
    (sorted_filter_map (λ x y. IdBefore (row_id (place_row r x)) (row_id (place_row r y))) (λ a b. IdBefore (key a) (key b)) (λ w. f (place_row r w)) (by_id r.known)
    (λ x y u v l e g. subst (λ i. IdBefore i (key v)) (sym (keyed (place_row r x) u e)) (subst (λ i. IdBefore (row_id (place_row r x)) i) (sym (keyed (place_row r y) v g)) l))
    (sorted_within WriteBefore (λ x y. IdBefore (row_id (place_row r x)) (row_id (place_row r y))) (by_id r.known)
    (λ x y a b l. subst (λ i. IdBefore i (row_id (place_row r y))) (sym (one_row r x h (by_id_has r x a)).1) (subst (λ i. IdBefore (id_of x) i) (sym (one_row r y h (by_id_has r y b)).1) l))
    (by_id_sorted r h)))

pub tables_in_order : (r : Replica) → IsReplica r → AreInKeyOrder (tables_of r)
tables_in_order r h =
    record {
      log =
          rise_by (λ row. record { server = row.server; n = row.n }) (map (log_row r) (kept r))
          (sorted_of (λ (a b : LogRow). IdBefore (record { server = a.server; n = a.n }) (record { server = b.server; n = b.n })) (log_row r) (kept r)
          (sorted_filter WriteBefore (λ w. not (is_dropped r (id_of w))) (by_id r.known) (by_id_sorted r h)));
      booking = table_rises r as_booking booking_id h (λ p row e. sym (ap row_id (booked_is row p e)));
      errorlog = table_rises r as_error error_id h (λ p row e. sym (ap row_id (erred_is row p e)));
      cancelled = table_rises r as_cancelled cancelled_id h (λ p row e. sym (ap row_id (cancelled_is row p e)));
      cancels = table_rises r as_cancel cancel_id h (λ p row e. sym (ap row_id (cancel_is row p e)));
    }
