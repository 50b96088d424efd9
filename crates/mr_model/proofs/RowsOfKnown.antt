-- The rows of tables are those of the known writes; and lists in key order are told by their members.
use Rattle.std.proofs.Common.{◌≡◌, refl, sym, ap, ◌∙◌, subst, ℕ, ◌≤◌, Bool, true, false, not, eqb, List, [], ◌∷◌, map, inl, inr, Option, Some, arith, eqb-true, eq-eqb}
use Rattle.std.proofs.lemmas.Bool.{true≢false, cond-true, cond-false, false_from_ne_true, not-true}
use Rattle.std.specs.Prelude.{◌↔◌}
use Rattle.std.specs.List.{filter, filter_map}
use Rattle.mr_model.specs.Texts.{numbers_on}
use Rattle.mr_model.specs.Writes.{Id, Write, id_of, same_id}
use Rattle.mr_model.specs.Replica.{Replica, count_of, is_dropped, IsReplica}
use Rattle.mr_model.specs.Tables.{VectorRow, Tables, by_id, vector_row, log_row, booking_row, error_row, cancelled_row, cancel_row, tables_of}
use Rattle.mr_model.specs.Dropped.{Has}
use Rattle.mr_model.specs.Changes.{IdBefore, RiseById, AreInKeyOrder, HasRowsOfKnown, SameRows, HaveSameRows, AreSameTables}
use Rattle.mr_model.proofs.Members.{has_filter, filter_has, has_filter_map, filter_map_has, has_map, map_has, sorted_same, same_id-true}
use Rattle.mr_model.proofs.RowsById.{has_flat, flat_has, has_numbers, has_by_id, by_id_has}
use Rattle.mr_model.proofs.TablesTell.{vector_entry, in_row, counted_server}
use Rattle.mr_model.proofs.ErrorsTell.{sorted_map}

-- ---- rows of tables, and lists in key order by their members

kept_rows : {R : Type 0} (r : Replica) (f : Write → R) (row : R) → IsReplica r
    → Has row (map f (filter (λ u. not (is_dropped r (id_of u))) (by_id r.known))) ↔ ((w : Write) × Has w r.known × (is_dropped r (id_of w) ≡ false) × (row ≡ f w))
kept_rows r f row h = (
  (λ a. let (w, b, e) = map_has f row (filter (λ u. not (is_dropped r (id_of u))) (by_id r.known)) a in
      let p = filter_has (λ u. not (is_dropped r (id_of u))) w (by_id r.known) b in
      (w, by_id_has r w p.0, not-true (is_dropped r (id_of w)) p.1, e)),
  (λ (w, a, d, e). subst (λ x. Has x (map f (filter (λ u. not (is_dropped r (id_of u))) (by_id r.known)))) (sym e)
      (has_map f w (filter (λ u. not (is_dropped r (id_of u))) (by_id r.known)) (has_filter (λ u. not (is_dropped r (id_of u))) w (by_id r.known) (ap not d) (has_by_id r w h a)))),
)

told_rows : {R : Type 0} (r : Replica) (f : Write → Option R) (row : R) → IsReplica r → Has row (filter_map f (by_id r.known)) ↔ ((w : Write) × Has w r.known × (f w ≡ Some row))
told_rows r f row h =
    ((λ a. let (w, b, e) = filter_map_has f row (by_id r.known) a in (w, by_id_has r w b, e)), (λ (w, a, e). has_filter_map f w row (by_id r.known) e (has_by_id r w h a)))

vector_rows : (r : Replica) (row : VectorRow) → IsReplica r → Has row (tables_of r).vector ↔ (¬ (count_of r row.server ≡ 0) × (row ≡ vector_entry r row.server))
vector_rows r row h = (there, back)
  where
    counted : (s : ℕ) → Has row (vector_row r s) → (b : Bool) → eqb (count_of r s) 0 ≡ b → ¬ (count_of r s ≡ 0)
    counted s a true e z = absurd (subst (λ rows. Has row rows) (cond-true (eqb (count_of r s) 0) [] (vector_entry r s ∷ []) e) a)
    counted s a false e z = true≢false (sym (eq-eqb (count_of r s) 0 z) ∙ e)

    there : Has row (tables_of r).vector → ¬ (count_of r row.server ≡ 0) × (row ≡ vector_entry r row.server)
    there a =
        let (s, b, c) = flat_has (vector_row r) row (numbers_on 1 99) a in
        let e : row ≡ vector_entry r s = in_row r s row c in
        let same : row.server ≡ s = ap (λ (v : VectorRow). v.server) e in
        ((λ z. counted s c (eqb (count_of r s) 0) refl (ap (count_of r) (sym same) ∙ z)), e ∙ ap (vector_entry r) (sym same))

    back : ¬ (count_of r row.server ≡ 0) × (row ≡ vector_entry r row.server) → Has row (tables_of r).vector
    back p =
        let b = counted_server r row.server h p.0 in
        let top : row.server ≤ 99 = b.1 in
        has_flat (vector_row r) row row.server (numbers_on 1 99) (has_numbers row.server 1 99 b.0 (omega (arith, top)))
        (subst (λ rows. Has row rows) (sym (cond-false (eqb (count_of r row.server) 0) [] (vector_entry r row.server ∷ [])
        (false_from_ne_true (eqb (count_of r row.server) 0) (λ z. p.0 (eqb-true (count_of r row.server) 0 z))))) (inl p.1))

-- the rows of tables are those of the known writes
pub rows_of_known : (r : Replica) → IsReplica r → HasRowsOfKnown r
rows_of_known r h =
    record {
      vector = λ row. vector_rows r row h;
      log = λ row. kept_rows r (log_row r) row h;
      booking = λ row. told_rows r (booking_row r) row h;
      errorlog = λ row. told_rows r (error_row r) row h;
      cancelled = λ row. told_rows r (cancelled_row r) row h;
      cancels = λ row. told_rows r (cancel_row r) row h;
    }

pub id_irreflexive : (a : Id) → IdBefore a a → ⊥
id_irreflexive a (inl l) = omega (arith, l)
id_irreflexive a (inr p) = omega (arith, p.1)

-- an id before another is not it
pub id_apart : (a b : Id) → IdBefore a b → same_id a b ≡ false
id_apart a b before = false_from_ne_true (same_id a b) (λ e. id_irreflexive b (subst (λ i. IdBefore i b) (same_id-true a b e) before))

id_trans : (a b c : Id) → IdBefore a b → IdBefore b c → IdBefore a c
id_trans a b c (inl p) (inl q) = inl (omega (arith, p, q))
id_trans a b c (inl p) (inr q) = inl (let e = q.0 in omega (arith, p, e))
id_trans a b c (inr p) (inl q) = inl (let e = p.0 in omega (arith, q, e))
id_trans a b c (inr p) (inr q) = inr (p.0 ∙ q.0, omega (arith, p.1, q.1))

pub one_in_key_order : {R : Type 0} (key : R → Id) (xs ys : List R) → RiseById (map key xs) → RiseById (map key ys) → SameRows xs ys → xs ≡ ys
one_in_key_order key xs ys a b m =
    sorted_same (λ x y. IdBefore (key x) (key y)) (λ x. id_irreflexive (key x)) (λ x y z. id_trans (key x) (key y) (key z)) xs ys
    (sorted_map IdBefore key xs a) (sorted_map IdBefore key ys b) (λ x h. (m x).0 h) (λ x h. (m x).1 h)

-- tables in the order of their keys with the same rows are equal
pub same_in_key_order : (a b : Tables) → AreInKeyOrder a → AreInKeyOrder b → HaveSameRows a b → AreSameTables a b
same_in_key_order a b p q m =
    record {
      log = one_in_key_order (λ row. record { server = row.server; n = row.n }) a.log b.log p.log q.log m.log;
      booking = one_in_key_order (λ row. record { server = row.server; n = row.n }) a.booking b.booking p.booking q.booking m.booking;
      errorlog = one_in_key_order (λ row. record { server = row.server; n = row.n }) a.errorlog b.errorlog p.errorlog q.errorlog m.errorlog;
      cancelled = one_in_key_order (λ row. record { server = row.server; n = row.n }) a.cancelled b.cancelled p.cancelled q.cancelled m.cancelled;
      cancels = one_in_key_order (λ row. record { server = row.server; n = row.n }) a.cancels b.cancels p.cancels q.cancels m.cancels;
    }
