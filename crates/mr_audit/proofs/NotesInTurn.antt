-- Notes that come before one another, and a note that is in turn with each of such rows.
use Rattle.std.proofs.Common.{◌≡◌, refl, sym, ap, ◌∙◌, subst, ℕ, zero, suc, ◌+◌, ◌-◌, ◌<◌, ◌≤◌, Bool, true, false, not, ◌&&◌, ◌||◌, eqb, ltb, List}
use Rattle.std.proofs.Common.{[], ◌∷◌, length, ◌⊎◌, inl, inr, ◌↔◌, arith, IsTrue, slice_index_or, eq-eqb, eqb-true, ne_eqb, lt-ltb, ltb-true}
use Rattle.std.proofs.lemmas.Bool.{true≢false, false_from_ne_true, and_parts, and_from, or_cases, or_left, or_right, cases_order, cases_eq, cond-true, cond-false, not-true}
use Rattle.std.specs.List.{list_all}
use Rattle.std.specs.List.Sorted.{IsPartitionPoint}
use Rattle.mr_model.specs.Writes.{Id, same_id}
use Rattle.mr_model.specs.Changes.{IdBefore}
use Rattle.mr_model.proofs.Members.{all_has, has_all, same_id-true, same_id_from, same_id_refl}
use Rattle.mr_tables.specs.Change.{id_before}
use Rattle.mr_tables.specs.TableOrders.{InOrder, id_order, id_before-true, id_before_from}
use Rattle.mr_agree.specs.Agreeing.{Note, are_numbers_in_order}
use Rattle.mr_audit.proofs.SortedIds.{index_has}
use Rattle.mr_audit.specs.Turns.{comes_before, is_same_note, are_in_turn, are_two_in_turn, FrontFits, BehindFits}
use Rattle.mr_model.proofs.RowsOfKnown.{id_apart}
use Rattle.mr_model.proofs.MembersAlike.{bool_same}

-- ---- commit numbers

-- the later write has none, or both have one and it has the greater
abbrev pub Numbers : ℕ → ℕ → Type 0
Numbers s l = (l ≡ 0) ⊎ ((s ≡ 0 → ⊥) × (s < l))

numbers-true : (s l : ℕ) → are_numbers_in_order s l ≡ true → Numbers s l
numbers-true s l h = go (or_cases (eqb l 0) (not (eqb s 0) && ltb s l) h)
  where
    go : (eqb l 0 ≡ true) ⊎ ((not (eqb s 0) && ltb s l) ≡ true) → Numbers s l
    go (inl e) = inl (eqb-true l 0 e)
    go (inr e) =
        let p = and_parts (not (eqb s 0)) (ltb s l) e in
        inr (λ z. true≢false (sym (eq-eqb s 0 z) ∙ not-true (eqb s 0) p.0), ltb-true s l p.1)

numbers_from : (s l : ℕ) → Numbers s l → are_numbers_in_order s l ≡ true
numbers_from s l (inl e) = or_left (eqb l 0) (not (eqb s 0) && ltb s l) (eq-eqb l 0 e)
numbers_from s l (inr p) = or_right (eqb l 0) (not (eqb s 0) && ltb s l) (and_from (not (eqb s 0)) (ltb s l) (ap not (ne_eqb s 0 p.0)) (lt-ltb s l p.1))

numbers_trans : (a b c : ℕ) → Numbers a b → Numbers b c → Numbers a c
numbers_trans a b c p (inl e) = inl e
numbers_trans a b c (inl z) (inr q) = absurd (q.0 z)
numbers_trans a b c (inr p) (inr q) = inr (p.0, omega (arith, p.1, q.1))

-- ---- notes

abbrev pub Later : Note → Note → Type 0
Later a b = IdBefore a.id b.id × (a.id.server ≡ b.id.server → (a.time < b.time) × Numbers a.seq b.seq)

pub later-true : (a b : Note) → comes_before a b ≡ true → Later a b
later-true a b h = (id_before-true a.id b.id p.0, λ same. go same (or_cases (not (eqb a.id.server b.id.server)) (ltb a.time b.time && are_numbers_in_order a.seq b.seq) p.1))
  where
    p : (id_before a.id b.id ≡ true) × ((not (eqb a.id.server b.id.server) || (ltb a.time b.time && are_numbers_in_order a.seq b.seq)) ≡ true)
    p = and_parts (id_before a.id b.id) (not (eqb a.id.server b.id.server) || (ltb a.time b.time && are_numbers_in_order a.seq b.seq)) h

    go : a.id.server ≡ b.id.server → (not (eqb a.id.server b.id.server) ≡ true) ⊎ ((ltb a.time b.time && are_numbers_in_order a.seq b.seq) ≡ true) → (a.time < b.time) × Numbers a.seq b.seq
    go same (inl n) = absurd (true≢false (sym (eq-eqb a.id.server b.id.server same) ∙ not-true (eqb a.id.server b.id.server) n))
    go same (inr e) =
        let q = and_parts (ltb a.time b.time) (are_numbers_in_order a.seq b.seq) e in
        (ltb-true a.time b.time q.0, numbers-true a.seq b.seq q.1)

pub later_from : (a b : Note) → Later a b → comes_before a b ≡ true
later_from a b h = and_from (id_before a.id b.id) (not (eqb a.id.server b.id.server) || (ltb a.time b.time && are_numbers_in_order a.seq b.seq))
    (id_before_from a.id b.id h.0) (go (cases_eq a.id.server b.id.server))
  where
    go : (a.id.server ≡ b.id.server) ⊎ (a.id.server ≡ b.id.server → ⊥) → (not (eqb a.id.server b.id.server) || (ltb a.time b.time && are_numbers_in_order a.seq b.seq)) ≡ true
    go (inl same) =
        let q = h.1 same in
        or_right (not (eqb a.id.server b.id.server)) (ltb a.time b.time && are_numbers_in_order a.seq b.seq)
        (and_from (ltb a.time b.time) (are_numbers_in_order a.seq b.seq) (lt-ltb a.time b.time q.0) (numbers_from a.seq b.seq q.1))
    go (inr ne) = or_left (not (eqb a.id.server b.id.server)) (ltb a.time b.time && are_numbers_in_order a.seq b.seq) (ap not (ne_eqb a.id.server b.id.server ne))

server_le : (a b : Id) → IdBefore a b → a.server ≤ b.server
server_le a b (inl l) = omega (arith, l)
server_le a b (inr p) = let e = p.0 in omega (arith, e)

pub later_trans : (a b c : Note) → Later a b → Later b c → Later a c
later_trans a b c p q = (
  id_before-true a.id c.id (id_order.transitive a.id b.id c.id (id_before_from a.id b.id p.0) (id_before_from b.id c.id q.0)),
  λ same. let low = server_le a.id b.id p.0 in
      let high = server_le b.id c.id q.0 in
      let first : a.id.server ≡ b.id.server = omega (arith, low, high, same) in
      let second : b.id.server ≡ c.id.server = omega (arith, low, high, same) in
      let x = p.1 first in
      let y = q.1 second in
      (omega (arith, x.0, y.0), numbers_trans a.seq b.seq c.seq x.1 y.1),
)

other_ids_back : (a b : Id) → IdBefore a b → same_id b a ≡ false
other_ids_back a b h = false_from_ne_true (same_id b a) (λ e. id_order.irreflexive a (subst (λ i. id_before a i ≡ true) (same_id-true b a e) (id_before_from a b h)))

-- where one comes before the other, they are in turn in both orders
pub turn_of_later : (a b : Note) → Later a b → (are_in_turn a b ≡ true) × (are_in_turn b a ≡ true)
turn_of_later a b h = (
  cond-false (same_id a.id b.id) (eqb a.time b.time && eqb a.seq b.seq) (not (eqb a.id.server b.id.server && ltb a.id.n b.id.n)
      || (ltb a.time b.time && are_numbers_in_order a.seq b.seq)) (id_apart a.id b.id h.0) ∙ go (cases_eq a.id.server b.id.server),
  cond-false (same_id b.id a.id) (eqb b.time a.time && eqb b.seq a.seq)
      (not (eqb b.id.server a.id.server && ltb b.id.n a.id.n) || (ltb b.time a.time && are_numbers_in_order b.seq a.seq)) (other_ids_back a.id b.id h.0)
      ∙ or_left (not (eqb b.id.server a.id.server && ltb b.id.n a.id.n)) (ltb b.time a.time && are_numbers_in_order b.seq a.seq)
      (ap not (false_from_ne_true (eqb b.id.server a.id.server && ltb b.id.n a.id.n)
      (λ e. let q = and_parts (eqb b.id.server a.id.server) (ltb b.id.n a.id.n) e in
      id_order.irreflexive a.id
      (id_order.transitive a.id b.id a.id (id_before_from a.id b.id h.0) (id_before_from b.id a.id (inr (eqb-true b.id.server a.id.server q.0, ltb-true b.id.n a.id.n q.1))))))),
)
  where
    go : (a.id.server ≡ b.id.server) ⊎ (a.id.server ≡ b.id.server → ⊥) → (not (eqb a.id.server b.id.server && ltb a.id.n b.id.n) || (ltb a.time b.time && are_numbers_in_order a.seq b.seq)) ≡ true
    go (inl same) =
        let q = h.1 same in
        or_right (not (eqb a.id.server b.id.server && ltb a.id.n b.id.n)) (ltb a.time b.time && are_numbers_in_order a.seq b.seq)
        (and_from (ltb a.time b.time) (are_numbers_in_order a.seq b.seq) (lt-ltb a.time b.time q.0) (numbers_from a.seq b.seq q.1))
    go (inr ne) =
        or_left (not (eqb a.id.server b.id.server && ltb a.id.n b.id.n)) (ltb a.time b.time && are_numbers_in_order a.seq b.seq)
        (ap (λ v. not (v && ltb a.id.n b.id.n)) (ne_eqb a.id.server b.id.server ne))

pub later_of_turn : (a b : Note) → IdBefore a.id b.id → are_in_turn a b ≡ true → Later a b
later_of_turn a b i h = (
  i,
  λ same. go same i (or_cases (not (eqb a.id.server b.id.server && ltb a.id.n b.id.n)) (ltb a.time b.time && are_numbers_in_order a.seq b.seq)
      (sym (cond-false (same_id a.id b.id) (eqb a.time b.time && eqb a.seq b.seq)
      (not (eqb a.id.server b.id.server && ltb a.id.n b.id.n) || (ltb a.time b.time && are_numbers_in_order a.seq b.seq)) (id_apart a.id b.id i)) ∙ h)),
)
  where
    go : a.id.server ≡ b.id.server → IdBefore a.id b.id → (not (eqb a.id.server b.id.server && ltb a.id.n b.id.n) ≡ true)
        ⊎ ((ltb a.time b.time && are_numbers_in_order a.seq b.seq) ≡ true) → (a.time < b.time) × Numbers a.seq b.seq
    go same k (inr e) =
        let q = and_parts (ltb a.time b.time) (are_numbers_in_order a.seq b.seq) e in
        (ltb-true a.time b.time q.0, numbers-true a.seq b.seq q.1)
    go same (inl l) (inl n) = absurd (omega (arith, l, same))
    go same (inr p) (inl n) =
        absurd (true≢false (sym (and_from (eqb a.id.server b.id.server) (ltb a.id.n b.id.n) (eq-eqb a.id.server b.id.server p.0) (lt-ltb a.id.n b.id.n p.1))
        ∙ not-true (eqb a.id.server b.id.server && ltb a.id.n b.id.n) n))

pub turn_self : (a : Note) → are_in_turn a a ≡ true
turn_self a =
    cond-true (same_id a.id a.id) (eqb a.time a.time && eqb a.seq a.seq)
    (not (eqb a.id.server a.id.server && ltb a.id.n a.id.n) || (ltb a.time a.time && are_numbers_in_order a.seq a.seq)) (same_id_refl a.id)
    ∙ and_from (eqb a.time a.time) (eqb a.seq a.seq) (eq-eqb a.time a.time refl) (eq-eqb a.seq a.seq refl)

same_note : (a b : Note) → is_same_note a b ≡ true → a ≡ b
same_note a b h =
    let p = and_parts (same_id a.id b.id) (eqb a.time b.time && eqb a.seq b.seq) h in
    let q = and_parts (eqb a.time b.time) (eqb a.seq b.seq) p.1 in
    let id = same_id-true a.id b.id p.0 in
    let time = eqb-true a.time b.time q.0 in
    let seq = eqb-true a.seq b.seq q.1 in
    λ i. record { id = id i; time = time i; seq = seq i }

same_of_turn : (a b : Note) → a.id ≡ b.id → are_in_turn a b ≡ true → is_same_note a b ≡ true
same_of_turn a b e h =
    let ids = same_id_from a.id b.id e in
    and_from (same_id a.id b.id) (eqb a.time b.time && eqb a.seq b.seq) ids
    (sym (cond-true (same_id a.id b.id) (eqb a.time b.time && eqb a.seq b.seq) (not (eqb a.id.server b.id.server && ltb a.id.n b.id.n) || (ltb a.time b.time && are_numbers_in_order a.seq b.seq)) ids)
    ∙ h)

-- ---- rows in turn

-- rows that come before one another stand in the order of their ids
pub ids_in_order : {R : Type 0} (note : R → Note) (rows : List R) → InOrder comes_before note rows → InOrder id_before (λ r. (note r).id) rows
ids_in_order note [] s = tt
ids_in_order note (x ∷ rows) s = (
  has_all (λ y. id_before (note x).id (note y).id ≡ true) rows
      (λ y h. id_before_from (note x).id (note y).id (later-true (note x) (note y) (all_has (λ u. comes_before (note x) (note u) ≡ true) y rows s.0 h)).0),
  ids_in_order note rows s.1,
)

-- of two rows in order the one in front is before the other
pub sorted_at : {R K : Type 0} (before : K → K → Bool) (key : R → K) (rows : List R) → InOrder before key rows
    → (j k : ℕ) (d : R) → j < k → k < length rows → before (key (slice_index_or rows j d)) (key (slice_index_or rows k d)) ≡ true
sorted_at before key [] s j k d l m = absurd (omega (arith, m))
sorted_at before key (x ∷ rows) s j zero d l m = absurd (omega (arith, l))
sorted_at before key (x ∷ rows) s zero (suc k) d l m = all_has (λ y. before (key x) (key y) ≡ true) (slice_index_or rows k d) rows s.0 (index_has rows k d (omega (arith, m)))
sorted_at before key (x ∷ rows) s (suc j) (suc k) d l m = sorted_at before key rows s.1 j k d (omega (arith, l)) (omega (arith, m))

all_index : {R : Type 0} (p : R → Bool) (rows : List R) → ((k : ℕ) (d : R) → k < length rows → p (slice_index_or rows k d) ≡ true) → list_all p rows ≡ true
all_index p [] f = refl
all_index p (x ∷ rows) f = and_from (p x) (list_all p rows) (f 0 x (omega arith)) (all_index p rows (λ k d l. f (suc k) d (omega (arith, l))))

index_all : {R : Type 0} (p : R → Bool) (rows : List R) → list_all p rows ≡ true → (k : ℕ) (d : R) → k < length rows → p (slice_index_or rows k d) ≡ true
index_all p [] h k d l = absurd (omega (arith, l))
index_all p (x ∷ rows) h zero d l = (and_parts (p x) (list_all p rows) h).0
index_all p (x ∷ rows) h (suc k) d l = index_all p rows (and_parts (p x) (list_all p rows) h).1 k d (omega (arith, l))

module _ {R : Type 0} (note : R → Note) (rows : List R) (a : Note) (at : ℕ) (order : InOrder comes_before note rows) (bound : at ≤ length rows)
    (point : IsPartitionPoint (λ r. id_before (note r).id a.id ≡ true) (λ r. id_before (note r).id a.id ≡ false) rows at) where
  all_fit : FrontFits note rows at a → BehindFits note rows at a → (k : ℕ) (d : R) → k < length rows → are_two_in_turn a (note (slice_index_or rows k d)) ≡ true
  all_fit front behind k d l = side (cases_order (k + 1) at)
    where
      row : Note
      row = note (slice_index_or rows k d)

      before : Later row a → are_two_in_turn a row ≡ true
      before h = let t = turn_of_later row a h in and_from (are_in_turn a row) (are_in_turn row a) t.1 t.0

      after : Later a row → are_two_in_turn a row ≡ true
      after h = let t = turn_of_later a row h in and_from (are_in_turn a row) (are_in_turn row a) t.0 t.1

      same : a ≡ row → are_two_in_turn a row ≡ true
      same e = subst (λ x. are_two_in_turn a x ≡ true) e (and_from (are_in_turn a a) (are_in_turn a a) (turn_self a) (turn_self a))

      here : k ≡ at → (is_same_note a row || comes_before a row) ≡ true
      here e = subst (λ j. (is_same_note a (note (slice_index_or rows j d)) || comes_before a (note (slice_index_or rows j d))) ≡ true) (sym e) (behind d (omega (arith, e, l)))

      at_place : (is_same_note a row ≡ true) ⊎ (comes_before a row ≡ true) → are_two_in_turn a row ≡ true
      at_place (inl e) = same (same_note a row e)
      at_place (inr e) = after (later-true a row e)

      beyond : at < k → (is_same_note a (note (slice_index_or rows at d)) ≡ true) ⊎ (comes_before a (note (slice_index_or rows at d)) ≡ true) → are_two_in_turn a row ≡ true
      beyond m (inl e) =
          after (subst (λ x. Later x row) (sym (same_note a (note (slice_index_or rows at d)) e))
          (later-true (note (slice_index_or rows at d)) row (sorted_at comes_before note rows order at k d m l)))
      beyond m (inr e) =
          after (later_trans a (note (slice_index_or rows at d)) row (later-true a (note (slice_index_or rows at d)) e)
          (later-true (note (slice_index_or rows at d)) row (sorted_at comes_before note rows order at k d m l)))

      place : (k ≡ at) ⊎ ((k < at) ⊎ (at < k)) → at < k + 1 → are_two_in_turn a row ≡ true
      place (inl e) m = at_place (or_cases (is_same_note a row) (comes_before a row) (here e))
      place (inr (inl e)) m = absurd (omega (arith, e, m))
      place (inr (inr e)) m = beyond e (or_cases (is_same_note a (note (slice_index_or rows at d))) (comes_before a (note (slice_index_or rows at d))) (behind d (omega (arith, e, l))))

      side : (k + 1 ≡ at) ⊎ ((k + 1 < at) ⊎ (at < k + 1)) → are_two_in_turn a row ≡ true
      side (inl e) = before (later-true row a (front k d e))
      side (inr (inl e)) =
          let one : (at - 1) + 1 ≡ at = omega (arith, e) in
          let last = note (slice_index_or rows (at - 1) d) in
          before (later_trans row last a (later-true row last (sorted_at comes_before note rows order k (at - 1) d (omega (arith, e)) (omega (arith, e, bound))))
          (later-true last a (front (at - 1) d one)))
      side (inr (inr e)) = place (cases_order k at) e

  fit_front : ((k : ℕ) (d : R) → k < length rows → are_two_in_turn a (note (slice_index_or rows k d)) ≡ true) → FrontFits note rows at a
  fit_front all k d e =
      let row = note (slice_index_or rows k d) in
      let l : k < length rows = omega (arith, e, bound) in
      let turn = (and_parts (are_in_turn a row) (are_in_turn row a) (all k d l)).1 in
      later_from row a (later_of_turn row a (id_before-true row.id a.id (point.0 k d (omega arith) (omega (arith, e)))) turn)

  fit_behind : ((k : ℕ) (d : R) → k < length rows → are_two_in_turn a (note (slice_index_or rows k d)) ≡ true) → BehindFits note rows at a
  fit_behind all d l = go (id_before a.id row.id) refl
    where
      row : Note
      row = note (slice_index_or rows at d)

      turn : are_in_turn a row ≡ true
      turn = (and_parts (are_in_turn a row) (are_in_turn row a) (all at d l)).0

      go : (b : Bool) → id_before a.id row.id ≡ b → (is_same_note a row || comes_before a row) ≡ true
      go true e = or_right (is_same_note a row) (comes_before a row) (later_from a row (later_of_turn a row (id_before-true a.id row.id e) turn))
      go false e = or_left (is_same_note a row) (comes_before a row) (same_of_turn a row (id_order.total a.id row.id e (point.1 at d (omega arith) l)) turn)

  pub fitting : (f b : Bool) → IsTrue f ↔ FrontFits note rows at a → IsTrue b ↔ BehindFits note rows at a → (f && b) ≡ list_all (λ r. are_two_in_turn a (note r)) rows
  fitting f b front behind =
      bool_same (f && b) (list_all (λ r. are_two_in_turn a (note r)) rows)
      (λ t. let p = and_parts f b t in all_index (λ r. are_two_in_turn a (note r)) rows (all_fit (front.0 p.0) (behind.0 p.1)))
      (λ t. let all = index_all (λ r. are_two_in_turn a (note r)) rows t in and_from f b (front.1 (fit_front all)) (behind.1 (fit_behind all)))
