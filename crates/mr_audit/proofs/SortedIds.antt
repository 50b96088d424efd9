-- What a binary search for an id finds in rows that stand in the order of their ids.
use Rattle.std.proofs.Common.{◌≡◌, refl, sym, ap, ◌∙◌, subst, ℕ, zero, suc, ◌<◌, ◌≤◌, Bool, true, false, not, List, [], ◌∷◌, length, map, inl, inr, arith, slice_index_or, ◌⊎◌}
use Rattle.std.proofs.lemmas.Bool.{true≢false, cases_order}
use Rattle.std.proofs.lemmas.Bool.Decides.{nat_tests}
use Rattle.std.specs.List.Sorted.{IsPartitionedBy, IsPartitionPoint}
use Rattle.mr_model.specs.Dropped.{Has}
use Rattle.mr_model.specs.Writes.{Id, same_id}
use Rattle.mr_model.specs.Replica.{is_among}
use Rattle.mr_model.proofs.Members.{all_has, has_all, has_among, has_map, not_among, map_has, same_id-true}
use Rattle.mr_tables.specs.Change.{id_before}
use Rattle.mr_model.specs.Changes.{IdBefore, RiseById}
use Rattle.mr_agree.specs.Agreeing.{next_id}
use Rattle.mr_tables.specs.TableOrders.{InOrder, id_order, id_before-true, id_before_from}

-- ---- rows at places

pub index_has : {R : Type 0} (rows : List R) (k : ℕ) (d : R) → k < length rows → Has (slice_index_or rows k d) rows
index_has [] k d l = absurd (omega (arith, l))
index_has (x ∷ rows) zero d l = inl refl
index_has (x ∷ rows) (suc k) d l = inr (index_has rows k d (omega (arith, l)))

has_index : {R : Type 0} (row : R) (rows : List R) → Has row rows → (k : ℕ) × (k < length rows) × (row ≡ slice_index_or rows k row)
has_index row [] h = absurd h
has_index row (x ∷ rows) (inl e) = (0, omega arith, e)
has_index row (x ∷ rows) (inr h) = let (k, l, e) = has_index row rows h in (suc k, omega (arith, l), e)

any_default : {R : Type 0} (rows : List R) (k : ℕ) (d e : R) → k < length rows → slice_index_or rows k d ≡ slice_index_or rows k e
any_default [] k d e l = absurd (omega (arith, l))
any_default (x ∷ rows) zero d e l = refl
any_default (x ∷ rows) (suc k) d e l = any_default rows k d e (omega (arith, l))

-- a test of the row at a place, whatever stands for one that is not there
pub at_any : {R : Type 0} (p : R → Bool) (rows : List R) (j k : ℕ) (d e : R) → j ≡ k → k < length rows → p (slice_index_or rows j d) ≡ p (slice_index_or rows k e)
at_any p rows j k d e same l = ap (λ i. p (slice_index_or rows i d)) same ∙ ap p (any_default rows k d e l)

-- ---- the search

module _ {R : Type 0} (key : R → Id) (id : Id) where
  -- a row with the id is there
  pub keyed : (row : R) (rows : List R) → Has row rows → key row ≡ id → is_among id (map key rows) ≡ true
  keyed row rows h e = has_among id (map key rows) (subst (λ i. Has i (map key rows)) e (has_map key row rows h))

  later : (rows : List R) → InOrder id_before key rows → (j k : ℕ) (d : R) → j < k → k < length rows → id_before (key (slice_index_or rows j d)) (key (slice_index_or rows k d)) ≡ true
  later [] s j k d l m = absurd (omega (arith, m))
  later (x ∷ rows) s j zero d l m = absurd (omega (arith, l))
  later (x ∷ rows) s zero (suc k) d l m = all_has (λ y. id_before (key x) (key y) ≡ true) (slice_index_or rows k d) rows s.0 (index_has rows k d (omega (arith, m)))
  later (x ∷ rows) s (suc j) (suc k) d l m = later rows s.1 j k d (omega (arith, l)) (omega (arith, m))

  pub parted : (rows : List R) → InOrder id_before key rows → IsPartitionedBy (λ r. id_before (key r) id) rows
  parted [] s i j d l m is = absurd (omega (arith, m))
  parted (x ∷ rows) s zero zero d l m is = is
  parted (x ∷ rows) s zero (suc j) d l m is =
      id_order.transitive (key x) (key (slice_index_or rows j d)) id (later (x ∷ rows) s zero (suc j) d (omega arith) m) is
  parted (x ∷ rows) s (suc i) zero d l m is = absurd (omega (arith, l))
  parted (x ∷ rows) s (suc i) (suc j) d l m is = parted rows s.1 i j d (omega (arith, l)) (omega (arith, m)) is

  module _ (rows : List R) (at : ℕ) (order : InOrder id_before key rows) (point : IsPartitionPoint (λ r. id_before (key r) id ≡ true) (λ r. id_before (key r) id ≡ false) rows at) where
    -- rows in front of the place have other ids
    front : (k : ℕ) (d : R) → k < length rows → k < at → key (slice_index_or rows k d) ≡ id → ⊥
    front k d l before e = id_order.irreflexive id (subst (λ i. id_before i id ≡ true) e (point.0 k d (omega arith) before))

    -- and so have those behind it
    behind : (k : ℕ) (d : R) → k < length rows → at < k → key (slice_index_or rows k d) ≡ id → ⊥
    behind k d l after e =
        true≢false (sym (subst (λ i. id_before (key (slice_index_or rows at d)) i ≡ true) e (later rows order at k d after l)) ∙ point.1 at d (omega arith) (omega arith))

    none : ((k : ℕ) (d : R) → k < length rows → key (slice_index_or rows k d) ≡ id → ⊥) → is_among id (map key rows) ≡ false
    none never =
        not_among id (map key rows)
        (λ h. let (row, g, e) = map_has key id rows h in
        let (k, l, same) = has_index row rows g in
        never k row l (sym (e ∙ ap key same)))

    -- all rows are in front of it
    pub absent : length rows ≤ at → is_among id (map key rows) ≡ false
    absent l = none (λ k d m. front k d m (omega (arith, l, m)))

    -- the row at the place has another id
    pub other_there : (d : R) → at < length rows → same_id (key (slice_index_or rows at d)) id ≡ false → is_among id (map key rows) ≡ false
    other_there d m misses = none each
      where
        here : (e : R) → key (slice_index_or rows at e) ≡ id → ⊥
        here e same =
            true≢false (sym (Rattle.mr_model.proofs.Members.same_id_from (key (slice_index_or rows at d)) id (ap key (any_default rows at d e m) ∙ same)) ∙ misses)

        each : (k : ℕ) (e : R) → k < length rows → key (slice_index_or rows k e) ≡ id → ⊥
        each k e l same = side (cases_order k at)
          where
            side : (k ≡ at) ⊎ ((k < at) ⊎ (at < k)) → ⊥
            side (inl p) = here e (ap (λ j. key (slice_index_or rows j e)) (sym p) ∙ same)
            side (inr (inl before)) = front k e l before same
            side (inr (inr after)) = behind k e l after same

    -- so whether the row at the place has the id tells whether one has it
    pub there_alike : (d : R) → at < length rows → same_id (key (slice_index_or rows at d)) id ≡ is_among id (map key rows)
    there_alike d l = go (same_id (key (slice_index_or rows at d)) id) refl
      where
        go : (b : Bool) → same_id (key (slice_index_or rows at d)) id ≡ b → same_id (key (slice_index_or rows at d)) id ≡ is_among id (map key rows)
        go true e = e ∙ sym (keyed (slice_index_or rows at d) rows (index_has rows at d l) (same_id-true (key (slice_index_or rows at d)) id e))
        go false e = e ∙ sym (other_there d l e)

-- an id is before the next one of a server unless it is behind this one
pub before_next : (i id : Id) → id_before i (next_id id) ≡ not (id_before id i)
before_next i id = grind (arith, nat_tests)

-- so rows that are not behind an id stand in front of those that are, and the place between them is one for the next id
module _ {R : Type 0} (key : R → Id) (id : Id) (rows : List R) where
  pub parted_behind : InOrder id_before key rows → IsPartitionedBy (λ r. not (id_before id (key r))) rows
  parted_behind order i j d l m is =
      sym (before_next (key (slice_index_or rows i d)) id) ∙ parted key (next_id id) rows order i j d l m (before_next (key (slice_index_or rows j d)) id ∙ is)

  pub next_point : (at : ℕ) → IsPartitionPoint (λ r. not (id_before id (key r)) ≡ true) (λ r. not (id_before id (key r)) ≡ false) rows at
      → IsPartitionPoint (λ r. id_before (key r) (next_id id) ≡ true) (λ r. id_before (key r) (next_id id) ≡ false) rows at
  next_point at point = (
    λ k d l m. before_next (key (slice_index_or rows k d)) id ∙ point.0 k d l m,
    λ k d l m. before_next (key (slice_index_or rows k d)) id ∙ point.1 k d l m,
  )

-- the ids of such rows rise
pub rising_ids : {R : Type 0} (key : R → Id) (rows : List R) → InOrder id_before key rows → RiseById (map key rows)
rising_ids key [] s = tt
rising_ids key (x ∷ rows) s = (
  has_all (IdBefore (key x)) (map key rows)
      (λ i h. let (y, g, e) = map_has key i rows h in subst (IdBefore (key x)) (sym e) (id_before-true (key x) (key y) (all_has (λ u. id_before (key x) (key u) ≡ true) y rows s.0 g))),
  rising_ids key rows s.1,
)

pub ids_rising : {R : Type 0} (key : R → Id) (rows : List R) → RiseById (map key rows) → InOrder id_before key rows
ids_rising key [] s = tt
ids_rising key (x ∷ rows) s = (
  has_all (λ y. id_before (key x) (key y) ≡ true) rows (λ y h. id_before_from (key x) (key y) (all_has (IdBefore (key x)) (key y) (map key rows) s.0 (has_map key y rows h))),
  ids_rising key rows s.1,
)
