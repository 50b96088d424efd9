-- What a test of neighbours says of the keys of a table, and that the tables of a replica pass it.
use Rattle.std.proofs.Common.{◌≡◌, refl, sym, subst, ◌∙◌, ◌↔◌, ◌&&◌, ℕ, zero, suc, ◌+◌, ◌<◌, add-one, Bool, true, false, List, [], ◌∷◌, length, slice_index_or, arith, IsTrue}
use Rattle.std.proofs.lemmas.Bool.{true≢false, and_parts, and_from}
use Rattle.std.specs.List.{AllByRecursion, IsAllAdjacentAnswer}
use Rattle.mr_model.proofs.Members.{all_has, has_all}
use Rattle.mr_tables.specs.Rise.{Rise}
use Rattle.mr_tables.specs.TableOrders.{IsOrder, InOrder}

pub rise_from : {R K : Type 0} (before : K → K → Bool) (key : R → K) (rows : List R) (r : Bool) → IsAllAdjacentAnswer (λ x y b. b ≡ before (key x) (key y)) rows r → IsTrue r ↔ Rise before key rows
rise_from before key rows true m = (λ _ k d l. sym (m k d l), λ _. refl)
rise_from before key [] false m = let (k, l, f) = m in absurd (omega (arith, l))
rise_from before key (row ∷ rows) false m =
    let (k, l, f) = m in
    (λ e. absurd (true≢false (sym e)), λ rise. absurd (true≢false (sym (rise k row l) ∙ sym (f row))))

-- ---- several tests

pub both : {a b : Bool} {A B : Type 0} → IsTrue a ↔ A → IsTrue b ↔ B → IsTrue (a && b) ↔ (A × B)
both {a} {b} f g = (λ t. let p = and_parts a b t in (f.0 p.0, g.0 p.1), λ p. and_from a b (f.1 p.0) (g.1 p.1))

-- ---- the order of a table

-- rows that rise from each to the next are in order
pub rise_in_order : {R K : Type 0} (before : K → K → Bool) (key : R → K) (o : IsOrder K before) (rows : List R)
    → ((k : ℕ) (d : R) → k + 1 < length rows → before (key (slice_index_or rows k d)) (key (slice_index_or rows (k + 1) d)) ≡ true) → InOrder before key rows
rise_in_order before key o [] rise = tt
rise_in_order {R} {K} before key o (x ∷ rows) rise =
    let later = rise_in_order before key o rows
    (λ k d l. subst (λ j. before (key (slice_index_or rows k d)) (key (slice_index_or rows j d)) ≡ true) (sym (add-one k))
    (subst (λ j. before (key (slice_index_or rows k d)) (key (slice_index_or (x ∷ rows) j d)) ≡ true) (add-one (suc k)) (rise (suc k) d (omega (arith, l)))))
    in
    (first rows (rise 0 x) later, later)
  where
    first : (ys : List R) → (0 + 1 < length (x ∷ ys) → before (key x) (key (slice_index_or (x ∷ ys) 1 x)) ≡ true) → InOrder before key ys → AllByRecursion (λ y. before (key x) (key y) ≡ true) ys
    first [] b s = tt
    first (y ∷ ys) b s =
        let l = b (omega arith) in
        (l, has_all (λ z. before (key x) (key z) ≡ true) ys (λ z h. o.transitive (key x) (key y) (key z) l (all_has (λ u. before (key y) (key u) ≡ true) z ys s.0 h)))

-- rows in order rise from each to the next
pub in_order_rise : {R K : Type 0} (before : K → K → Bool) (key : R → K) (rows : List R) → InOrder before key rows → Rise before key rows
in_order_rise before key [] order k d l = absurd (omega (arith, l))
in_order_rise before key (x ∷ []) order k d l = absurd (omega (arith, l))
in_order_rise before key (x ∷ y ∷ rows) order zero d l = order.0.0
in_order_rise {R} before key (x ∷ y ∷ rows) order (suc k) d l =
    subst (λ j. before (key (slice_index_or (y ∷ rows) k d)) (key (slice_index_or (x ∷ y ∷ rows) j d)) ≡ true) (sym (add-one (suc k)))
    (subst (λ j. before (key (slice_index_or (y ∷ rows) k d)) (key (slice_index_or (y ∷ rows) j d)) ≡ true) (add-one k) (in_order_rise before key (y ∷ rows) order.1 k d (omega (arith, l))))
