-- What a binary search finds among elements whose keys rise: where it finds none of a key, no test that asks for this key is passed,
-- and where it finds one, this one decides.
use Rattle.std.proofs.Common.{◌≡◌, refl, sym, ap, ◌∙◌, ℕ, zero, suc, ◌+◌, ◌<◌, ◌≤◌, Bool, true, false, ◌||◌, List, [], ◌∷◌, length, get_or, ◌⊎◌, inl, inr, arith}
use Rattle.std.proofs.lemmas.Bool.{true≢false, false_from_ne_true, or_from, cases_lt}
use Rattle.std.proofs.lemmas.List.Folds.{list_any_none}
use Rattle.std.proofs.lemmas.List.Sorted.{searchable_from_sorted}
use Rattle.std.specs.List.{list_any, AllByRecursion, AllAdjacentBelow}
use Rattle.std.specs.List.Sorted.{IsPartitionPoint, IsNonDecreasingBy, IsSortedBy}
use Rattle.std.specs.Cmp.{IsTotalOrder}
use Rattle.std.specs.Ordering.{is_lt, is_eq, ordering_index, ordering_reverse}
use Rattle.std.specs.declared.cmp.Ordering.{Ordering}
use Rattle.std.specs.declared.cmp.Ordering.TheVariants.{Less, Equal, Greater}
use Rattle.mr_audit.proofs.Apart.{Follow, follow_all}

-- the keys rise from element to element
abbrev pub KeysRise : {X K : Type 0} → (K → K → Ordering) → (X → K) → List X → Type 0
KeysRise R key xs = AllAdjacentBelow (λ x y. R (key x) (key y) ≡ Less) xs (length xs)

none_passes : {X : Type 0} (P : X → Type 0) (p : X → Bool) → ((y : X) → P y → p y ≡ false) → (xs : List X) → AllByRecursion P xs → list_any p xs ≡ false
none_passes P p f [] a = refl
none_passes P p f (x ∷ xs) a = or_from (p x) (list_any p xs) (f x a.0) (none_passes P p f xs a.1)

or_none : (b c : Bool) → c ≡ false → (b || c) ≡ b
or_none true c e = refl
or_none false c e = e

apart_keys : {K : Type 0} {R : K → K → Ordering} (o : IsTotalOrder R) (k x y : K) → R x k ≡ Equal → R y k ≡ Equal → R x y ≡ Less → ⊥
apart_keys {R = R} o k x y e f l =
    let same : R x y ≡ Equal = o.congr x k y e ∙ o.antisymm k y ∙ ap ordering_reverse f in
    true≢false (ap is_lt (sym l ∙ same))

at_follow : {X : Type 0} (P : X → Type 0) (xs : List X) (i : ℕ) (d : X) → i < length xs → AllByRecursion P xs → P (get_or xs i d)
at_follow P [] i d low a = absurd (omega (arith, low))
at_follow P (x ∷ xs) zero d low a = a.0
at_follow P (x ∷ xs) (suc i) d low a = at_follow P xs i d (omega (arith, low)) a.1

one_decides : {X K : Type 0} {R : K → K → Ordering} (o : IsTotalOrder R) (key : X → K) (k : K) (p : X → Bool) → ((y : X) → p y ≡ true → R (key y) k ≡ Equal)
    → (xs : List X) → Follow (λ x y. R (key x) (key y) ≡ Less) xs → (i : ℕ) (d : X) → i < length xs → R (key (get_or xs i d)) k ≡ Equal → list_any p xs ≡ p (get_or xs i d)
one_decides o key k p asks [] f i d low e = absurd (omega (arith, low))
one_decides {R = R} o key k p asks (x ∷ xs) f zero d low e =
    or_none (p x) (list_any p xs) (none_passes (λ y. R (key x) (key y) ≡ Less) p (λ y l. false_from_ne_true (p y) (λ t. apart_keys o k (key x) (key y) e (asks y t) l)) xs f.0)
one_decides {R = R} o key k p asks (x ∷ xs) f (suc i) d low e =
    let later : i < length xs = omega (arith, low) in
    let first : p x ≡ false = false_from_ne_true (p x) (λ t. apart_keys o k (key x) (key (get_or xs i d)) (asks x t) e (at_follow (λ y. R (key x) (key y) ≡ Less) xs i d later f.0)) in
    ap (λ b. b || list_any p xs) first ∙ one_decides o key k p asks xs f.1 i d later e

-- one of this key is found
pub found_one : {X K : Type 0} {R : K → K → Ordering} (o : IsTotalOrder R) (key : X → K) (k : K) (p : X → Bool) → ((y : X) → p y ≡ true → R (key y) k ≡ Equal)
    → (xs : List X) → KeysRise R key xs → (i : ℕ) (d : X) → i < length xs → R (key (get_or xs i d)) k ≡ Equal → list_any p xs ≡ p (get_or xs i d)
found_one {R = R} o key k p asks xs rise i d low e =
    one_decides o key k p asks xs
    (follow_all (λ x y. R (key x) (key y) ≡ Less) (λ x. Unit {0}) (λ x y z good f g. o.trans (key x) (key y) (key z) f g) xs (λ j d' l. tt) rise) i d low e

-- none of this key is found
pub found_none : {X K : Type 0} {R : K → K → Ordering} (o : IsTotalOrder R) (key : X → K) (k : K) (p : X → Bool)
    → ((y : X) → p y ≡ true → R (key y) k ≡ Equal) → (xs : List X) → KeysRise R key xs → (i : ℕ)
    → (IsNonDecreasingBy (λ y. ordering_index (R (key y) k)) xs → IsPartitionPoint (λ y. R (key y) k ≡ Less) (λ y. R (key y) k ≡ Greater) xs i) → list_any p xs ≡ false
found_none {R = R} o key k p asks xs rise i parted =
    list_any_none p xs (λ j d low. false_from_ne_true (p (get_or xs j d)) (λ t. go j d low (asks (get_or xs j d) t) (cases_lt j i)))
  where
    up : IsSortedBy (λ a b. is_lt (R (key a) (key b))) xs
    up j d z low =
        ap is_lt (o.antisymm (key (get_or xs (j + 1) d)) (key (get_or xs j d)) ∙ ap ordering_reverse (rise j d low))

    two : IsPartitionPoint (λ y. R (key y) k ≡ Less) (λ y. R (key y) k ≡ Greater) xs i
    two = parted (searchable_from_sorted o key xs k up)

    go : (j : ℕ) (d : _) → j < length xs → R (key (get_or xs j d)) k ≡ Equal → (j < i) ⊎ (i ≤ j) → ⊥
    go j d low e (inl l) = true≢false (ap is_eq (sym e ∙ two.0 j d (omega arith) l))
    go j d low e (inr l) = true≢false (ap is_eq (sym e ∙ two.1 j d l low))
