-- Lists that have each member once, and the same ones, are permutations of each other.
use Rattle.std.proofs.Common.{◌≡◌, refl, sym, ap, subst, zero, suc, ◌+◌, Bool, false, List, [], ◌∷◌, ◌++◌, ◌⊎◌, inl, inr, arith, slice_index_or}
use Rattle.std.specs.List.{AllByRecursion}
use Rattle.std.specs.List.Sorted.{IsPermutation, IsSortedBy}
use Rattle.std.proofs.lemmas.List.Sorted.{IsPermutation-refl, IsPermutation-sym, IsPermutation-cons, IsPermutation-trans, IsPermutation-middle}
use Rattle.mr_model.specs.Dropped.{Has}
use Rattle.mr_model.proofs.Members.{Sorted, all_has, has_all, has_right}

-- no two of them are the same
abbrev pub AreApart : {X : Type 0} → List X → Type 0
AreApart xs = Sorted (λ x y. x ≡ y → ⊥) xs

pub apart_from : {X : Type 0} (lt : X → X → Type 0) → ((x : X) → lt x x → ⊥) → (xs : List X) → Sorted lt xs → AreApart xs
apart_from lt never [] s = tt
apart_from lt never (x ∷ xs) s =
    (has_all (λ y. x ≡ y → ⊥) xs (λ y h e. never x (subst (lt x) (sym e) (all_has (lt x) y xs s.0 h))), apart_from lt never xs s.1)

-- ---- the list around one of its members

parts : {X : Type 0} (x : X) (ys : List X) → Has x ys → (us : List X) × (vs : List X) × (ys ≡ us ++ x ∷ vs)
parts x [] h = absurd h
parts x (y ∷ ys) (inl e) = ([], ys, ap (λ z. z ∷ ys) (sym e))
parts x (y ∷ ys) (inr h) = let (us, vs, is) = parts x ys h in (y ∷ us, vs, ap (λ zs. y ∷ zs) is)

has_around : {X : Type 0} (y x : X) (us vs : List X) → Has y (us ++ vs) → Has y (us ++ x ∷ vs)
has_around y x [] vs h = inr h
has_around y x (u ∷ us) vs (inl e) = inl e
has_around y x (u ∷ us) vs (inr h) = inr (has_around y x us vs h)

around_has : {X : Type 0} (y x : X) (us vs : List X) → Has y (us ++ x ∷ vs) → (y ≡ x) ⊎ Has y (us ++ vs)
around_has y x [] vs h = h
around_has y x (u ∷ us) vs (inl e) = inr (inl e)
around_has {X} y x (u ∷ us) vs (inr h) = go (around_has y x us vs h)
  where
    go : (y ≡ x) ⊎ Has y (us ++ vs) → (y ≡ x) ⊎ Has y (u ∷ us ++ vs)
    go (inl e) = inl e
    go (inr g) = inr (inr g)

apart_around : {X : Type 0} (x : X) (us vs : List X) → AreApart (us ++ x ∷ vs) → AreApart (us ++ vs)
apart_around x [] vs s = s.1
apart_around x (u ∷ us) vs s =
    (has_all (λ y. u ≡ y → ⊥) (us ++ vs) (λ y h. all_has (λ y. u ≡ y → ⊥) y (us ++ x ∷ vs) s.0 (has_around y x us vs h)), apart_around x us vs s.1)

once : {X : Type 0} (x : X) (us vs : List X) → AreApart (us ++ x ∷ vs) → Has x (us ++ vs) → ⊥
once x [] vs s h = all_has (λ y. x ≡ y → ⊥) x vs s.0 h refl
once x (u ∷ us) vs s (inl e) = all_has (λ y. u ≡ y → ⊥) x (us ++ x ∷ vs) s.0 (has_right x us (x ∷ vs) (inl refl)) (sym e)
once x (u ∷ us) vs s (inr h) = once x us vs s.1 h

-- ---- permutations

other : {X : Type 0} (x z : X) (xs us vs : List X) → AllByRecursion (λ y. x ≡ y → ⊥) xs → Has z xs → (z ≡ x) ⊎ Has z (us ++ vs) → Has z (us ++ vs)
other x z xs us vs s h (inl e) = absurd (all_has (λ y. x ≡ y → ⊥) z xs s h (sym e))
other x z xs us vs s h (inr g) = g

left : {X : Type 0} (x z : X) (xs us vs : List X) → AreApart (us ++ x ∷ vs) → Has z (us ++ vs) → Has z (x ∷ xs) → Has z xs
left x z xs us vs s h (inl e) = absurd (once x us vs s (subst (λ w. Has w (us ++ vs)) e h))
left x z xs us vs s h (inr g) = g

pub permuted : {X : Type 0} (xs ys : List X) → AreApart xs → AreApart ys → ((z : X) → Has z xs → Has z ys) → ((z : X) → Has z ys → Has z xs) → IsPermutation xs ys
permuted [] [] s t f g = IsPermutation-refl []
permuted [] (y ∷ ys) s t f g = absurd (g y (inl refl))
permuted (x ∷ xs) ys s t f g =
    let (us, vs, is) = parts x ys (f x (inl refl)) in
    let once = subst AreApart is t in
    subst (IsPermutation (x ∷ xs)) (sym is)
    (IsPermutation-trans (x ∷ xs) (x ∷ (us ++ vs)) (us ++ x ∷ vs)
    (IsPermutation-cons x xs (us ++ vs) (permuted xs (us ++ vs) s.1 (apart_around x us vs once) (λ z h. other x z xs us vs s.0 h (around_has z x us vs (subst (Has z) is (f z (inr h)))))
    (λ z h. left x z xs us vs once h (g z (subst (Has z) (sym is) (has_around z x us vs h))))))
    (IsPermutation-sym (us ++ x ∷ vs) (x ∷ (us ++ vs)) (IsPermutation-middle us x vs)))

-- ---- rows that rise

pub sorted_by : {X : Type 0} (lt : X → X → Bool) (xs : List X) → Sorted (λ x y. lt y x ≡ false) xs → IsSortedBy lt xs
sorted_by lt [] s k d z l = absurd (omega (arith, l))
sorted_by lt (x ∷ []) s k d z l = absurd (omega (arith, l))
sorted_by lt (x ∷ y ∷ ys) s zero d z l = s.0.0
sorted_by lt (x ∷ y ∷ ys) s (suc k) d z l =
    let next : suc k + 1 ≡ suc (k + 1) = omega arith in
    subst (λ n. lt (slice_index_or (x ∷ y ∷ ys) n d) (slice_index_or (y ∷ ys) k d) ≡ false) (sym next) (sorted_by lt (y ∷ ys) s.1 k d (omega arith) (omega (arith, l)))
