-- Laws of lists that many files use: what a filter leaves, and where an element stands.
use Rattle.std.proofs.Common.{◌≡◌, refl, sym, ap, ◌∙◌, ℕ, zero, suc, Bool, true, false, cond, List, [], ◌∷◌, map, take, inl, inr, Some}
use Rattle.std.proofs.lemmas.Bool.{and_parts, cond-true, cond-false}
use Rattle.std.specs.List.{filter, list_all, slice_get}
use Rattle.mr_model.specs.Dropped.{Has}

-- what all elements pass, each passes
pub list_all_at : {A : Type 0} (p : A → Bool) (x : A) (xs : List A) → list_all p xs ≡ true → Has x xs → p x ≡ true
list_all_at p x [] e h = absurd h
list_all_at p x (y ∷ ys) e (inl s) = ap p s ∙ (and_parts (p y) (list_all p ys) e).0
list_all_at p x (y ∷ ys) e (inr h) = list_all_at p x ys (and_parts (p y) (list_all p ys) e).1 h

-- an element of a list has a place in it
pub has_place : {A : Type 0} (x : A) (xs : List A) → Has x xs → (i : ℕ) × (slice_get xs i ≡ Some x)
has_place x [] h = absurd h
has_place x (y ∷ ys) (inl e) = (zero, ap Some (sym e))
has_place x (y ∷ ys) (inr h) = let (i, e) = has_place x ys h in (suc i, e)

pub map-take : {A B : Type 0} (f : A → B) (j : ℕ) (xs : List A) → map f (take j xs) ≡ take j (map f xs)
map-take f zero xs = refl
map-take f (suc j) [] = refl
map-take f (suc j) (x ∷ xs) = ap (λ ys. f x ∷ ys) (map-take f j xs)

-- ---- what a filter leaves

-- all, where each passes
pub filter_all : {A : Type 0} (p : A → Bool) (xs : List A) → ((x : A) → Has x xs → p x ≡ true) → filter p xs ≡ xs
filter_all p [] f = refl
filter_all {A} p (x ∷ xs) f = cond-true (p x) (x ∷ filter p xs) (filter p xs) (f x (inl refl)) ∙ ap (λ (ys : List A). x ∷ ys) (filter_all p xs (λ y h. f y (inr h)))

pub filter_true : {A : Type 0} (xs : List A) → filter (λ x. true) xs ≡ xs
filter_true [] = refl
filter_true (x ∷ xs) = ap (λ ys. x ∷ ys) (filter_true xs)

-- nothing, where none passes
pub filter_none : {A : Type 0} (p : A → Bool) (xs : List A) → ((x : A) → Has x xs → p x ≡ false) → filter p xs ≡ []
filter_none p [] f = refl
filter_none p (x ∷ xs) f = cond-false (p x) (x ∷ filter p xs) (filter p xs) (f x (inl refl)) ∙ filter_none p xs (λ y h. f y (inr h))

-- the same, whichever of two tests comes first
pub filter_comm : {A : Type 0} (p q : A → Bool) (xs : List A) → filter p (filter q xs) ≡ filter q (filter p xs)
filter_comm p q [] = refl
filter_comm p q (x ∷ xs) = go (p x) refl (q x) refl (filter_comm p q xs)
  where
    go : (a : Bool) → p x ≡ a → (b : Bool) → q x ≡ b → filter p (filter q xs) ≡ filter q (filter p xs)
        → filter p (cond b (x ∷ filter q xs) (filter q xs)) ≡ filter q (cond a (x ∷ filter p xs) (filter p xs))
    go true e true f ih = cond-true (p x) _ _ e ∙ ap (λ ys. x ∷ ys) ih ∙ sym (cond-true (q x) _ _ f)
    go true e false f ih = ih ∙ sym (cond-false (q x) _ _ f)
    go false e true f ih = cond-false (p x) _ _ e ∙ ih
    go false e false f ih = ih
