-- A text is cut at the first place of a byte.
use Rattle.std.proofs.Common.{◌≡◌, refl, sym, ap, ◌∙◌, ℕ, suc, ◌+◌, ◌<◌, ◌≤◌, Bool, true, false, not, cond, eqb, ltb, List}
use Rattle.std.proofs.Common.{[], ◌∷◌, length, take, drop, arith, Option, Some, None, lt-ltb, ltb-true, ltb-false, Bor}
use Rattle.std.proofs.lemmas.Bool.{le-ltb}
use Rattle.std.specs.Prelude.{option_map, MatchOption}
use Rattle.std.specs.List.{before_first, after_first, position_or_len}
use Rattle.mr_model.specs.Texts.{Text}
use Rattle.mr_wire.specs.Words.{cut}

-- the first place of the byte
abbrev pub place : ℕ → Text → ℕ
place c xs = position_or_len (λ b. eqb b c) xs

abbrev pub cut_at : ℕ → Text → Option (Text × Text)
cut_at n xs = cond (ltb n (length xs)) (Some (take n xs, drop (n + 1) xs)) None

cut_inside : (n : ℕ) (xs : Text) → n < length xs → cut_at n xs ≡ Some (take n xs, drop (n + 1) xs)
cut_inside n xs h = ap (λ b. cond b (Some (take n xs, drop (n + 1) xs)) None) (lt-ltb n (length xs) h)

cut_outside : (n : ℕ) (xs : Text) → length xs ≤ n → cut_at n xs ≡ None
cut_outside n xs h = ap (λ b. cond b (Some (take n xs, drop (n + 1) xs)) None) (le-ltb n (length xs) h)

further : (x n : ℕ) (xs : Text) → option_map (λ (p : Text × Text). (x ∷ p.0, p.1)) (cut_at n xs) ≡ cut_at (suc n) (x ∷ xs)
further x n xs = go (ltb n (length xs)) refl
  where
    go : (b : Bool) → ltb n (length xs) ≡ b → option_map (λ (p : Text × Text). (x ∷ p.0, p.1)) (cond b (Some (take n xs, drop (n + 1) xs)) None) ≡ cut_at (suc n) (x ∷ xs)
    go true e =
        let low : n < length xs = ltb-true n (length xs) e in
        let next : n + 1 ≡ suc n = omega arith in
        let after : suc n + 1 ≡ suc (suc n) = omega arith in
        ap (λ m. Some (x ∷ take n xs, drop m xs)) next ∙ sym (cut_inside (suc n) (x ∷ xs) (omega (arith, low)) ∙ ap (λ m. Some (x ∷ take n xs, drop m (x ∷ xs))) after)
    go false e = sym (cut_outside (suc n) (x ∷ xs) (omega (arith, ltb-false n (length xs) e)))

pub cut_by_place : (c : ℕ) (xs : Text) → cut c xs ≡ cut_at (place c xs) xs
cut_by_place c [] = refl
cut_by_place c (x ∷ xs) = go (eqb x c) (cut_by_place c xs)
  where
    go : (b : Bool) → cut c xs ≡ cut_at (place c xs) xs → cond b (Some ([], xs)) (option_map (λ (p : Text × Text). (x ∷ p.0, p.1)) (cut c xs)) ≡ cut_at (cond (not b) (1 + place c xs) 0) (x ∷ xs)
    go true ih = sym (cut_inside 0 (x ∷ xs) (omega arith))
    go false ih = ap (option_map (λ (p : Text × Text). (x ∷ p.0, p.1))) ih ∙ further x (place c xs) xs
        ∙ (let next : suc (place c xs) ≡ 1 + place c xs = omega arith in ap (λ m. cut_at m (x ∷ xs)) next)

-- what `split_once` gives
pub cut_once : (c : ℕ) (xs : Text) (r : Option (Bor (List ℕ) × Bor (List ℕ)))
    → MatchOption r (place c xs ≡ length xs) (λ x. (x.0.now ≡ before_first (λ b. eqb b c) xs) × (x.1.now ≡ after_first (λ b. eqb b c) xs) × (place c xs < length xs))
    → option_map (λ x. (x.0.now, x.1.now)) r ≡ cut c xs
cut_once c xs None h = sym (cut_by_place c xs ∙ cut_outside (place c xs) xs (omega (arith, h)))
cut_once c xs (Some x) h = (let a = h.0 in let b = h.1 in λ i. Some (a i, b i)) ∙ sym (cut_by_place c xs ∙ cut_inside (place c xs) xs h.2)

-- what a search for the byte gives
pub cut_none : (c : ℕ) (xs : Text) → cond (ltb (place c xs) (length xs)) (Some (place c xs)) None ≡ None → cut c xs ≡ None
cut_none c xs h = cut_by_place c xs ∙ go (ltb (place c xs) (length xs)) refl h
  where
    go : (b : Bool) → ltb (place c xs) (length xs) ≡ b → ◌≡◌ {A = Option ℕ} (cond b (Some (place c xs)) None) None → cut_at (place c xs) xs ≡ None
    go true e h = absurd (let f : ◌≡◌ {A = Option ℕ} (Some (place c xs)) None = h in cc)
    go false e h = cut_outside (place c xs) xs (ltb-false (place c xs) (length xs) e)

pub cut_some : (c n : ℕ) (xs : Text) → cond (ltb (place c xs) (length xs)) (Some (place c xs)) None ≡ Some n → (n < length xs) × (cut c xs ≡ Some (take n xs, drop (n + 1) xs))
cut_some c n xs h = go (ltb (place c xs) (length xs)) refl h
  where
    go : (b : Bool) → ltb (place c xs) (length xs) ≡ b → ◌≡◌ {A = Option ℕ} (cond b (Some (place c xs)) None) (Some n) → (n < length xs) × (cut c xs ≡ Some (take n xs, drop (n + 1) xs))
    go true e h =
        let is : place c xs ≡ n = cc in
        let low : place c xs < length xs = ltb-true (place c xs) (length xs) e in
        (omega (arith, is, low), cut_by_place c xs ∙ ap (λ m. cut_at m xs) is ∙ cut_inside n xs (omega (arith, is, low)))
    go false e h = absurd (let f : ◌≡◌ {A = Option ℕ} None (Some n) = h in cc)
