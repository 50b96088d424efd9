-- The texts of batches are numbered from 1 on.
use Rattle.std.proofs.Common.{◌≡◌, refl, sym, ap, ◌∙◌, ℕ, zero, suc, ◌-◌, ◌<◌, ◌≤◌, List, [], ◌∷◌, length, map, get_or, Some, not-suc-le-zero, le_of_suc-le-suc, arith}
use Rattle.std.specs.List.{slice_get}
use Rattle.mr_model.specs.Texts.{Text}
use Rattle.mr_model.specs.World.{batch_numbered}

at_place : {A : Type 0} (f : A → Text) (xs : List A) (k : ℕ) (x : A) → k < length xs → x ≡ get_or xs k x → slice_get (map f xs) k ≡ Some (f x)
at_place f [] k x low e = absurd (not-suc-le-zero low)
at_place f (y ∷ ys) zero x low e = ap (λ z. Some (f z)) (sym e)
at_place f (y ∷ ys) (suc k) x low e = at_place f ys k x (le_of_suc-le-suc low) e

-- the text of a number that some batch has
pub numbered_at : {A : Type 0} (f : A → Text) (xs : List A) (n : ℕ) (x : A) → (n ≡ 0 → ⊥) → n ≤ length xs → x ≡ get_or xs (n - 1) x → batch_numbered (map f xs) n ≡ Some (f x)
numbered_at f xs zero x some low e = absurd (some refl)
numbered_at f xs (suc k) x some low e = let one : suc k - 1 ≡ k = omega arith in at_place f xs k x low (e ∙ ap (λ i. get_or xs i x) one)
