-- A body is cut alike where more input follows only behind it.
use Rattle.std.proofs.Common.{◌≡◌, ◌++◌, ◌<◌, ◌≤◌, ◌⊎◌, inl, inr, ℕ, List, [], Bool, true, false, length, take, refl, sym, ap, ◌∙◌, arith, append-nil, length-append}
use Rattle.std.proofs.lemmas.List.{take-append-le}
use Rattle.std.specs.Prelude.{nat_lt}
use Rattle.std.proofs.lemmas.Bool.{ltb-true, ltb-false}

pub cases_bool : (b : Bool) → (b ≡ true) ⊎ (b ≡ false)
cases_bool true = inl refl
cases_bool false = inr refl

not_below : (m n : ℕ) → n ≤ m → nat_lt m n ≡ false
not_below m n h = grind arith

-- whether it ends early
pub short_same : (n : ℕ) (rest ys : List ℕ) → (length rest < n → ys ≡ []) → nat_lt (length (rest ++ ys)) n ≡ nat_lt (length rest) n
short_same n rest ys ends = elim (cases_bool (nat_lt (length rest) n)) [
  | inl short ↦
      ap (λ l. nat_lt (length l) n) (ap (λ l. rest ++ l) (ends (ltb-true (length rest) n short)) ∙ append-nil rest)
  | inr long ↦
      let within : n ≤ length rest = ltb-false (length rest) n long in
      not_below (length (rest ++ ys)) n (omega (arith, within, length-append rest ys)) ∙ sym long
]

-- what of it is there
pub take_same : (n : ℕ) (rest ys : List ℕ) → (length rest < n → ys ≡ []) → take n (rest ++ ys) ≡ take n rest
take_same n rest ys ends = elim (cases_bool (nat_lt (length rest) n)) [
  | inl short ↦ ap (λ l. take n l) (ap (λ l. rest ++ l) (ends (ltb-true (length rest) n short)) ∙ append-nil rest)
  | inr long ↦ take-append-le n rest ys (ltb-false (length rest) n long)
]
