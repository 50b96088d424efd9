-- The digits of a length, and the number that they write.
use Rattle.std.proofs.Common.{◌≡◌, ◌<◌, ◌≤◌, ◌+◌, ◌*◌, ◌-◌, ℕ, zero, suc, List, [], ◌∷◌, true, length, take, get_or, ap, ◌∙◌, arith}
use Rattle.std.specs.Char.{digit_value}
use Rattle.std.specs.List.{list_all}
use Rattle.std.specs.Prelude.{nat_le}
use Rattle.std.proofs.lemmas.Bool.{and_parts, leb-true}
use Rattle.std.proofs.lemmas.Bool.Decides.{nat_tests}
use Rattle.std.proofs.lemmas.Int.Digits.{digits_value_more}
use Rattle.std.proofs.lemmas.Str.Parse.{digits_value_short, digits_value-take-le}
use Rattle.mr_model.specs.Texts.{number_in, within}
use Rattle.mr_model.specs.Http.{is_length_value}
use Rattle.mr_base.proofs.Decimals.{own}

-- the parts of the test of a length
pub length_parts : (ds : List ℕ) → is_length_value ds ≡ true → (length ds ≤ 10) × (list_all (λ c. within 48 57 c) ds ≡ true)
length_parts ds h =
    let both = and_parts (within 1 10 (length ds)) (list_all (λ c. within 48 57 c) ds) h in
    let size = and_parts (nat_le 1 (length ds)) (nat_le (length ds) 10) both.0 in
    (leb-true (length ds) 10 size.1, both.1)

pub digit_at : (ds : List ℕ) (i : ℕ) → i < length ds → list_all (λ c. within 48 57 c) ds ≡ true → (48 ≤ get_or ds i 0) × (get_or ds i 0 ≤ 57)
digit_at [] i h t = absurd (omega (arith, h))
digit_at (d ∷ ds) zero h t =
    let digit = (and_parts (within 48 57 d) (list_all (λ c. within 48 57 c) ds) t).0 in
    let both = and_parts (nat_le 48 d) (nat_le d 57) digit in
    (leb-true 48 d both.0, leb-true d 57 both.1)
digit_at (d ∷ ds) (suc i) h t = digit_at ds i (omega arith) (and_parts (within 48 57 d) (list_all (λ c. within 48 57 c) ds) t).1

value_of_digit : (d : ℕ) → 48 ≤ d → d ≤ 57 → digit_value d ≡ d - 48
value_of_digit d low high = grind (arith, nat_tests)

-- a digit more
pub number_more : (ds : List ℕ) (i : ℕ) → i < length ds → list_all (λ c. within 48 57 c) ds ≡ true
    → number_in (take (i + 1) ds) ≡ number_in (take i ds) * 10 + (get_or ds i 0 - 48)
number_more ds i h t =
    let d = digit_at ds i h t in
    digits_value_more 10 ds i h ∙ ap (λ v. number_in (take i ds) * 10 + v) (value_of_digit (get_or ds i 0) d.0 d.1)

-- ten digits write less than this
pub number_bound : (ds : List ℕ) (i : ℕ) → is_length_value ds ≡ true → number_in (take i ds) < 10000000000
number_bound ds i h =
    let parts = length_parts ds h in
    omega (arith, digits_value_short own ds 10 parts.1 parts.0, digits_value-take-le 10 ds i (omega arith))
