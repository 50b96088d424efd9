-- Decimal texts of numbers, by their bytes and by their spelling.
use Rattle.std.proofs.Common.{◌≡◌, refl, sym, ap, ◌∙◌, subst, ℕ, zero, suc, ◌^◌, ◌<◌, ◌≤◌, true, ◌&&◌, leb, length, get_or, Option, Some, None, Result, Ok, Err, IfSome, SomeIff, arith, rules}
use Rattle.std.specs.Char.{is_ascii_digit}
use Rattle.std.specs.Fmt.{decimal}
use Rattle.std.specs.List.{list_all}
use Rattle.std.specs.Result.{result_ok}
use Rattle.std.specs.Str.{bytes_eq}
use Rattle.std.specs.Str.Parse.{digits_value, ParsesUnsigned}
use Rattle.std.proofs.lemmas.Bool.{and_parts, and_from}
use Rattle.std.proofs.lemmas.Bool.Decides.{nat_tests}
use Rattle.std.proofs.lemmas.Str.Parse.{IsNumeralModel, IsDigitsTest, numerals_by_value, parse_digits}
use Rattle.std.proofs.lemmas.Fmt.{decimal-digits_value, digits_decimal, digits_value-decimal, decimal_digit, decimal_nonempty, first_decimal}
use Rattle.mr_model.specs.Texts.{Text, within, number_in, only_if}
use Rattle.mr_model.proofs.BatchesReadBack.{only_if_some}
use Rattle.mr_model.proofs.MembersAlike.{bool_same}
use Rattle.mr_base.proofs.Readers.{bytes_same, same_bytes, only_if_true}
use Rattle.mr_base.specs.Readings.{is_number, number_by_digits, number_from_to}

tests_digits : IsDigitsTest (λ ds. list_all is_ascii_digit ds ≡ true)
tests_digits = search rules

-- the standard library's words for digits and their value agree
pub own : IsNumeralModel (λ ds. list_all is_ascii_digit ds ≡ true) (digits_value 10)
own = numerals_by_value _ tests_digits

-- what the test of a number's text tells
digits : (text : Text) → is_number text ≡ true → list_all is_ascii_digit text ≡ true
digits text h = grind (arith, nat_tests)

nonempty : (text : Text) → is_number text ≡ true → 0 < length text
nonempty text h = grind (arith, nat_tests)

zero_alone : (text : Text) → is_number text ≡ true → get_or text 0 0 ≡ 48 → length text ≡ 1
zero_alone text h e = grind (arith, nat_tests)

-- what the standard library reads of the text of a number
pub parsed : {E : Type 0} (text : Text) (r : Result ℕ E) → ParsesUnsigned 64 10 text r → is_number text ≡ true → SomeIff (result_ok r) (number_in text < 2 ^ 64) (number_in text)
parsed {E} text (Ok n) h number = let k = parse_digits own {E = E} 64 text (Ok n) h (digits text number) in (k.0.1, k.1)
parsed {E} text (Err e) h number = λ small. parse_digits own {E = E} 64 text (Err e) h (digits text number) (nonempty text number, small)

-- the decimal text of a number is the text of a number
is_number-decimal : (n : ℕ) → n < 2 ^ 64 → is_number (decimal n) ≡ true
is_number-decimal zero small = rw (decimal_digit 0 (omega arith)) refl
is_number-decimal (suc n) small =
    let d = digits_decimal own (suc n) small in
    let l = decimal_nonempty (suc n) small in
    let f = first_decimal (suc n) (omega arith) small in
    grind (arith, nat_tests, d, l, f)

-- a text of digits is the decimal text of its number
decimal-is_number : (text : Text) → is_number text ≡ true → number_in text < 2 ^ 64 → decimal (number_in text) ≡ text
decimal-is_number text h small = decimal-digits_value own text (digits text h) (nonempty text h) (zero_alone text h) small

-- below a bound that fits, a number fits
pub within-below : (low high n : ℕ) → within low high n ≡ true → high < 2 ^ 64 → n < 2 ^ 64
within-below low high n h fits = grind (arith, nat_tests)

-- by the bytes as by the spelling
pub number_from_to_is : (low high : ℕ) (text : Text) → high < 2 ^ 64 → number_by_digits low high text ≡ number_from_to low high text
number_from_to_is low high text fits = ap (λ b. only_if b n) (bool_same (is_number text && within low high n) (within low high n && bytes_eq (decimal n) text) there back)
  where
    n : ℕ
    n = number_in text

    there : (is_number text && within low high n) ≡ true → (within low high n && bytes_eq (decimal n) text) ≡ true
    there e =
        let p = and_parts (is_number text) (within low high n) e in
        and_from _ _ p.1 (same_bytes _ _ (decimal-is_number text p.0 (within-below low high n p.1 fits)))

    back : (within low high n && bytes_eq (decimal n) text) ≡ true → (is_number text && within low high n) ≡ true
    back e =
        let p = and_parts (within low high n) (bytes_eq (decimal n) text) e in
        let small = within-below low high n p.0 fits in
        let spelled : decimal n ≡ text = bytes_same (decimal n) text p.1 in
        and_from _ _ (subst (λ t. is_number t ≡ true) spelled (is_number-decimal n small)) p.0

-- the text that a number is read from is the text of that number
pub decimal-number_from_to : (low high n : ℕ) (text : Text) → number_from_to low high text ≡ Some n → (text ≡ decimal n) × (low ≤ n) × (n ≤ high)
decimal-number_from_to low high n text e =
    let k = only_if_some (within low high (number_in text) && bytes_eq (decimal (number_in text)) text) (number_in text) n e in
    let p = and_parts (within low high (number_in text)) (bytes_eq (decimal (number_in text)) text) k.0 in
    let q = and_parts (leb low (number_in text)) (leb (number_in text) high) p.0 in
    (sym (bytes_same _ _ p.1) ∙ ap decimal k.1, subst (λ m. low ≤ m) k.1 (at_least q.0), subst (λ m. m ≤ high) k.1 (at_most q.1))
  where
    at_least : leb low (number_in text) ≡ true → low ≤ number_in text
    at_least h = grind (arith, nat_tests)

    at_most : leb (number_in text) high ≡ true → number_in text ≤ high
    at_most h = grind (arith, nat_tests)

-- what is read from the text of a number is that number
pub number_from_to-decimal : (low high n : ℕ) → low ≤ n → n ≤ high → high < 2 ^ 64 → number_from_to low high (decimal n) ≡ Some n
number_from_to-decimal low high n above below fits =
    let v : number_in (decimal n) ≡ n = digits_value-decimal own n (omega arith) in
    let test : within low high n ≡ true = grind (arith, nat_tests) in
    ap (λ m. only_if (within low high m && bytes_eq (decimal m) (decimal n)) m) v
    ∙ only_if_true (within low high n && bytes_eq (decimal n) (decimal n)) n (and_from _ _ test (same_bytes (decimal n) (decimal n) refl))

-- the same as facts about a reader's answer
pub written : (low high : ℕ) (text : Text) (r : Option ℕ) → r ≡ number_from_to low high text → IfSome r (λ n. text ≡ decimal n)
written low high text (Some n) e = (decimal-number_from_to low high n text (sym e)).0
written low high text None e = tt

pub in_range : (low high : ℕ) (text : Text) (r : Option ℕ) → r ≡ number_from_to low high text → IfSome r (λ n. (low ≤ n) × (n ≤ high))
in_range low high text (Some n) e = let k = decimal-number_from_to low high n text (sym e) in (k.1, k.2)
in_range low high text None e = tt
