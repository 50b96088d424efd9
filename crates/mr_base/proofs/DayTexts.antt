-- The text of a day, by its bytes and by its spelling.
use Rattle.std.proofs.Common.{◌≡◌, refl, sym, ap, ◌∙◌, subst, ℕ, ◌+◌, ◌*◌, ◌/◌, ◌%◌, ◌<◌, ◌≤◌, true, ◌&&◌, cond, [], ◌∷◌, length, slice_index, Option, Some, None, Result, Ok, IfOk, ok_or, arith}
use Rattle.std.specs.Prelude.{◌==◌}
use Rattle.std.specs.Str.{bytes_eq}
use Rattle.std.proofs.lemmas.Bool.{and_parts, and_from}
use Rattle.std.proofs.lemmas.Bool.Decides.{nat_tests}
use Rattle.mr_model.specs.Texts.{Text}
use Rattle.mr_model.specs.Calendar.{Date, is_date, date_text, date_in, read_date}
use Rattle.mr_model.proofs.BatchesReadBack.{only_if_some}
use Rattle.mr_model.proofs.WordsReadBack.{date_facts, date-text}
use Rattle.mr_base.specs.Readings.{pair_in, date_if, date_of_parts, date_by_digits}
use Rattle.mr_base.proofs.Readers.{bytes_same, same_bytes, only_if_true, same_reading, ok_written, when_is, pair_is, pair-digits}

-- a list of ten is that of its elements
ten : (s : Text) → length s ≡ 10 → s ≡ slice_index s 0 ∷ slice_index s 1 ∷ slice_index s 2 ∷ slice_index s 3 ∷
    slice_index s 4 ∷ slice_index s 5 ∷ slice_index s 6 ∷ slice_index s 7 ∷ slice_index s 8 ∷ slice_index s 9 ∷ []
ten (a ∷ b ∷ c ∷ d ∷ e ∷ f ∷ g ∷ h ∷ i ∷ j ∷ []) p = refl
ten _ p = absurd (omega arith)

-- what is read of the four pairs where a date is read of them
record DateParts (oc oy om od : Option ℕ) (v : Date) : Type 0 where
  century : ℕ
  year : ℕ
  month : ℕ
  day : ℕ
  century_is : oc ≡ Some century
  year_is : oy ≡ Some year
  month_is : om ≡ Some month
  day_is : od ≡ Some day
  date_is : date_if (century * 100 + year) month day ≡ Some v

date_parts : (oc oy om od : Option ℕ) (v : Date) → date_of_parts oc oy om od ≡ Some v → DateParts oc oy om od v
date_parts (Some c) (Some y) (Some m) (Some d) v e =
    record { century = c; year = y; month = m; day = d; century_is = refl; year_is = refl; month_is = refl; day_is = refl; date_is = e }
date_parts (Some c) (Some y) (Some m) None v e = cc
date_parts (Some c) (Some y) None _ v e = cc
date_parts (Some c) None _ _ v e = cc
date_parts None _ _ _ v e = cc

-- the test of the form
date_frame : (s : Text) → ((length s == 10) && (slice_index s 4 == 45) && (slice_index s 7 == 45)) ≡ true → (length s ≡ 10) × (slice_index s 4 ≡ 45) × (slice_index s 7 ≡ 45)
date_frame s e = grind (arith, nat_tests)

-- eight digits, two by two, spell the day
date_spelled : (b0 b1 b2 b3 b4 b5 b6 b7 b8 b9 c y m d : ℕ) → (b4 ≡ 45) × (b7 ≡ 45) → (b0 ≡ 48 + c / 10) × (b1 ≡ 48 + c % 10) × (c < 100)
    → (b2 ≡ 48 + y / 10) × (b3 ≡ 48 + y % 10) × (y < 100) → (b5 ≡ 48 + m / 10) × (b6 ≡ 48 + m % 10) × (m < 100) → (b8 ≡ 48 + d / 10) × (b9 ≡ 48 + d % 10) × (d < 100)
    → b0 ∷ b1 ∷ b2 ∷ b3 ∷ b4 ∷ b5 ∷ b6 ∷ b7 ∷ b8 ∷ b9 ∷ [] ≡ date_text (record { year = c * 100 + y; month = m; day = d })
date_spelled b0 b1 b2 b3 b4 b5 b6 b7 b8 b9 c y m d dashes hc hy hm hd =
    let high : (c * 100 + y) / 100 ≡ c = omega arith in
    let low : (c * 100 + y) % 100 ≡ y = omega arith in
    rw (high, low, dashes.0, dashes.1, hc.0, hc.1, hy.0, hy.1, hm.0, hm.1, hd.0, hd.1) refl

-- a text whose bytes are read as a day is the text of that day
date_text-date_by_digits : (s : Text) (v : Date) → date_by_digits s ≡ Some v → (is_date v ≡ true) × (s ≡ date_text v)
date_text-date_by_digits s v e =
    let w = when_is ((length s == 10) && (slice_index s 4 == 45) && (slice_index s 7 == 45)) _ v e in
    let f = date_frame s w.0 in
    let p : DateParts (pair_in (slice_index s 0) (slice_index s 1)) (pair_in (slice_index s 2) (slice_index s 3))
    (pair_in (slice_index s 5) (slice_index s 6)) (pair_in (slice_index s 8) (slice_index s 9)) v = date_parts _ _ _ _ v w.1 in
    let c = pair_is (slice_index s 0) (slice_index s 1) p.century p.century_is in
    let y = pair_is (slice_index s 2) (slice_index s 3) p.year p.year_is in
    let m = pair_is (slice_index s 5) (slice_index s 6) p.month p.month_is in
    let d = pair_is (slice_index s 8) (slice_index s 9) p.day p.day_is in
    let date : Date = record { year = p.century * 100 + p.year; month = p.month; day = p.day } in
    let is = only_if_some (is_date date) date v p.date_is in
    let spelling : s ≡ date_text date = ten s f.0 ∙ date_spelled _ _ _ _ _ _ _ _ _ _ p.century p.year p.month p.day (f.1, f.2) c y m d in
    (subst (λ (u : Date). is_date u ≡ true) is.1 is.0, spelling ∙ ap date_text is.1)

-- the bytes of a day's text are read as that day
date_by_digits-date_text : (v : Date) → is_date v ≡ true → date_by_digits (date_text v) ≡ Some v
date_by_digits-date_text v h =
    let f = date_facts v h in
    let from : 1990 ≤ v.year = f.from_1990 in
    let to : v.year < 2100 = f.to_2099 in
    let c = pair-digits (v.year / 100) (omega arith) in
    let y = pair-digits (v.year % 100) (omega arith) in
    let m = pair-digits v.month f.month in
    let d = pair-digits v.day f.day in
    let e : v.year / 100 * 100 + v.year % 100 ≡ v.year = omega arith in
    rw (c, y, m, d, e) (only_if_true (is_date v) v h)

-- what is spelled so is read, and what is read is spelled so
read_date-is : (s : Text) (v : Date) → is_date v ≡ true → s ≡ date_text v → read_date s ≡ Some v
read_date-is s v h t =
    let back : date_in (date_text v) ≡ v = date-text v h in
    let test : (is_date v && bytes_eq (date_text v) (date_text v)) ≡ true = and_from _ _ h (same_bytes (date_text v) (date_text v) refl) in
    ap read_date t
    ∙ ap (λ (d : Date). cond (is_date d && bytes_eq (date_text d) (date_text v)) (Some d) None) back
    ∙ ap (λ b. cond b (Some v) None) test

is-read_date : (s : Text) (v : Date) → read_date s ≡ Some v → (is_date v ≡ true) × (s ≡ date_text v)
is-read_date s v e =
    let d : Date = date_in s in
    let w = when_is (is_date d && bytes_eq (date_text d) s) (Some d) v e in
    let p = and_parts (is_date d) (bytes_eq (date_text d) s) w.0 in
    let is : d ≡ v = some_is d v w.1 in
    (subst (λ (u : Date). is_date u ≡ true) is p.0, sym (bytes_same (date_text d) s p.1) ∙ ap date_text is)
  where
    some_is : (a b : Date) → Some a ≡ Some b → a ≡ b
    some_is a b h = cc

-- by the bytes as by the spelling
pub read_date_is : (s : Text) → date_by_digits s ≡ read_date s
read_date_is s =
    same_reading (date_by_digits s) (read_date s)
    (λ v e. let k = date_text-date_by_digits s v e in read_date-is s v k.0 k.1)
    (λ v e. let k = is-read_date s v e in ap date_by_digits k.1 ∙ date_by_digits-date_text v k.0)

-- the same as facts about a reader's answer
pub date_written : {E : Type 0} (s : Text) (fault : E) (r : Result Date E) → r ≡ ok_or (date_by_digits s) fault → IfOk r (λ d. (is_date d ≡ true) × (s ≡ date_text d))
date_written s fault r e = ok_written (date_by_digits s) fault r (λ d. (is_date d ≡ true) × (s ≡ date_text d)) (date_text-date_by_digits s) e

pub date_read : {E : Type 0} (s : Text) (fault : E) (r : Result Date E) → r ≡ ok_or (date_by_digits s) fault → (d : Date) → is_date d ≡ true → s ≡ date_text d → r ≡ Ok d
date_read s fault r e d is t = e ∙ ap (λ o. ok_or o fault) (ap date_by_digits t ∙ date_by_digits-date_text d is)
