-- The text of a time of the day, by its bytes and by its spelling.
use Rattle.std.proofs.Common.{◌≡◌, refl, sym, ap, ◌∙◌, subst, ℕ, ◌+◌, ◌*◌, ◌/◌, ◌%◌, ◌<◌, true, ◌&&◌, cond, ltb, ltb-true, lt-ltb, [], ◌∷◌, length, slice_index, Option, Some, None, arith}
use Rattle.std.specs.Prelude.{◌==◌}
use Rattle.std.specs.Str.{bytes_eq}
use Rattle.std.proofs.lemmas.Bool.{and_parts, and_from}
use Rattle.std.proofs.lemmas.Bool.Decides.{nat_tests}
use Rattle.mr_model.specs.Texts.{Text, only_if}
use Rattle.mr_model.specs.Calendar.{time_text, time_in, read_time}
use Rattle.mr_model.proofs.BatchesReadBack.{only_if_some}
use Rattle.mr_model.proofs.WordsReadBack.{time-text}
use Rattle.mr_base.specs.Readings.{pair_in, minute_of_parts, minute_by_digits}
use Rattle.mr_base.proofs.Readers.{bytes_same, same_bytes, only_if_true, same_reading, when_is, pair_is, pair-digits}

-- a list of five is that of its elements
five : (s : Text) → length s ≡ 5 → s ≡ slice_index s 0 ∷ slice_index s 1 ∷ slice_index s 2 ∷ slice_index s 3 ∷ slice_index s 4 ∷ []
five (a ∷ b ∷ c ∷ d ∷ e ∷ []) p = refl
five _ p = absurd (omega arith)

-- what is read of the two pairs where a time is read of them
record MinuteParts (oh om : Option ℕ) (v : ℕ) : Type 0 where
  hour : ℕ
  minute : ℕ
  hour_is : oh ≡ Some hour
  minute_is : om ≡ Some minute
  value_is : only_if (ltb hour 24 && ltb minute 60) (hour * 60 + minute) ≡ Some v

minute_parts : (oh om : Option ℕ) (v : ℕ) → minute_of_parts oh om ≡ Some v → MinuteParts oh om v
minute_parts (Some h) (Some m) v e = record { hour = h; minute = m; hour_is = refl; minute_is = refl; value_is = e }
minute_parts (Some h) None v e = cc
minute_parts None _ v e = cc

-- the test of the form
minute_frame : (s : Text) → ((length s == 5) && (slice_index s 2 == 58)) ≡ true → (length s ≡ 5) × (slice_index s 2 ≡ 58)
minute_frame s e = grind (arith, nat_tests)

-- four digits, two by two, spell the time
time_spelled : (b0 b1 b2 b3 b4 h m : ℕ) → b2 ≡ 58 → (b0 ≡ 48 + h / 10) × (b1 ≡ 48 + h % 10) × (h < 100)
    → (b3 ≡ 48 + m / 10) × (b4 ≡ 48 + m % 10) × (m < 100) → m < 60 → b0 ∷ b1 ∷ b2 ∷ b3 ∷ b4 ∷ [] ≡ time_text (h * 60 + m)
time_spelled b0 b1 b2 b3 b4 h m colon hh hm short =
    let high : (h * 60 + m) / 60 ≡ h = omega arith in
    let low : (h * 60 + m) % 60 ≡ m = omega arith in
    rw (high, low, colon, hh.0, hh.1, hm.0, hm.1) refl

-- a text whose bytes are read as a minute is the text of that minute
time_text-minute_by_digits : (s : Text) (v : ℕ) → minute_by_digits s ≡ Some v → (v < 1440) × (s ≡ time_text v)
time_text-minute_by_digits s v e =
    let w = when_is ((length s == 5) && (slice_index s 2 == 58)) _ v e in
    let f = minute_frame s w.0 in
    let p : MinuteParts (pair_in (slice_index s 0) (slice_index s 1)) (pair_in (slice_index s 3) (slice_index s 4)) v = minute_parts _ _ v w.1 in
    let h = pair_is (slice_index s 0) (slice_index s 1) p.hour p.hour_is in
    let m = pair_is (slice_index s 3) (slice_index s 4) p.minute p.minute_is in
    let is = only_if_some (ltb p.hour 24 && ltb p.minute 60) (p.hour * 60 + p.minute) v p.value_is in
    let t = and_parts (ltb p.hour 24) (ltb p.minute 60) is.0 in
    let hour : p.hour < 24 = ltb-true p.hour 24 t.0 in
    let minute : p.minute < 60 = ltb-true p.minute 60 t.1 in
    let spelling : s ≡ time_text (p.hour * 60 + p.minute) = five s f.0 ∙ time_spelled _ _ _ _ _ p.hour p.minute f.1 h m minute in
    (subst (λ u. u < 1440) is.1 (omega arith), spelling ∙ ap time_text is.1)

-- the bytes of a minute's text are read as that minute
minute_by_digits-time_text : (v : ℕ) → v < 1440 → minute_by_digits (time_text v) ≡ Some v
minute_by_digits-time_text v small =
    let h = pair-digits (v / 60) (omega arith) in
    let m = pair-digits (v % 60) (omega arith) in
    let e : v / 60 * 60 + v % 60 ≡ v = omega arith in
    let hour : ltb (v / 60) 24 ≡ true = lt-ltb (v / 60) 24 (omega arith) in
    let minute : ltb (v % 60) 60 ≡ true = lt-ltb (v % 60) 60 (omega arith) in
    rw (h, m) (only_if_true (ltb (v / 60) 24 && ltb (v % 60) 60) (v / 60 * 60 + v % 60) (and_from _ _ hour minute) ∙ ap (λ (k : ℕ). Some k) e)

-- what is spelled so is read, and what is read is spelled so
read_time-is : (s : Text) (v : ℕ) → v < 1440 → s ≡ time_text v → read_time s ≡ Some v
read_time-is s v small t =
    let back : time_in (time_text v) ≡ v = time-text v small in
    let test : (ltb v 1440 && bytes_eq (time_text v) (time_text v)) ≡ true = and_from _ _ (lt-ltb v 1440 small) (same_bytes (time_text v) (time_text v) refl) in
    ap read_time t
    ∙ ap (λ n. cond (ltb n 1440 && bytes_eq (time_text n) (time_text v)) (Some n) None) back
    ∙ ap (λ b. cond b (Some v) None) test

is-read_time : (s : Text) (v : ℕ) → read_time s ≡ Some v → (v < 1440) × (s ≡ time_text v)
is-read_time s v e =
    let n : ℕ = time_in s in
    let w = when_is (ltb n 1440 && bytes_eq (time_text n) s) (Some n) v e in
    let p = and_parts (ltb n 1440) (bytes_eq (time_text n) s) w.0 in
    let is : n ≡ v = some_is n v w.1 in
    (subst (λ u. u < 1440) is (ltb-true n 1440 p.0), sym (bytes_same (time_text n) s p.1) ∙ ap time_text is)
  where
    some_is : (a b : ℕ) → Some a ≡ Some b → a ≡ b
    some_is a b h = cc

-- by the bytes as by the spelling
pub read_time_is : (s : Text) → minute_by_digits s ≡ read_time s
read_time_is s =
    same_reading (minute_by_digits s) (read_time s)
    (λ v e. let k = time_text-minute_by_digits s v e in read_time-is s v k.0 k.1)
    (λ v e. let k = is-read_time s v e in ap minute_by_digits k.1 ∙ minute_by_digits-time_text v k.0)
