-- The text of a meeting's choices passes its test.
use Rattle.std.proofs.Common.{◌≡◌, ℕ, zero, suc, ◌+◌, ◌≤◌, List, [], ◌∷◌, ◌++◌, length, flat_map, true, ◌&&◌, refl, ap, ◌∙◌, arith, leb-true, lt-ltb}
use Rattle.std.proofs.lemmas.Bool.{and_parts, and_from, or_right}
use Rattle.std.proofs.lemmas.Slice.Eq.{bytes_eq-Decides}
use Rattle.std.specs.Prelude.{nat_le}
use Rattle.std.specs.List.{list_all, AllByRecursion}
use Rattle.std.specs.Str.{is_utf8}
use Rattle.mr_model.specs.Texts.{Text, words}
use Rattle.mr_model.specs.Calendar.{Date, is_date, date_text, date_in, time_text}
use Rattle.mr_model.specs.Slots.{Slot, is_slot, slot_words}
use Rattle.mr_model.specs.Writes.{Meeting, is_meeting, fits_day, choices_of}
use Rattle.mr_model.specs.Tables.{choices_text}
use Rattle.mr_model.proofs.LinesReadBack.{meeting_facts}
use Rattle.mr_model.proofs.WordsReadBack.{date-text, time-text}
use Rattle.mr_rows.specs.RowLimits.{is_day_text, is_start_text, begins_with_slot, are_choices, is_choices}
use Rattle.mr_rows.proofs.CellLemmas.{utf8}
use Rattle.mr_model.proofs.LowBytes.{words_low, time_low, date_low, Low}

own_day : (d : Date) → is_date d ≡ true → is_day_text (date_text d) ≡ true
own_day d h = let same = date-text d h in and_from (is_date (date_in (date_text d))) _ (ap is_date same ∙ h) ((bytes_eq-Decides (date_text (date_in (date_text d))) _).1 (ap date_text same))

own_time : (k n : ℕ) → k ≤ 1439 → nat_le (k + n) 1440 ≡ true → is_start_text n (time_text k) ≡ true
own_time k n low fits = rw (time-text k (omega (arith, low))) (and_from _ _ (and_from _ _ (lt-ltb k 1440 (omega (arith, low))) ((bytes_eq-Decides (time_text k) (time_text k)).1 refl)) fits)

-- a slot in front, whatever follows
in_front : (n : ℕ) (s : Slot) (more : Text) → (is_slot s && fits_day n s) ≡ true → begins_with_slot n (date_text s.day ++ 32 ∷ (time_text s.start ++ more)) ≡ true
in_front n s more h =
    let both = and_parts (is_slot s) (fits_day n s) h in
    let slot = and_parts (is_date s.day) (nat_le s.start 1439) both.0 in
    and_from _ _ (and_from _ _ (own_day s.day slot.0) refl) (own_time s.start n (leb-true s.start 1439 slot.1) both.1)

slots_pass : (most n : ℕ) (s : Slot) (ss : List Slot) → length ss ≤ most → list_all (λ x. is_slot x && fits_day n x) (s ∷ ss) ≡ true
    → are_choices (suc most) n (words (flat_map slot_words (s ∷ ss))) ≡ true
unfolding are_choices
slots_pass most n s [] few h =
    let all = and_parts (is_slot s && fits_day n s) _ h in
    and_from _ _ (in_front n s [] all.0) refl
slots_pass zero n s (r ∷ ss) few h = absurd (omega (arith, few))
slots_pass (suc most) n s (r ∷ ss) few h =
    let all = and_parts (is_slot s && fits_day n s) _ h in
    let rest = words (flat_map slot_words (r ∷ ss)) in
    let later = slots_pass most n r ss (omega (arith, few)) all.1 in
    and_from _ _ (in_front n s (32 ∷ rest) all.0) (or_right _ _ later)

-- ---- and it is UTF-8

slots_low : (n : ℕ) (ss : List Slot) → list_all (λ x. is_slot x && fits_day n x) ss ≡ true → AllByRecursion Low (flat_map slot_words ss)
slots_low n [] h = tt
slots_low n (s ∷ ss) h =
    let all = and_parts (is_slot s && fits_day n s) _ h in
    let slot = and_parts (is_date s.day) (nat_le s.start 1439) (and_parts (is_slot s) (fits_day n s) all.0).0 in
    (date_low s.day slot.0, (time_low s.start (leb-true s.start 1439 slot.1), slots_low n ss all.1))

pub choices_within : (m : Meeting) → is_meeting m ≡ true → is_choices m.length (choices_text m) ≡ true
choices_within m h =
    let f = meeting_facts m h in
    and_from (is_utf8 (choices_text m)) _ (utf8 (choices_text m) (words_low (flat_map slot_words (choices_of m)) (slots_low m.length (choices_of m) f.slots)))
    (slots_pass 16 m.length m.wish m.alternatives f.few f.slots)
