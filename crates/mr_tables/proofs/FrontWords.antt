-- Words and slots at the front of a text.
use Rattle.std.proofs.Common.{◌≡◌, refl, sym, ap, ◌∙◌, subst, ℕ, suc, ◌+◌, ◌<◌, ◌≤◌, Bool, true, false, not, ◌&&◌, cond, eqb, Option, Some, None, IfSome}
use Rattle.std.proofs.Common.{List, [], ◌∷◌, ◌++◌, length, take, drop, arith, leb, leb-true, le-leb, eqb-true, IsTrue, append-nil, append_assoc}
use Rattle.std.proofs.lemmas.Bool.{and_parts, cond-false, false_from_ne_true}
use Rattle.std.proofs.lemmas.List.{take_all, drop_all, length-append}
use Rattle.std.specs.Prelude.{flat_map}
use Rattle.std.specs.Borrow.{Bor}
use Rattle.std.specs.Str.{IsUtf8}
use Rattle.std.specs.List.{before_first, after_first, position_or_len}
use Rattle.mr_model.specs.Texts.{Text, first_word, after_word, words}
use Rattle.mr_model.specs.Calendar.{date_text, time_text}
use Rattle.mr_model.specs.Slots.{Slot, slot_words}
use Rattle.mr_model.specs.Calendar.{is_date}
use Rattle.mr_model.proofs.WordsReadBack.{Plain, first_word_alone, first_word_of, date-plain, time-plain}
use Rattle.mr_model.proofs.UniqueReplay.{some_inj}
use Rattle.mr_tables.specs.Choices.{IsTextOf, IsRestOf, IsUnderWay, rest_text, lent, after_space}

-- the first place of a space
abbrev pub place : Text → ℕ
place xs = position_or_len (λ b. eqb b 32) xs

pub word-before : (xs : Text) → before_first (λ b. eqb b 32) xs ≡ first_word xs
word-before [] = refl
word-before (x ∷ xs) = go (eqb x 32) (word-before xs)
  where
    go : (b : Bool) → take (place xs) xs ≡ first_word xs → take (cond (not b) (1 + place xs) 0) (x ∷ xs) ≡ cond b [] (x ∷ first_word xs)
    go true ih = refl
    go false ih = (let e : 1 + place xs ≡ suc (place xs) = omega arith in ap (λ n. take n (x ∷ xs)) e) ∙ ap (λ (ys : Text). x ∷ ys) ih

pub word-after : (xs : Text) → after_first (λ b. eqb b 32) xs ≡ after_word xs
word-after [] = refl
word-after (x ∷ xs) = go (eqb x 32) (word-after xs)
  where
    go : (b : Bool) → drop (place xs + 1) xs ≡ after_word xs → drop (cond (not b) (1 + place xs) 0 + 1) (x ∷ xs) ≡ cond b xs (after_word xs)
    go true ih = refl
    go false ih = (let e : 1 + place xs + 1 ≡ suc (place xs + 1) = omega arith in ap (λ n. drop n (x ∷ xs)) e) ∙ ih

pub word_alone : (xs : Text) → place xs ≡ length xs → xs ≡ first_word xs
word_alone xs e = sym (take_all (place xs) xs (omega (arith, e))) ∙ word-before xs

pub none_after : (xs : Text) → place xs ≡ length xs → [] ≡ after_word xs
none_after xs e = sym (drop_all (place xs + 1) xs (omega (arith, e))) ∙ word-after xs

pub space-some : (xs : Text) → place xs < length xs → after_space xs ≡ Some (after_first (λ b. eqb b 32) xs)
space-some [] low = absurd (omega (arith, low))
space-some (x ∷ xs) low = go (eqb x 32) low (space-some xs)
  where
    go : (b : Bool) → cond (not b) (1 + place xs) 0 < suc (length xs) → (place xs < length xs → after_space xs ≡ Some (drop (place xs + 1) xs))
        → cond b (Some xs) (after_space xs) ≡ Some (drop (cond (not b) (1 + place xs) 0 + 1) (x ∷ xs))
    go true l ih = refl
    go false l ih = ih (omega (arith, l)) ∙ (let e : suc (place xs + 1) ≡ 1 + place xs + 1 = omega arith in ap (λ n. Some (drop n (x ∷ xs))) e)

pub space-none : (xs : Text) → place xs ≡ length xs → after_space xs ≡ None
space-none [] e = refl
space-none (x ∷ xs) e = go (eqb x 32) e (space-none xs)
  where
    go : (b : Bool) → cond (not b) (1 + place xs) 0 ≡ suc (length xs) → (place xs ≡ length xs → after_space xs ≡ None) → cond b (Some xs) (after_space xs) ≡ None
    go true f ih = absurd (omega (arith, f))
    go false f ih = ih (omega (arith, f))

-- ---- a text and its first word

from_none : (t : Text) → after_space t ≡ None → first_word t ≡ t
from_none [] e = refl
from_none (c ∷ cs) e = go (eqb c 32) e (from_none cs)
  where
    go : (b : Bool) → ◌≡◌ {A = Option Text} (cond b (Some cs) (after_space cs)) None → (after_space cs ≡ None → first_word cs ≡ cs) → cond b [] (c ∷ first_word cs) ≡ c ∷ cs
    go true f ih = absurd (let g : ◌≡◌ {A = Option Text} (Some cs) None = f in let never : ⊥ = cc in never)
    go false f ih = ap (λ (t : Text). c ∷ t) (ih f)

from_some : (t r : Text) → after_space t ≡ Some r → t ≡ first_word t ++ 32 ∷ r
from_some [] r e = absurd (let g : ◌≡◌ {A = Option Text} None (Some r) = e in let never : ⊥ = cc in never)
from_some (c ∷ cs) r e = go (eqb c 32) refl e (from_some cs r)
  where
    go : (b : Bool) → eqb c 32 ≡ b → ◌≡◌ {A = Option Text} (cond b (Some cs) (after_space cs)) (Some r)
        → (after_space cs ≡ Some r → cs ≡ first_word cs ++ 32 ∷ r) → c ∷ cs ≡ cond b [] (c ∷ first_word cs) ++ 32 ∷ r
    go true h f ih = let same : cs ≡ r = some_inj cs r f in λ i. eqb-true c 32 h i ∷ same i
    go false h f ih = ap (λ (t : Text). c ∷ t) (ih f)

not_space : (c : ℕ) → 33 ≤ c → eqb c 32 ≡ false
not_space c high = false_from_ne_true (eqb c 32) (λ e. let n = eqb-true c 32 e in omega (arith, high, n))

space_of : (w rest : Text) → Plain w → after_space (w ++ 32 ∷ rest) ≡ Some rest
space_of [] rest h = refl
space_of (c ∷ cs) rest h = cond-false (eqb c 32) (Some (cs ++ 32 ∷ rest)) (after_space (cs ++ 32 ∷ rest)) (not_space c h.0) ∙ space_of cs rest h.1

space_alone : (w : Text) → Plain w → after_space w ≡ None
space_alone [] h = refl
space_alone (c ∷ cs) h = cond-false (eqb c 32) (Some cs) (after_space cs) (not_space c h.0) ∙ space_alone cs h.1

-- ---- a slot at the front

-- the words of a text of slots
day_first : (s : Slot) (ss : List Slot) → first_word (words (flat_map slot_words (s ∷ ss))) ≡ date_text s.day
day_first s ss = first_word_of (date_text s.day) (words (time_text s.start ∷ flat_map slot_words ss)) (date-plain s.day)

time_behind : (s : Slot) (ss : List Slot) → after_space (words (flat_map slot_words (s ∷ ss))) ≡ Some (words (time_text s.start ∷ flat_map slot_words ss))
time_behind s ss = space_of (date_text s.day) (words (time_text s.start ∷ flat_map slot_words ss)) (date-plain s.day)

time_first : (s : Slot) (ss : List Slot) → first_word (words (time_text s.start ∷ flat_map slot_words ss)) ≡ time_text s.start
time_first s [] = first_word_alone (time_text s.start) (time-plain s.start)
time_first s (t ∷ ts) = first_word_of (time_text s.start) (words (flat_map slot_words (t ∷ ts))) (time-plain s.start)

slots_behind : (s : Slot) (ss : List Slot) → after_space (words (time_text s.start ∷ flat_map slot_words ss)) ≡ rest_text ss
slots_behind s [] = space_alone (time_text s.start) (time-plain s.start)
slots_behind s (t ∷ ts) = space_of (time_text s.start) (words (flat_map slot_words (t ∷ ts))) (time-plain s.start)

-- what the first words of a text of slots are
pub record IsFirstSlot (s : Slot) (ss : List Slot) (day time : Text) (rest : Option Text) : Type 0 where
  pub day_is : day ≡ date_text s.day
  pub time_is : time ≡ time_text s.start
  pub rest_is : IsRestOf rest ss
  pub is_day : IsTrue (is_date s.day)
  pub is_time : s.start < 1440

pub first_slot : (text day behind time : Text) (rest : Option Text) (s : Slot) (ss : List Slot) → IsTextOf text (s ∷ ss) → day ≡ first_word text
    → Some behind ≡ after_space text → time ≡ first_word behind → rest ≡ after_space behind → IsFirstSlot s ss day time rest
first_slot text day behind time rest s ss h d b t r =
    let two : behind ≡ words (time_text s.start ∷ flat_map slot_words ss) = some_inj _ _ (b ∙ ap after_space h.text_is ∙ time_behind s ss) in
    let p = and_parts (is_date s.day) (leb s.start 1439) h.slots.0 in
    let low : s.start ≤ 1439 = leb-true s.start 1439 p.1 in
    record {
      day_is = d ∙ ap first_word h.text_is ∙ day_first s ss;
      time_is = t ∙ ap first_word two ∙ time_first s ss;
      rest_is = record { slots = h.slots.1; rest_is = r ∙ ap after_space two ∙ slots_behind s ss };
      is_day = p.0;
      is_time = omega (arith, low);
    }

-- a text of slots has a space
pub has_space : (text : Text) (s : Slot) (ss : List Slot) → IsTextOf text (s ∷ ss) → None ≡ after_space text → ⊥
has_space text s ss h e =
    let f : ◌≡◌ {A = Option Text} None (Some (words (time_text s.start ∷ flat_map slot_words ss))) = e ∙ ap after_space h.text_is ∙ time_behind s ss in
    let never : ⊥ = cc in
    never

-- what is read as a slot, and then as others, is the text of them
pub slot_told : (text behind time : Text) (rest : Option Text) (s : Slot) (ss : List Slot) → first_word text ≡ date_text s.day → Some behind ≡ after_space text
    → first_word behind ≡ time_text s.start → rest ≡ after_space behind → IsTrue (is_date s.day) → s.start < 1440 → IsRestOf rest ss → IsTextOf text (s ∷ ss)
slot_told text behind time rest s ss day b time_is r is_day low h =
    record {
      slots = ((let early : s.start ≤ 1439 = omega (arith, low) in λ i. is_day i && le-leb s.start 1439 early i), h.slots);
      text_is = from_some text behind (sym b) ∙ (λ i. day i ++ 32 ∷ told ss (sym r ∙ h.rest_is) i);
    }
  where
    told : (ss : List Slot) → after_space behind ≡ rest_text ss → behind ≡ words (time_text s.start ∷ flat_map slot_words ss)
    told [] e = sym (from_none behind e) ∙ time_is
    told (t ∷ ts) e = from_some behind (words (flat_map slot_words (t ∷ ts))) e ∙ ap (λ w. w ++ 32 ∷ words (flat_map slot_words (t ∷ ts))) time_is

-- what is left is shorter
pub left_shorter : (text behind : Text) (rest : Option (Bor Text)) → Some behind ≡ after_space text → lent rest ≡ after_space behind → IfSome rest (λ rest. length rest.now < length text)
left_shorter text behind None b r = tt
left_shorter text behind (Some rest) b r =
    let one : length text ≡ length (first_word text) + length (32 ∷ behind) = ap length (from_some text behind (sym b)) ∙ length-append (first_word text) (32 ∷ behind) in
    let two : length behind ≡ length (first_word behind) + length (32 ∷ rest.now) = ap length (from_some behind rest.now (sym r)) ∙ length-append (first_word behind) (32 ∷ rest.now) in
    omega (arith, one, two)

-- ---- slots one after the other

-- where nothing is left all are read
pub all_read : (ss read : List Slot) → IsUnderWay ss read None → read ≡ ss
all_read ss read ([], e, t) = sym (e ∙ append-nil read)
all_read ss read (s ∷ others, e, t) = absurd (let f : ◌≡◌ {A = Option Text} None (rest_text (s ∷ others)) = t.rest_is in let never : ⊥ = cc in never)

-- else there is a slot in front
pub one_more : (ss read : List Slot) (rest : Text) → IsUnderWay ss read (Some rest) → (s : Slot) × (others : List Slot) × (ss ≡ read ++ s ∷ others) × IsTextOf rest (s ∷ others)
one_more ss read rest ([], e, t) = absurd (let f : ◌≡◌ {A = Option Text} (Some rest) None = t.rest_is in let never : ⊥ = cc in never)
one_more ss read rest (s ∷ others, e, t) = (s, others, e, record { slots = t.slots; text_is = some_inj _ _ t.rest_is })

pub behind_one : (ss read others : List Slot) (s slot : Slot) (behind : Option Text) → ss ≡ read ++ s ∷ others → slot ≡ s → IsRestOf behind others → IsUnderWay ss (read ++ slot ∷ []) behind
behind_one ss read others s slot behind e p t = (others, e ∙ ap (λ x. read ++ x ∷ others) (sym p) ∙ sym (append_assoc read (slot ∷ []) others), t)

-- what was read so far, this slot, and the slots that are left, are those of the text
pub told_one : (text rest behind : Option Text) (t : Text) (read : List Slot) (slot : Slot) (left : List Slot) → rest ≡ Some t
    → ((left : List Slot) → IsRestOf rest left → IsRestOf text (read ++ left)) → IsTextOf t (slot ∷ left) → IsRestOf text ((read ++ slot ∷ []) ++ left)
told_one text rest behind t read slot left e told h =
    subst (IsRestOf text) (sym (append_assoc read (slot ∷ []) left)) (told (slot ∷ left) (record { slots = h.slots; rest_is = e ∙ ap Some h.text_is }))

-- ---- what is left of a text

abbrev pub left_length : Option (Bor Text) → ℕ
left_length None = 0
left_length (Some text) = suc (length text.now)

abbrev pub IsUtf8Rest : Option (Bor Text) → Type 0
IsUtf8Rest rest = IfSome rest (λ text. IsUtf8 text.now)
