-- The words of a submission, read one after the other, give the request that they make, or the smallest fault.
use Rattle.std.proofs.Common.{◌≡◌, refl, sym, ap, ◌∙◌, subst, ℕ, ◌+◌, ◌<◌, max, Bool, true, false, not, cond, ◌||◌, ◌&&◌, ltb, leb, List, [], ◌∷◌, length, map}
use Rattle.std.proofs.Common.{get_or, Option, Some, None, is_none, inl, inr, arith, Result, Ok, Err, le-leb, leb-true, leb-false, le-ltb, lt-ltb, ltb-true}
use Rattle.std.proofs.lemmas.Bool.{true≢false, false_from_ne_true, and_parts, or_parts}
use Rattle.std.proofs.lemmas.List.{length-map}
use Rattle.std.proofs.lemmas.List.Folds.{list_any_at}
use Rattle.std.specs.Prelude.{ok_or, is_err, decimal, option_and_then}
use Rattle.std.specs.List.{list_any, list_all}
use Rattle.std.specs.Str.{bytes_eq}
use Rattle.mr_model.specs.Texts.{Text, within, number_in, only_if}
use Rattle.mr_model.specs.Calendar.{Date, date_in, date_text, is_date, read_date, time_in, time_text, read_time}
use Rattle.mr_model.specs.Slots.{Slot, is_slot}
use Rattle.mr_model.specs.Writes.{is_room_name, is_title, is_length, fits_day, greatest_alternatives}
use Rattle.mr_model.specs.Refusals as model
use Rattle.mr_model.specs.Step.{SlotWords, Submission, choice_words, slot_of, is_length_text, is_bad_length}
use Rattle.mr_model.specs.Requests.{Request, is_length_for}
use Rattle.mr_model.proofs.UniqueReplay.{some_inj, none_some}
use Rattle.mr_model.proofs.StepsKeep.{none_apply}
use Rattle.mr_base.specs.Answers.{OrOutOfMemory, Gives, unless_faulty, ok_if}
use Rattle.mr_base.specs.RefusalViews.{answer_of}
use Rattle.mr_base.specs.Limits as base
use Rattle.mr_base.specs.declared.refusals.Refusal.{Refusal}
use Rattle.mr_base.specs.declared.refusals.Refusal.TheVariants.{BadDay, BadTime, BadLength, BadRoomName, BadTitle, TooManyAlternatives}
use Rattle.mr_part.specs.Steps.{word_faults, request_in}
use Rattle.mr_service.specs.SubmittedWords.{lacks_day, lacks_time, latest_from, latest_start, ok_unless, request_or_fault}

-- ---- one word

-- a word that isn't read gives a refusal
pub err-none : {T : Type 0} (o : Option T) (e : Refusal) → is_err (ok_or o e) ≡ is_none o
err-none None e = refl
err-none (Some x) e = refl

-- a word that is read gives its value
pub read_ok : {T : Type 0} (b : Bool) (x y : T) (e : Refusal) → ok_or (cond b (Some x) None) e ≡ Ok y → (is_none (cond b (Some x) None) ≡ false) × (y ≡ x)
read_ok {T} true x y e h = (refl, (let g : ◌≡◌ {A = Result T Refusal} (Ok x) (Ok y) = h in cc))
read_ok {T} false x y e h = absurd (let g : ◌≡◌ {A = Result T Refusal} (Err e) (Ok y) = h in cc)

-- where a word is refused there is no value
pub read_err : {T : Type 0} (o : Option T) (e f : Refusal) → ok_or o e ≡ Err f → is_none o ≡ true
read_err None e f h = refl
read_err {T} (Some x) e f h = absurd (let g : ◌≡◌ {A = Result T Refusal} (Ok x) (Err f) = h in cc)

-- ---- the slot of a choice

-- a choice whose day can't be read is refused for it
pub no_day : (w : SlotWords) (e : Refusal) (s : Slot) → ok_or (read_date w.day) BadDay ≡ Err e → Err BadDay ≡ unless_faulty ((lacks_day w, BadDay) ∷ (lacks_time w, BadTime) ∷ []) s
no_day w e s h = λ i. unless_faulty ((sym (read_err (read_date w.day) BadDay e h) i, BadDay) ∷ (lacks_time w, BadTime) ∷ []) s

-- and one whose time alone can't be, for that
pub no_time : (w : SlotWords) (d : Date) (e : Refusal) (s : Slot) → ok_or (read_date w.day) BadDay ≡ Ok d
    → ok_or (read_time w.time) BadTime ≡ Err e → Err BadTime ≡ unless_faulty ((lacks_day w, BadDay) ∷ (lacks_time w, BadTime) ∷ []) s
no_time w d e s g h =
    let day : lacks_day w ≡ false = (read_ok (is_date (date_in w.day) && bytes_eq (date_text (date_in w.day)) w.day) (date_in w.day) d BadDay g).0 in
    λ i. unless_faulty ((sym day i, BadDay) ∷ (sym (read_err (read_time w.time) BadTime e h) i, BadTime) ∷ []) s

-- where both are read, its slot is made
pub slot_read : (w : SlotWords) (d : Date) (m : ℕ) → ok_or (read_date w.day) BadDay ≡ Ok d → ok_or (read_time w.time) BadTime ≡ Ok m → m < 1440
    → ok_if (leb m 1439) (record { day = d; start = m }) BadTime ≡ unless_faulty ((lacks_day w, BadDay) ∷ (lacks_time w, BadTime) ∷ []) (slot_of w)
slot_read w d m g h l =
    let (day, d_is) = read_ok (is_date (date_in w.day) && bytes_eq (date_text (date_in w.day)) w.day) (date_in w.day) d BadDay g in
    let (time, m_is) = read_ok (ltb (time_in w.time) 1440 && bytes_eq (time_text (time_in w.time)) w.time) (time_in w.time) m BadTime h in
    let low : leb m 1439 ≡ true = le-leb m 1439 (omega (arith, l)) in
    ap (λ b. ok_if b (record { day = d; start = m }) BadTime) low
    ∙ (λ i. Ok (record { day = d_is i; start = m_is i }))
    ∙ (λ i. unless_faulty ((sym day i, BadDay) ∷ (sym time i, BadTime) ∷ []) (slot_of w))

-- a slot is read where neither its day nor its time is lacking
pub no_refusal : (w : SlotWords) (s : Slot) (e : Refusal) → lacks_day w ≡ false → lacks_time w ≡ false → unless_faulty ((lacks_day w, BadDay) ∷ (lacks_time w, BadTime) ∷ []) s ≡ Err e → ⊥
no_refusal w s e d t h = go (lacks_day w) (lacks_time w) d t h
  where
    go : (a b : Bool) → a ≡ false → b ≡ false → unless_faulty ((a, BadDay) ∷ (b, BadTime) ∷ []) s ≡ Err e → ⊥
    go true b x y k = true≢false x
    go false true x y k = true≢false y
    go false false x y k = let g : ◌≡◌ {A = Result Slot Refusal} (Ok s) (Err e) = k in cc

-- where none of a list lacks them, that of each is read
pub slot_there : {A : Type 0} (f : A → SlotWords) (ws : List A) (i : ℕ) (w : A) (s : Slot) (e : Refusal) → w ≡ get_or ws i w → i < length ws → list_any (λ x. lacks_day (f x)) ws ≡ false
    → list_any (λ x. lacks_time (f x)) ws ≡ false → unless_faulty ((lacks_day (f w), BadDay) ∷ (lacks_time (f w), BadTime) ∷ []) s ≡ Err e → ⊥
slot_there {A} f ws i w s e at l day time h = no_refusal (f w) s e (one lacks_day day) (one lacks_time time) h
  where
    one : (p : SlotWords → Bool) → list_any (λ x. p (f x)) ws ≡ false → p (f w) ≡ false
    one p n = false_from_ne_true (p (f w)) (λ y. true≢false (sym (list_any_at (λ x. p (f x)) ws i w l (ap (λ x. p (f x)) (sym at) ∙ y)) ∙ n))

-- a slot that is read is that of the words
pub slot_value : (w : SlotWords) (s : Slot) → unless_faulty ((lacks_day w, BadDay) ∷ (lacks_time w, BadTime) ∷ []) (slot_of w) ≡ Ok s → s ≡ slot_of w
slot_value w s h = go (lacks_day w) (lacks_time w) h
  where
    go : (a b : Bool) → unless_faulty ((a, BadDay) ∷ (b, BadTime) ∷ []) (slot_of w) ≡ Ok s → s ≡ slot_of w
    go true b k = absurd (let g : ◌≡◌ {A = Result Slot Refusal} (Err BadDay) (Ok s) = k in cc)
    go false true k = absurd (let g : ◌≡◌ {A = Result Slot Refusal} (Err BadTime) (Ok s) = k in cc)
    go false false k = let g : ◌≡◌ {A = Result Slot Refusal} (Ok (slot_of w)) (Ok s) = k in cc

-- ---- the choices

-- a test of images
pub any-map : {A B : Type 0} (p : B → Bool) (f : A → B) (xs : List A) → list_any (λ x. p (f x)) xs ≡ list_any p (map f xs)
any-map p f [] = refl
any-map p f (x ∷ xs) = ap (λ b. p (f x) || b) (any-map p f xs)

-- ---- the faults

-- the latest of some starts is told just where each time can be read
pub starts_read : (m : ℕ) (cs : List SlotWords) → is_none (latest_from m cs) ≡ list_any lacks_time cs
starts_read m [] = refl
starts_read m (c ∷ cs) = go (read_time c.time) (λ k. starts_read k cs)
  where
    go : (o : Option ℕ) → ((k : ℕ) → is_none (latest_from k cs) ≡ list_any lacks_time cs) → is_none (option_and_then (λ start. latest_from (max m start) cs) o) ≡ (is_none o || list_any lacks_time cs)
    go None each = refl
    go (Some start) each = each (max m start)

-- what is the one and not the other
turned : (a b : Bool) → (a && not b) ≡ not (not a || b)
turned true b = refl
turned false b = refl

-- what begins at the later of two minutes ends in its day where both do
later_fits : (a b n : ℕ) (rest : Bool) → (leb (max a b + n) 1440 && not rest) ≡ (leb (a + n) 1440 && not (not (leb (b + n) 1440) || rest))
later_fits a b n rest = go (leb (a + n) 1440) refl (leb (b + n) 1440) refl
  where
    go : (x : Bool) → leb (a + n) 1440 ≡ x → (y : Bool) → leb (b + n) 1440 ≡ y → (leb (max a b + n) 1440 && not rest) ≡ (x && not (not y || rest))
    go true ex true ey = ap (λ z. z && not rest) (le-leb (max a b + n) 1440 (omega (arith, leb-true (a + n) 1440 ex, leb-true (b + n) 1440 ey)))
    go true ex false ey = ap (λ z. z && not rest) (false_from_ne_true (leb (max a b + n) 1440) (λ h. true≢false (sym (le-leb (b + n) 1440 (omega (arith, leb-true (max a b + n) 1440 h))) ∙ ey)))
    go false ex y ey = ap (λ z. z && not rest) (false_from_ne_true (leb (max a b + n) 1440) (λ h. true≢false (sym (le-leb (a + n) 1440 (omega (arith, leb-true (max a b + n) 1440 h))) ∙ ex)))

-- a length ends in its day from the latest of some starts where it does from each
latest_fits : (m n k : ℕ) (cs : List SlotWords) → latest_from m cs ≡ Some k → leb (k + n) 1440 ≡ (leb (m + n) 1440 && not (list_any (λ c. not (fits_day n (slot_of c))) cs))
latest_fits m n k [] h = ap (λ x. leb (x + n) 1440) (some_inj k m (sym h)) ∙ alone (leb (m + n) 1440)
  where
    alone : (b : Bool) → b ≡ (b && true)
    alone true = refl
    alone false = refl
latest_fits m n k (c ∷ cs) h = go (ltb (time_in c.time) 1440 && bytes_eq (time_text (time_in c.time)) c.time) h (latest_fits (max m (time_in c.time)) n k cs)
  where
    late : Bool
    late = list_any (λ c. not (fits_day n (slot_of c))) cs

    go : (b : Bool) → option_and_then (λ start. latest_from (max m start) cs) (cond b (Some (time_in c.time)) None) ≡ Some k
        → (latest_from (max m (time_in c.time)) cs ≡ Some k → leb (k + n) 1440 ≡ (leb (max m (time_in c.time) + n) 1440 && not late))
        → leb (k + n) 1440 ≡ (leb (m + n) 1440 && not (not (leb (time_in c.time + n) 1440) || late))
    go true e rest = rest e ∙ later_fits m (time_in c.time) n late
    go false e rest = absurd (none_some k e)

-- so it does from that of all choices
start_fits : (s : Submission) (n k : ℕ) → latest_start s ≡ Some k → leb (k + n) 1440 ≡ not (list_any (λ c. not (fits_day n (slot_of c))) (choice_words s))
start_fits s n k h = go (ltb (time_in s.wish.time) 1440 && bytes_eq (time_text (time_in s.wish.time)) s.wish.time) h
  where
    go : (b : Bool) → option_and_then (λ start. latest_from start s.alternatives) (cond b (Some (time_in s.wish.time)) None) ≡ Some k
        → leb (k + n) 1440 ≡ not (list_any (λ c. not (fits_day n (slot_of c))) (choice_words s))
    go true e = latest_fits (time_in s.wish.time) n k s.alternatives e ∙ turned (leb (time_in s.wish.time + n) 1440) (list_any (λ c. not (fits_day n (slot_of c))) s.alternatives)
    go false e = absurd (none_some k e)

-- the length is a number from 1 to 1440, written without leading zeros
pub length_known : (t : Text) (n : ℕ) → only_if (within 1 1440 (number_in t) && bytes_eq (decimal (number_in t)) t) (number_in t) ≡ Some n → (is_length_text t ≡ true) × (n ≡ number_in t)
length_known t n h = go (within 1 1440 (number_in t) && bytes_eq (decimal (number_in t)) t) refl h
  where
    go : (b : Bool) → is_length_text t ≡ b → only_if b (number_in t) ≡ Some n → (is_length_text t ≡ true) × (n ≡ number_in t)
    go true e k = (e, some_inj n (number_in t) (sym k))
    go false e k = absurd (none_some n k)

-- no number is read of another text
length_lacking : (t : Text) → only_if (within 1 1440 (number_in t) && bytes_eq (decimal (number_in t)) t) (number_in t) ≡ None → is_length_text t ≡ false
length_lacking t h = go (within 1 1440 (number_in t) && bytes_eq (decimal (number_in t)) t) refl h
  where
    go : (b : Bool) → is_length_text t ≡ b → only_if b (number_in t) ≡ None → is_length_text t ≡ false
    go true e k = absurd (none_some (number_in t) (sym k))
    go false e k = e

-- a length that isn't read is a bad one
pub length_none : (s : Submission) → only_if (within 1 1440 (number_in s.length) && bytes_eq (decimal (number_in s.length)) s.length) (number_in s.length) ≡ None → true ≡ is_bad_length s
length_none s h = ap (λ b. not b || list_any (λ c. not (fits_day (number_in s.length) (slot_of c))) (choice_words s)) (sym (length_lacking s.length h))

-- not twice
twice : (b : Bool) → not (not b) ≡ b
twice true = refl
twice false = refl

-- one that is read is bad just where it doesn't end in the day of the latest start
pub length_bad : (s : Submission) (latest n : ℕ) → latest_start s ≡ Some latest
    → only_if (within 1 1440 (number_in s.length) && bytes_eq (decimal (number_in s.length)) s.length) (number_in s.length) ≡ Some n → ltb 1440 (latest + n) ≡ is_bad_length s
length_bad s latest n h l =
    let known = length_known s.length n l in
    over (latest + n) (leb (latest + n) 1440) refl
    ∙ ap not (start_fits s n latest h)
    ∙ twice (late n)
    ∙ (λ i. not (sym known.0 i) || late (known.1 i))
  where
    late : ℕ → Bool
    late k = list_any (λ c. not (fits_day k (slot_of c))) (choice_words s)

    over : (x : ℕ) (b : Bool) → leb x 1440 ≡ b → ltb 1440 x ≡ not b
    over x true e = le-ltb 1440 x (leb-true x 1440 e)
    over x false e = lt-ltb 1440 x (leb-false x 1440 e)

-- ---- the request

-- what is known of words without a fault
pub record Faultless (s : Submission) : Type 0 where
  pub days : list_any lacks_day (choice_words s) ≡ false
  pub times : list_any lacks_time (choice_words s) ≡ false
  pub minutes : is_bad_length s ≡ false
  pub room : not (is_room_name s.room) ≡ false
  pub title : not (is_title s.title) ≡ false
  pub count : ltb greatest_alternatives (length s.alternatives) ≡ false

pub faultless : (s : Submission) → model.first_refusal (word_faults s) ≡ None → Faultless s
faultless s none =
    let all = none_apply (word_faults s) none in
    record { days = all.0; times = all.1.0; minutes = all.1.1.0; room = all.1.1.1.0; title = all.1.1.1.1.0; count = all.1.1.1.1.1.0 }

-- each choice that is read lies in its day
slots_there : (ws : List SlotWords) → list_any lacks_day ws ≡ false → list_any lacks_time ws ≡ false → (n : ℕ)
    → list_all (λ s. is_slot s && fits_day n s) (map slot_of ws) ≡ not (list_any (λ c. not (fits_day n (slot_of c))) ws)
slots_there [] d t n = refl
slots_there (w ∷ ws) d t n =
    let d2 = or_parts (lacks_day w) (list_any lacks_day ws) d in
    let t2 = or_parts (lacks_time w) (list_any lacks_time ws) t in
    let day : is_date (date_in w.day) ≡ true = some_if (is_date (date_in w.day)) (bytes_eq (date_text (date_in w.day)) w.day) (date_in w.day) d2.0 in
    let early : ltb (time_in w.time) 1440 ≡ true = some_if (ltb (time_in w.time) 1440) (bytes_eq (time_text (time_in w.time)) w.time) (time_in w.time) t2.0 in
    let low : leb (time_in w.time) 1439 ≡ true = le-leb (time_in w.time) 1439 (omega (arith, ltb-true (time_in w.time) 1440 early)) in
    (λ i. ((day i && low i) && fits_day n (slot_of w)) && slots_there ws d2.1 t2.1 n i) ∙ turned (fits_day n (slot_of w)) (list_any (λ c. not (fits_day n (slot_of c))) ws)
  where
    some_if : {A : Type 0} (a b : Bool) (x : A) → is_none (cond (a && b) (Some x) None) ≡ false → a ≡ true
    some_if true b x h = refl
    some_if false b x h = absurd (true≢false h)

-- the test of the length of a request is that of the words
length-same : (s : Submission) → list_any lacks_day (choice_words s) ≡ false → list_any lacks_time (choice_words s) ≡ false
    → is_length_text s.length ≡ true → not (is_length_for (number_in s.length) (slot_of s.wish ∷ map slot_of s.alternatives)) ≡ is_bad_length s
length-same s days times ok =
    (λ i. not ((and_parts (is_length (number_in s.length)) (bytes_eq (decimal (number_in s.length)) s.length) ok).0 i && slots_there (choice_words s) days times (number_in s.length) i))
    ∙ twice (list_any (λ c. not (fits_day (number_in s.length) (slot_of c))) (choice_words s))
    ∙ ap (λ b. not b || list_any (λ c. not (fits_day (number_in s.length) (slot_of c))) (choice_words s)) (sym ok)

-- an answer of the program as one of the definitions
gives : {T : Type 0} (result exact : Result T Refusal) → OrOutOfMemory result exact → Gives result (answer_of exact)
gives (Ok x) exact h = ap answer_of h
gives (Err e) exact (inl h) = inl (ap answer_of h)
gives (Err e) exact (inr h) = inr h

-- words without a fault, with their length and slots read, are the request that is made of them
pub request_made : (s : Submission) (wish : Slot) (alternatives : List Slot) (n : ℕ) (result : Result Request Refusal)
    → model.first_refusal (word_faults s) ≡ None → wish ≡ slot_of s.wish → alternatives ≡ map slot_of s.alternatives
    → only_if (within 1 1440 (number_in s.length) && bytes_eq (decimal (number_in s.length)) s.length) (number_in s.length) ≡ Some n
    → OrOutOfMemory result (base.request_of s.room s.title n wish alternatives) → Gives result (request_or_fault s)
request_made s wish alternatives n result none own others l made =
    subst (Gives result) (sym (ap (λ (o : Option model.Refusal). ok_unless o (request_in s)) none)) (gives result (Ok (request_in s)) (subst (OrOutOfMemory result) (plain ∙ whole) made))
  where
    number : (is_length_text s.length ≡ true) × (n ≡ number_in s.length)
    number = length_known s.length n l

    plain : base.request_of s.room s.title n wish alternatives ≡ base.request_of s.room s.title (number_in s.length) (slot_of s.wish) (map slot_of s.alternatives)
    plain = λ i. base.request_of s.room s.title (number.1 i) (own i) (others i)

    few : ltb greatest_alternatives (length (map slot_of s.alternatives)) ≡ ltb greatest_alternatives (length s.alternatives)
    few = ap (ltb greatest_alternatives) (length-map s.alternatives slot_of)

    whole : base.request_of s.room s.title (number_in s.length) (slot_of s.wish) (map slot_of s.alternatives) ≡ Ok (request_in s)
    whole =
        let no = faultless s none in
        λ i. unless_faulty (((length-same s no.days no.times number.0 ∙ no.minutes) i, BadLength) ∷
        (no.room i, BadRoomName) ∷ (no.title i, BadTitle) ∷ ((few ∙ no.count) i, TooManyAlternatives) ∷ []) (request_in s)
