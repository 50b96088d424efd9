-- A field that is taken off a text is the field that was written, and what was written is taken off again.
use Rattle.std.proofs.Common.{◌≡◌, refl, sym, ap, ◌∙◌, subst, ℕ, zero, suc, ◌^◌, ◌<◌, ◌≤◌, Bool, true, false, cond, ◌&&◌, eqb, leb, List, [], ◌∷◌}
use Rattle.std.proofs.Common.{◌++◌, length, arith, Option, Some, None, eq-eqb, eqb-true, ne_eqb, le-leb, leb-true, ltb, lt-ltb, ltb-true, lit<}
use Rattle.std.proofs.lemmas.Bool.{and_parts, and_from, cond-false, cond-true}
use Rattle.std.proofs.lemmas.Option.{same_Some}
use Rattle.std.specs.Prelude.{option_map, flat_map, ok_or}
use Rattle.std.specs.Result.{result_ok}
use Rattle.std.specs.Str.{bytes_eq}
use Rattle.std.specs.Fmt.{decimal}
use Rattle.std.specs.List.{AllByRecursion}
use Rattle.mr_model.specs.Texts.{Text, within, number_in, only_if, words}
use Rattle.mr_model.specs.Calendar.{Date, is_date, date_text, time_text, read_date, read_time, date_in, time_in}
use Rattle.mr_model.specs.Slots.{Slot, is_slot, slot_words}
use Rattle.mr_model.specs.Writes.{Stamp, is_stamp, is_server, is_count, is_time, is_room_name}
use Rattle.mr_model.proofs.WordsReadBack.{Plain, decimal-plain, number-decimal, date-plain, time-plain, date-text, time-text}
use Rattle.mr_model.proofs.LinesReadBack.{words-cons, room_plain}
use Rattle.mr_model.proofs.BatchesReadBack.{only_own, own_text, only_if_some}
use Rattle.mr_wire.specs.Words.{cut}
use Rattle.mr_base.specs.Readings.{number_from_to}
use Rattle.mr_wire.specs.Fields.{◌>>=◌, number_off, slot_off, slots_off, stamp_off, front_off}

-- the value of a step that gave one
pub bind_some : {A B : Type 0} (o : Option A) (f : A → Option B) (y : B) → (o >>= f) ≡ Some y → (x : A) × (o ≡ Some x) × (f x ≡ Some y)
bind_some (Some x) f y e = (x, refl, e)
bind_some {B = B} None f y e = absurd (let g : ◌≡◌ {A = Option B} None (Some y) = e in cc)

-- ---- words

pub cut_takes : (c : ℕ) (text a b : Text) → cut c text ≡ Some (a, b) → text ≡ a ++ c ∷ b
cut_takes c [] a b e = absurd (let g : ◌≡◌ {A = Option (Text × Text)} None (Some (a, b)) = e in cc)
cut_takes c (x ∷ xs) a b e = go (eqb x c) refl (cut c xs) (λ a' b'. cut_takes c xs a' b') e
  where
    go : (t : Bool) → eqb x c ≡ t → (o : Option (Text × Text)) → ((a' b' : Text) → o ≡ Some (a', b') → xs ≡ a' ++ c ∷ b')
        → cond {A = Option (Text × Text)} t (Some ([], xs)) (option_map (λ (p : Text × Text). (x ∷ p.0, p.1)) o) ≡ Some (a, b) → x ∷ xs ≡ a ++ c ∷ b
    go true t o ih h =
        let is = same_Some ([], xs) (a, b) h in
        let same : x ≡ c = eqb-true x c t in
        let left : ◌≡◌ {A = Text} [] a = ap (λ (p : Text × Text). p.0) is in
        let right : xs ≡ b = ap (λ (p : Text × Text). p.1) is in
        (λ i. same i ∷ right i) ∙ ap (λ (t : Text). t ++ c ∷ b) left
    go false t (Some p) ih h =
        let is = same_Some (x ∷ p.0, p.1) (a, b) h in
        let left : x ∷ p.0 ≡ a = ap (λ (q : Text × Text). q.0) is in
        let right : p.1 ≡ b = ap (λ (q : Text × Text). q.1) is in
        ap (λ (t : Text). x ∷ t) (ih p.0 p.1 refl) ∙ (λ i. left i ++ c ∷ right i)
    go false t None ih h = absurd (let g : ◌≡◌ {A = Option (Text × Text)} None (Some (a, b)) = h in cc)

pub cut_again : (c : ℕ) (a b : Text) → AllByRecursion (λ x. eqb x c ≡ false) a → cut c (a ++ c ∷ b) ≡ Some (a, b)
cut_again c [] b h = cond-true {A = Option (Text × Text)} (eqb c c) (Some ([], b)) (option_map (λ (p : Text × Text). (c ∷ p.0, p.1)) (cut c b)) (eq-eqb c c refl)
cut_again c (x ∷ xs) b h =
    cond-false {A = Option (Text × Text)} (eqb x c) (Some ([], xs ++ c ∷ b)) (option_map (λ (p : Text × Text). (x ∷ p.0, p.1)) (cut c (xs ++ c ∷ b))) h.0
    ∙ ap (option_map (λ (p : Text × Text). (x ∷ p.0, p.1))) (cut_again c xs b h.1)

no_space : (w : Text) → Plain w → AllByRecursion (λ x. eqb x 32 ≡ false) w
no_space [] h = tt
no_space (x ∷ xs) h = let low : 33 ≤ x = h.0 in (ne_eqb x 32 (λ e. omega (arith, low, e)), no_space xs h.1)

pub word_again : (w rest : Text) → Plain w → cut 32 (w ++ 32 ∷ rest) ≡ Some (w, rest)
word_again w rest h = cut_again 32 w rest (no_space w h)

-- ---- numbers

pub number_takes : (low high : ℕ) (text : Text) (n : ℕ) → number_from_to low high text ≡ Some n → (within low high n ≡ true) × (text ≡ decimal n)
number_takes low high text n e = let o = own_text (within low high) decimal (number_in text) n text e in (o.0, sym o.1)

pub number_again : (low high n : ℕ) → within low high n ≡ true → high < 2 ^ 64 → number_from_to low high (decimal n) ≡ Some n
number_again low high n ok top =
    let most : n ≤ high = leb-true n high (and_parts (leb low n) (leb n high) ok).1 in
    only_own (within low high) decimal (number_in (decimal n)) n (decimal n) (number-decimal n (omega (arith, most, top))) ok refl

pub number_off_takes : (low high : ℕ) (text : Text) (x : ℕ × Text) → number_off low high text ≡ Some x → (within low high x.0 ≡ true) × (text ≡ decimal x.0 ++ 32 ∷ x.1)
unfolding number_off
number_off_takes low high text x e =
    let a = bind_some (cut 32 text) (λ word. number_from_to low high word.0 >>= λ n. Some (n, word.1)) x e in
    let b = bind_some (number_from_to low high a.0.0) (λ n. Some (n, a.0.1)) x a.2 in
    let t = number_takes low high a.0.0 b.0 b.1 in
    let is = same_Some (b.0, a.0.1) x b.2 in
    subst (λ (y : ℕ × Text). (within low high y.0 ≡ true) × (text ≡ decimal y.0 ++ 32 ∷ y.1)) is
    (t.0, cut_takes 32 text a.0.0 a.0.1 a.1 ∙ ap (λ (w : Text). w ++ 32 ∷ a.0.1) t.1)

pub number_off_again : (low high n : ℕ) (rest : Text) → within low high n ≡ true → high < 2 ^ 64 → number_off low high (decimal n ++ 32 ∷ rest) ≡ Some (n, rest)
unfolding number_off
number_off_again low high n rest ok top =
    let most : n ≤ high = leb-true n high (and_parts (leb low n) (leb n high) ok).1 in
    ap (λ o. o >>= λ (word : Text × Text). number_from_to low high word.0 >>= λ n. Some (n, word.1)) (word_again (decimal n) rest (decimal-plain n (omega (arith, most, top))))
    ∙ ap (λ o. o >>= λ (m : ℕ). Some (m, rest)) (number_again low high n ok top)

pub stamp_off_takes : (text : Text) (x : Stamp × Text) → stamp_off text ≡ Some x → (is_stamp x.0 ≡ true) × (text ≡ decimal x.0.server ++ 32 ∷ (decimal x.0.n ++ 32 ∷ (decimal x.0.time ++ 32 ∷ x.1)))
unfolding stamp_off
stamp_off_takes text x e =
    let a = bind_some (number_off 1 99 text) (λ server. number_off 1 999_999_999 server.1 >>= λ n. number_off 1 999_999_999_999 n.1
    >>= λ time. Some (record { server = server.0; n = n.0; time = time.0 }, time.1)) x e in
    let b = bind_some (number_off 1 999_999_999 a.0.1) (λ n. number_off 1 999_999_999_999 n.1 >>= λ time. Some (record { server = a.0.0; n = n.0; time = time.0 }, time.1)) x a.2 in
    let d = bind_some (number_off 1 999_999_999_999 b.0.1) (λ time. Some (record { server = a.0.0; n = b.0.0; time = time.0 }, time.1)) x b.2 in
    let ta = number_off_takes 1 99 text a.0 a.1 in
    let tb = number_off_takes 1 999_999_999 a.0.1 b.0 b.1 in
    let td = number_off_takes 1 999_999_999_999 b.0.1 d.0 d.1 in
    let made : Stamp × Text = (record { server = a.0.0; n = b.0.0; time = d.0.0 }, d.0.1) in
    subst (λ (y : Stamp × Text). (is_stamp y.0 ≡ true) × (text ≡ decimal y.0.server ++ 32 ∷ (decimal y.0.n ++ 32 ∷ (decimal y.0.time ++ 32 ∷ y.1)))) (same_Some made x d.2) (
      and_from (is_server a.0.0 && is_count b.0.0) (is_time d.0.0) (and_from (is_server a.0.0) (is_count b.0.0) ta.0 tb.0) td.0,
      ta.1 ∙ ap (λ (t : Text). decimal a.0.0 ++ 32 ∷ t) (tb.1 ∙ ap (λ (t : Text). decimal b.0.0 ++ 32 ∷ t) td.1),
    )

pub stamp_off_again : (s : Stamp) (rest : Text) → is_stamp s ≡ true → stamp_off (decimal s.server ++ 32 ∷ (decimal s.n ++ 32 ∷ (decimal s.time ++ 32 ∷ rest))) ≡ Some (s, rest)
unfolding stamp_off
stamp_off_again s rest ok =
    let a = and_parts (is_server s.server && is_count s.n) (is_time s.time) ok in
    let b = and_parts (is_server s.server) (is_count s.n) a.0 in
    let last = decimal s.time ++ 32 ∷ rest in
    ap (λ o. o >>= λ (server : ℕ × Text). number_off 1 999_999_999 server.1 >>= λ n. number_off 1 999_999_999_999 n.1
    >>= λ time. Some (record { server = server.0; n = n.0; time = time.0 }, time.1)) (number_off_again 1 99 s.server (decimal s.n ++ 32 ∷ last) b.0 (lit< tt))
    ∙ ap (λ o. o >>= λ (n : ℕ × Text). number_off 1 999_999_999_999 n.1 >>= λ time. Some (record { server = s.server; n = n.0; time = time.0 }, time.1))
    (number_off_again 1 999_999_999 s.n last b.1 (lit< tt))
    ∙ ap (λ o. o >>= λ (time : ℕ × Text). Some (record { server = s.server; n = s.n; time = time.0 }, time.1)) (number_off_again 1 999_999_999_999 s.time rest a.1 (lit< tt))

-- a stamp and a room, and what stands behind them
unfoldable pub front_rest : Stamp → Text → Text → Text
front_rest stamp room rest = decimal stamp.server ++ 32 ∷ (decimal stamp.n ++ 32 ∷ (decimal stamp.time ++ 32 ∷ (room ++ 32 ∷ rest)))

pub front_off_takes : (text : Text) (x : Stamp × Text × Text) → front_off text ≡ Some x → (is_stamp x.0 ≡ true) × (is_room_name x.1 ≡ true) × (text ≡ front_rest x.0 x.1 x.2)
unfolding front_off front_rest
front_off_takes text x e =
    let s = bind_some (stamp_off text) (λ stamp. cut 32 stamp.1 >>= λ room. only_if (is_room_name room.0) (stamp.0, room.0, room.1)) x e in
    let r = bind_some (cut 32 s.0.1) (λ room. only_if (is_room_name room.0) (s.0.0, room.0, room.1)) x s.2 in
    let made : Stamp × Text × Text = (s.0.0, r.0.0, r.0.1) in
    let named = only_if_some (is_room_name r.0.0) made x r.2 in
    let ts = stamp_off_takes text s.0 s.1 in
    subst (λ (y : Stamp × Text × Text). (is_stamp y.0 ≡ true) × (is_room_name y.1 ≡ true)
    × (text ≡ decimal y.0.server ++ 32 ∷ (decimal y.0.n ++ 32 ∷ (decimal y.0.time ++ 32 ∷ (y.1 ++ 32 ∷ y.2))))) {x = made} named.1 (
      ts.0,
      named.0,
      ts.1 ∙ ap (λ (t : Text). decimal s.0.0.server ++ 32 ∷ (decimal s.0.0.n ++ 32 ∷ (decimal s.0.0.time ++ 32 ∷ t))) (cut_takes 32 s.0.1 r.0.0 r.0.1 r.1),
    )

pub front_off_again : (stamp : Stamp) (room rest : Text) → is_stamp stamp ≡ true → is_room_name room ≡ true → front_off (front_rest stamp room rest) ≡ Some (stamp, room, rest)
unfolding front_off front_rest
front_off_again stamp room rest ok named =
    ap (λ o. o >>= λ (s : Stamp × Text). cut 32 s.1 >>= λ name. only_if (is_room_name name.0) (s.0, name.0, name.1)) (stamp_off_again stamp (room ++ 32 ∷ rest) ok)
    ∙ ap (λ o. o >>= λ (name : Text × Text). only_if (is_room_name name.0) (stamp, name.0, name.1)) (word_again room rest (room_plain room named))
    ∙ ap (λ b. only_if b (stamp, room, rest)) named

-- ---- slots

tested : {A : Type 0} (b : Bool) (x : A) → cond b (Some x) None ≡ only_if b x
tested true x = refl
tested false x = refl

pub date_takes : (text : Text) (d : Date) → read_date text ≡ Some d → (is_date d ≡ true) × (text ≡ date_text d)
date_takes text d e = let o = own_text is_date date_text (date_in text) d text (sym (tested (is_date (date_in text) && bytes_eq (date_text (date_in text)) text) (date_in text)) ∙ e) in (o.0, sym o.1)

pub date_again : (d : Date) → is_date d ≡ true → read_date (date_text d) ≡ Some d
date_again d ok =
    let text = date_text d in
    tested (is_date (date_in text) && bytes_eq (date_text (date_in text)) text) (date_in text) ∙ only_own is_date date_text (date_in text) d text (date-text d ok) ok refl

is_minute : ℕ → Bool
is_minute n = ltb n 1440

pub time_takes : (text : Text) (n : ℕ) → read_time text ≡ Some n → (leb n 1439 ≡ true) × (text ≡ time_text n)
unfolding is_minute
time_takes text n e =
    let o = own_text is_minute time_text (time_in text) n text (sym (tested (ltb (time_in text) 1440 && bytes_eq (time_text (time_in text)) text) (time_in text)) ∙ e) in
    let low : n < 1440 = ltb-true n 1440 o.0 in
    (le-leb n 1439 (omega (arith, low)), sym o.1)

pub time_again : (n : ℕ) → leb n 1439 ≡ true → read_time (time_text n) ≡ Some n
unfolding is_minute
time_again n ok =
    let text = time_text n in
    let most : n ≤ 1439 = leb-true n 1439 ok in
    let low : n < 1440 = omega (arith, most) in
    tested (ltb (time_in text) 1440 && bytes_eq (time_text (time_in text)) text) (time_in text) ∙ only_own is_minute time_text (time_in text) n text (time-text n low) (lt-ltb n 1440 low) refl

pub slot_off_takes : (text : Text) (x : Slot × Text) → slot_off text ≡ Some x → (is_slot x.0 ≡ true) × (text ≡ date_text x.0.day ++ 32 ∷ (time_text x.0.start ++ 32 ∷ x.1))
unfolding slot_off
slot_off_takes text x e =
    let a = bind_some (cut 32 text) (λ word. read_date word.0 >>= λ day. cut 32 word.1 >>= λ next. read_time next.0 >>= λ start. Some (record { day = day; start = start }, next.1)) x e in
    let b = bind_some (read_date a.0.0) (λ day. cut 32 a.0.1 >>= λ next. read_time next.0 >>= λ start. Some (record { day = day; start = start }, next.1)) x a.2 in
    let d = bind_some (cut 32 a.0.1) (λ next. read_time next.0 >>= λ start. Some (record { day = b.0; start = start }, next.1)) x b.2 in
    let f = bind_some (read_time d.0.0) (λ start. Some (record { day = b.0; start = start }, d.0.1)) x d.2 in
    let day = date_takes a.0.0 b.0 b.1 in
    let start = time_takes d.0.0 f.0 f.1 in
    let made : Slot × Text = (record { day = b.0; start = f.0 }, d.0.1) in
    subst (λ (y : Slot × Text). (is_slot y.0 ≡ true) × (text ≡ date_text y.0.day ++ 32 ∷ (time_text y.0.start ++ 32 ∷ y.1))) (same_Some made x f.2) (
      and_from (is_date b.0) (leb f.0 1439) day.0 start.0,
      cut_takes 32 text a.0.0 a.0.1 a.1 ∙ ap (λ (w : Text). w ++ 32 ∷ a.0.1) day.1
          ∙ ap (λ (t : Text). date_text b.0 ++ 32 ∷ t) (cut_takes 32 a.0.1 d.0.0 d.0.1 d.1 ∙ ap (λ (w : Text). w ++ 32 ∷ d.0.1) start.1),
    )

pub slot_off_again : (s : Slot) (rest : Text) → is_slot s ≡ true → slot_off (date_text s.day ++ 32 ∷ (time_text s.start ++ 32 ∷ rest)) ≡ Some (s, rest)
unfolding slot_off
slot_off_again s rest ok =
    let p = and_parts (is_date s.day) (leb s.start 1439) ok in
    let last = time_text s.start ++ 32 ∷ rest in
    ap (λ o. o >>= λ (word : Text × Text). read_date word.0 >>= λ day. cut 32 word.1 >>= λ next. read_time next.0
    >>= λ start. Some (record { day = day; start = start }, next.1)) (word_again (date_text s.day) last (date-plain s.day))
    ∙ ap (λ o. o >>= λ day. cut 32 last >>= λ next. read_time next.0 >>= λ start. Some (record { day = day; start = start }, next.1)) (date_again s.day p.0)
    ∙ ap (λ o. o >>= λ (next : Text × Text). read_time next.0 >>= λ start. Some (record { day = s.day; start = start }, next.1)) (word_again (time_text s.start) rest (time-plain s.start))
    ∙ ap (λ o. o >>= λ start. Some (record { day = s.day; start = start }, rest)) (time_again s.start p.1)

pub slots_off_take : (k : ℕ) (text : Text) (x : List Slot × Text) → slots_off k text ≡ Some x
    → (length x.0 ≡ k) × AllByRecursion (λ s. is_slot s ≡ true) x.0 × (text ≡ words (flat_map slot_words x.0 ++ x.1 ∷ []))
unfolding slots_off
slots_off_take zero text x e =
    subst (λ (y : List Slot × Text). (length y.0 ≡ 0) × AllByRecursion (λ s. is_slot s ≡ true) y.0 × (text ≡ words (flat_map slot_words y.0 ++ y.1 ∷ []))) (same_Some ([], text) x e) (refl, tt, refl)
slots_off_take (suc k) text x e =
    let a = bind_some (slot_off text) (λ slot. slots_off k slot.1 >>= λ others. Some (slot.0 ∷ others.0, others.1)) x e in
    let b = bind_some (slots_off k a.0.1) (λ others. Some (a.0.0 ∷ others.0, others.1)) x a.2 in
    let first = slot_off_takes text a.0 a.1 in
    let others = slots_off_take k a.0.1 b.0 b.1 in
    let made : List Slot × Text = (a.0.0 ∷ b.0.0, b.0.1) in
    subst (λ (y : List Slot × Text). (length y.0 ≡ suc k) × AllByRecursion (λ s. is_slot s ≡ true) y.0 × (text ≡ words (flat_map slot_words y.0 ++ y.1 ∷ []))) (same_Some made x b.2) (
      ap suc others.0,
      (first.0, others.1),
      first.1 ∙ ap (λ (t : Text). date_text a.0.0.day ++ 32 ∷ (time_text a.0.0.start ++ 32 ∷ t)) others.2
          ∙ ap (λ (t : Text). date_text a.0.0.day ++ 32 ∷ t) (sym (words-cons (time_text a.0.0.start) (flat_map slot_words b.0.0) b.0.1)),
    )

pub slots_off_again : (ss : List Slot) (rest : Text) → AllByRecursion (λ s. is_slot s ≡ true) ss → slots_off (length ss) (words (flat_map slot_words ss ++ rest ∷ [])) ≡ Some (ss, rest)
unfolding slots_off
slots_off_again [] rest h = refl
slots_off_again (s ∷ ss) rest h =
    let ts = flat_map slot_words ss in
    let line : words (flat_map slot_words (s ∷ ss) ++ rest ∷ []) ≡ date_text s.day ++ 32 ∷
    (time_text s.start ++ 32 ∷ words (ts ++ rest ∷ [])) = ap (λ (t : Text). date_text s.day ++ 32 ∷ t) (words-cons (time_text s.start) ts rest) in
    ap (slots_off (suc (length ss))) line
    ∙ ap (λ o. o >>= λ (slot : Slot × Text). slots_off (length ss) slot.1 >>= λ others. Some (slot.0 ∷ others.0, others.1)) (slot_off_again s (words (ts ++ rest ∷ [])) h.0)
    ∙ ap (λ o. o >>= λ (others : List Slot × Text). Some (s ∷ others.0, others.1)) (slots_off_again ss rest h.1)

-- ---- what calls of the base types answer

pub ok_part : {A E : Type 0} (o : Option A) (e : E) → result_ok (ok_or o e) ≡ o
ok_part (Some x) e = refl
ok_part None e = refl
