-- Each line of a batch and of a position is ASCII, and so it is text.
use Rattle.std.proofs.Common.{◌≡◌, refl, sym, subst, ℕ, ◌+◌, ◌-◌, ◌%◌, ◌^◌, ◌<◌, ◌≤◌, Bool, true, not, ◌||◌, eqb, leb}
use Rattle.std.proofs.Common.{List, [], ◌∷◌, length, ◌⊎◌, inl, inr, Option, Some, None, arith, lit<, leb-true, eqb-true}
use Rattle.std.proofs.lemmas.Bool.{and_parts, or_cases}
use Rattle.std.proofs.lemmas.Fmt.{decimal_by_steps}
use Rattle.std.proofs.lemmas.Str.{IsUtf8-from_ascii}
use Rattle.std.proofs.lemmas.Str.Ascii.{IsAscii-nil, IsAscii-cons}
use Rattle.std.specs.Prelude.{flat_map, codes, slice_index}
use Rattle.std.specs.Str.{IsAscii, IsUtf8}
use Rattle.std.specs.Fmt.{decimal}
use Rattle.std.specs.List.{AllByRecursion, list_all}
use Rattle.mr_model.specs.Texts.{Text, within}
use Rattle.mr_model.specs.Calendar.{is_date, date_text, time_text}
use Rattle.mr_model.specs.Slots.{Slot, is_slot, slot_words}
use Rattle.mr_model.specs.Writes.{Stamp, Meeting, Action, Books, Cancels, is_write, is_stamp, is_meeting, is_action, is_id, is_server, is_count}
use Rattle.mr_model.specs.Writes.{is_commit_number, is_room_byte, is_room_name, is_title, choices_of, greatest_count, greatest_time}
use Rattle.mr_model.specs.Exchange.{Version, First, Second, Heading, Item, W, C, BodyLine, ItemLine, LastLine, Complete, More, Cut, is_heading, is_in_version, is_item}
use Rattle.mr_model.specs.Exchange.{version_word, heading_line, heading_in, stamp_words, meeting_words, target_words, write_words_of, item_line, read_header, read_body_line}
use Rattle.mr_model.proofs.WordsReadBack.{all_append}
use Rattle.mr_model.proofs.LinesReadBack.{within-high, small, stamp_facts, meeting_facts, id_facts, write_parts, slots_all}
use Rattle.mr_model.proofs.BatchesReadBack.{own_text, IsLineOf, body_line_of}
use Rattle.mr_model.proofs.LowBytes.{words_low, time_low, date_low, Low}

is_ascii : (t : Text) → Low t → IsAscii t
is_ascii [] h = IsAscii-nil
is_ascii (c ∷ cs) h = IsAscii-cons c cs h.0 (is_ascii cs h.1)

pub is_text : (t : Text) → Low t → IsUtf8 t
is_text t h = IsUtf8-from_ascii t (is_ascii t h)

decimal_low : (n : ℕ) → n < 2 ^ 64 → Low (decimal n)
decimal_low = decimal_by_steps (λ n ds. Low ds) (λ n low. (omega (arith, low), tt)) (λ n ds high h. all_append (λ c. c < 128) ds ((48 + n % 10) ∷ []) h (omega arith, tt))

pub number_low : (n g : ℕ) → n ≤ g → g < 2 ^ 64 → Low (decimal n)
number_low n g a b = decimal_low n (small n g a b)

room_byte_low : (c : ℕ) → is_room_byte c ≡ true → c < 128
room_byte_low c h = go (or_cases (within 97 122 c || within 48 57 c) (eqb c 45) h)
  where
    letter_or_digit : (within 97 122 c ≡ true) ⊎ (within 48 57 c ≡ true) → c < 128
    letter_or_digit (inl e) = let m = within-high 97 122 c e in omega (arith, m)
    letter_or_digit (inr e) = let m = within-high 48 57 c e in omega (arith, m)

    go : ((within 97 122 c || within 48 57 c) ≡ true) ⊎ (eqb c 45 ≡ true) → c < 128
    go (inl e) = letter_or_digit (or_cases (within 97 122 c) (within 48 57 c) e)
    go (inr e) = let m = eqb-true c 45 e in omega (arith, m)

all_low : (test : ℕ → Bool) → ((c : ℕ) → test c ≡ true → c < 128) → (t : Text) → list_all test t ≡ true → Low t
all_low test f [] h = tt
all_low test f (c ∷ cs) h = let p = and_parts (test c) (list_all test cs) h in (f c p.0, all_low test f cs p.1)

room_low : (t : Text) → is_room_name t ≡ true → Low t
room_low t h = all_low is_room_byte room_byte_low t (and_parts (within 1 16 (length t)) (list_all is_room_byte t) h).1

title_low : (t : Text) → is_title t ≡ true → Low t
title_low t h =
    let a = and_parts _ (not (eqb (slice_index t (length t - 1)) 32)) h in
    let b = and_parts _ (not (eqb (slice_index t 0) 32)) a.0 in
    all_low (λ c. within 32 126 c) (λ c e. let m = within-high 32 126 c e in omega (arith, m)) t (and_parts (within 1 60 (length t)) (list_all (λ c. within 32 126 c) t) b.0).1

slot_low : (s : Slot) → is_slot s ≡ true → Low (date_text s.day) × Low (time_text s.start)
slot_low s ok = let p = and_parts (is_date s.day) (leb s.start 1439) ok in (date_low s.day p.0, time_low s.start (leb-true s.start 1439 p.1))

slots_low : (ss : List Slot) → AllByRecursion (λ s. is_slot s ≡ true) ss → AllByRecursion Low (flat_map slot_words ss)
slots_low [] h = tt
slots_low (s ∷ ss) h = let p = slot_low s h.0 in (p.0, (p.1, slots_low ss h.1))

stamp_low : (kind : Text) → Low kind → (stamp : Stamp) → is_stamp stamp ≡ true → (room : Text) → is_room_name room ≡ true
    → (rest : List Text) → AllByRecursion Low rest → AllByRecursion Low (stamp_words kind stamp room rest)
stamp_low kind k stamp ok room named rest r =
    let f = stamp_facts stamp ok in
    (k, (number_low stamp.server 99 f.server (lit< tt), (number_low stamp.n greatest_count f.n (lit< tt), (number_low stamp.time greatest_time f.time (lit< tt), (room_low room named, r)))))

meeting_low : (m : Meeting) → is_meeting m ≡ true → AllByRecursion Low (meeting_words m)
meeting_low m ok =
    let f = meeting_facts m ok in
    let all : AllByRecursion (λ s. is_slot s ≡ true) (choices_of m) = slots_all m.length (choices_of m) f.slots in
    let wish = slot_low m.wish all.0 in (
      number_low m.length 1440 f.long (lit< tt),
      (
        wish.0,
        (
          wish.1,
          (
            number_low (length m.alternatives) 16 f.few (lit< tt),
            all_append Low (flat_map slot_words m.alternatives) (m.title ∷ []) (slots_low m.alternatives all.1) (title_low m.title f.title, tt),
          ),
        ),
      ),
    )

action_low : (stamp : Stamp) → is_stamp stamp ≡ true → (room : Text) → is_room_name room ≡ true → (a : Action) → is_action a ≡ true → AllByRecursion Low (write_words_of stamp room a)
action_low stamp ok room named (Books m) good = stamp_low (codes "W") (lit< tt, tt) stamp ok room named (meeting_words m) (meeting_low m good)
action_low stamp ok room named (Cancels t) good =
    let f = id_facts t good in
    stamp_low (codes "X") (lit< tt, tt) stamp ok room named (target_words t) (number_low t.server 99 f.0 (lit< tt), (number_low t.n greatest_count f.1 (lit< tt), tt))

item_low : (v : Version) (x : Item) → is_item v x ≡ true → Low (item_line x)
item_low v (W w) ok =
    let p = write_parts w (and_parts (is_write w) (is_in_version v w) ok).0 in
    words_low (write_words_of w.stamp w.room w.action) (action_low w.stamp p.0 w.room p.1 w.action p.2)
item_low v (C q id) ok =
    let a = and_parts (is_commit_number q) (is_id id) ok in
    let b = and_parts (is_server id.server) (is_count id.n) a.1 in
    words_low (codes "C" ∷ decimal q ∷ decimal id.server ∷ decimal id.n ∷ []) (
      (lit< tt, tt),
      (
        number_low q 999_999_999_999 (within-high 1 999_999_999_999 q a.0) (lit< tt),
        (number_low id.server 99 (within-high 1 99 id.server b.0) (lit< tt), (number_low id.n 999_999_999 (within-high 1 999_999_999 id.n b.1) (lit< tt), tt)),
      ),
    )

version_low : (v : Version) → Low (version_word v)
version_low First = (lit< tt, (lit< tt, (lit< tt, tt)))
version_low Second = (lit< tt, (lit< tt, (lit< tt, tt)))

heading_low : (h : Heading) → is_heading h ≡ true → Low (heading_line h)
heading_low h ok =
    let a = and_parts (is_server h.header.from) (is_server h.header.primary) ok in
    words_low (version_word h.version ∷ decimal h.header.from ∷ decimal h.header.primary ∷ [])
    (version_low h.version, (number_low h.header.from 99 (within-high 1 99 h.header.from a.0) (lit< tt), (number_low h.header.primary 99 (within-high 1 99 h.header.primary a.1) (lit< tt), tt)))

-- what isn't text is no header, and no line below it
pub no_header : (bytes : Text) → (IsUtf8 bytes → ⊥) → read_header bytes ≡ None
no_header bytes bad = go (read_header bytes) refl
  where
    go : (o : Option Heading) → read_header bytes ≡ o → read_header bytes ≡ None
    go None e = e
    go (Some h) e =
        let own = own_text is_heading heading_line (heading_in bytes) h bytes e in
        absurd (bad (subst IsUtf8 own.1 (is_text (heading_line h) (heading_low h own.0))))

pub no_body_line : (v : Version) (bytes : Text) → (IsUtf8 bytes → ⊥) → read_body_line v bytes ≡ None
no_body_line v bytes bad = go (read_body_line v bytes) refl (body_line_of v bytes)
  where
    only_line : (t u : Text) → t ∷ [] ≡ u ∷ [] → t ≡ u
    only_line t u e = cc

    go : (o : Option BodyLine) → read_body_line v bytes ≡ o → IsLineOf v bytes (read_body_line v bytes) → read_body_line v bytes ≡ None
    go None e t = e
    go (Some (ItemLine x)) e t = let own = subst (λ o. IsLineOf v bytes o) e t in absurd (bad (subst IsUtf8 (sym own.1) (is_text (item_line x) (item_low v x own.0))))
    go (Some (LastLine Complete)) e t =
        let own : bytes ∷ [] ≡ codes "E" ∷ [] = subst (λ o. IsLineOf v bytes o) e t in
        absurd (bad (subst IsUtf8 (sym (only_line bytes (codes "E") own)) (is_text (codes "E") (lit< tt, tt))))
    go (Some (LastLine More)) e t =
        let own : bytes ∷ [] ≡ codes "M" ∷ [] = subst (λ o. IsLineOf v bytes o) e t in
        absurd (bad (subst IsUtf8 (sym (only_line bytes (codes "M") own)) (is_text (codes "M") (lit< tt, tt))))
    go (Some (LastLine Cut)) e t = let own : ◌≡◌ {A = List Text} (bytes ∷ []) [] = subst (λ o. IsLineOf v bytes o) e t in absurd (cc)
