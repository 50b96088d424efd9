-- A line is read as a step exactly where it is that step's line.
use Rattle.std.proofs.Common.{◌≡◌, refl, sym, ap, subst, ◌∙◌, ℕ, zero, suc, ◌^◌, ◌<◌, ◌≤◌, Bool, true, false, not, ◌&&◌, ◌||◌, leb, eqb, eqb-true}
use Rattle.std.proofs.Common.{ne_eqb, ◌⊎◌, inl, inr, List, [], ◌∷◌, ◌++◌, length, take, arith, le-leb, leb-true, lit<, Option, Some, None}
use Rattle.std.proofs.lemmas.Bool.{and_parts, and_from, false≢true, lt-leb, not-true, cond-true, cond-false, cases_Bool, false_from_ne_true}
use Rattle.std.proofs.lemmas.Option.{none-some, same_Some}
use Rattle.std.proofs.lemmas.Fmt.{decimal_is_IsNumeral}
use Rattle.std.proofs.lemmas.List.Splits.{join_with_byte-slice_split, slice_split_at, slice_split_none}
use Rattle.std.proofs.lemmas.List.Sums.{AllPass-from_list_all}
use Rattle.std.proofs.lemmas.Str.{IsUtf8-from_ascii}
use Rattle.std.proofs.lemmas.Str.Parse.{digit_from_value}
use Rattle.std.specs.Str.Parse.{AllDigits}
use Rattle.std.specs.Prelude.{MatchOption, IfOk, Result, Ok, Err, nat_le, slice_index}
use Rattle.std.specs.Str.{IsUtf8}
use Rattle.std.proofs.lemmas.Slice.Eq.{bytes_eq-Decides}
use Rattle.std.specs.Prelude.{codes, decimal, flat_map, if◌then◌else◌}
use Rattle.std.specs.Str.{bytes_eq}
use Rattle.std.specs.List.{All, list_all, slice_split}
use Rattle.mr_model.specs.Texts.{Text, is_space, words, within}
use Rattle.mr_model.specs.Writes.{is_server}
use Rattle.mr_model.specs.Replies.{CalendarPart, Full, Committed, part_text}
use Rattle.mr_model.specs.View.{AskSheet, AskCalendar, AskOutcome, AskErrors}
use Rattle.mr_model.specs.Step.{Command, AddRoom, Submit, Cancel, Receive, Commit, Truncate, AskPosition, BatchFor, Ask, Submission, SlotWords}
use Rattle.mr_model.specs.World.{Step, Add, Make, Deliver}
use Rattle.mr_model.proofs.LinesReadBack.{words-cons}
use Rattle.mr_base.specs.Readings.{number_from_to}
use Rattle.mr_base.proofs.Decimals.{within-below}
use Rattle.mr_wire.specs.Fields.{◌>>=◌}
use Rattle.mr_wire.proofs.FieldLaws.{bind_some}
use Rattle.mr_words.specs.CommandTable.{add_room_asked, commit_number_in, in_row, line_count_in, part_in, server_in, shared_commands}
use Rattle.mr_words.specs.CommandSpelling.{spelled, may_be_spelled}
use Rattle.mr_words.proofs.TableRows.{EachRow, by_rows, each_behind, each_then, if_some}
use Rattle.mr_words.proofs.CommandsSpelled.{IsSpelled, is_shared, number_from_parts, shared_spelled}
use Rattle.mr_words.proofs.CommandsReadBack.{count_back}
use Rattle.mr_tasks.specs.RehearsalScript.{is_word, words_of_slot, booking_words, all_bytes, length_word, is_byte_count, script_spelled, step_words}
use Rattle.mr_tasks.specs.RehearsalScript.{step_line, are_slot_words, is_submission, has_words, has_line, is_printable, IsScriptLine}
use Rattle.mr_tasks.specs.LineSteps.{cut_first_word, cut_server, cut_slot, with_slot, cut_slots, number_of_slots, submission_cut, book_step, replica_step}
use Rattle.mr_tasks.specs.LineSteps.{batch_step, batch_number_in, byte_count_in, deliver_step, script_commands, at_server, script_rows, row_step, step_in}
use Rattle.mr_tasks.proofs.WordLaws.{cut_of, cut_parts, number_from_decimal, decimal_word}

-- ---- numbers of bytes

or_none_right : (a b : Bool) → b ≡ false → (a || b) ≡ true → a ≡ true
or_none_right true b e h = refl
or_none_right false b e h = sym e ∙ h

-- a number of bytes is not the one that stands for all
not_all : (n : ℕ) → within 0 999_999_999 n ≡ true → eqb n all_bytes ≡ false
not_all n h = ne_eqb n all_bytes (λ e. false≢true (sym (ap (within 0 999_999_999) e) ∙ h))

-- ---- what was read stands in the text

cut_server_parts : (t : Text) (s : ℕ) (rest : Text) → cut_server t ≡ Some (s, rest) → (is_server s ≡ true) × (t ≡ decimal s ++ 32 ∷ rest)
cut_server_parts t s rest e =
    let (p, is_cut, more) = bind_some (cut_first_word t) (λ p. (server_in p.0 >>= λ n. Some (n, p.1))) (s, rest) e in
    let (n, is_server_word, last) = bind_some (server_in p.0) (λ n. Some (n, p.1)) (s, rest) more in
    let same = same_Some (n, p.1) (s, rest) last in
    let number = number_from_parts 1 99 p.0 n is_server_word in
    let found = cut_parts t p.0 p.1 is_cut in (
      sym (ap (λ (q : ℕ × Text). is_server q.0) same) ∙ number.0,
      found.1 ∙ ap (λ (u : Text). u ++ 32 ∷ p.1) number.1 ∙ ap (λ (q : ℕ × Text). decimal q.0 ++ 32 ∷ q.1) same,
    )

cut_slot_parts : (t : Text) (s : SlotWords) (rest : Text) → cut_slot t ≡ Some (s, rest) → (are_slot_words s ≡ true) × (t ≡ s.day ++ 32 ∷ (s.time ++ 32 ∷ rest))
cut_slot_parts t s rest e =
    let (p, day_cut, more) = bind_some (cut_first_word t) (λ p. (cut_first_word p.1 >>= λ q. Some (record { day = p.0; time = q.0 }, q.1))) (s, rest) e in
    let (q, time_cut, last) = bind_some (cut_first_word p.1) (λ q. Some (record { day = p.0; time = q.0 }, q.1)) (s, rest) more in
    let same : (record { day = p.0; time = q.0 }, q.1) ≡ (s, rest) = same_Some (record { day = p.0; time = q.0 }, q.1) (s, rest) last in
    let day = cut_parts t p.0 p.1 day_cut in
    let time = cut_parts p.1 q.0 q.1 time_cut in (
      sym (ap (λ (r : SlotWords × Text). are_slot_words r.0) same) ∙ and_from (is_word p.0) (is_word q.0) day.0 time.0,
      day.1 ∙ ap (λ (u : Text). p.0 ++ 32 ∷ u) time.1 ∙ ap (λ (r : SlotWords × Text). r.0.day ++ 32 ∷ (r.0.time ++ 32 ∷ r.1)) same,
    )

record AreSlots (k : ℕ) (t : Text) (slots : List SlotWords) (rest : Text) : Type 0 where
  counted : length slots ≡ k
  all_words : list_all are_slot_words slots ≡ true
  spelled : t ≡ words (flat_map words_of_slot slots ++ rest ∷ [])

slot_line : (s : SlotWords) (ss : List SlotWords) (rest : Text) → words (flat_map words_of_slot (s ∷ ss) ++ rest ∷ []) ≡ s.day ++ 32 ∷ (s.time ++ 32 ∷ words (flat_map words_of_slot ss ++ rest ∷ []))
slot_line s ss rest = ap (λ (u : Text). s.day ++ 32 ∷ u) (words-cons s.time (flat_map words_of_slot ss) rest)

cut_slots_parts : (k : ℕ) (t : Text) (slots : List SlotWords) (rest : Text) → cut_slots k t ≡ Some (slots, rest) → AreSlots k t slots rest
cut_slots_parts zero t slots rest e =
    let same : ([], t) ≡ (slots, rest) = same_Some ([], t) (slots, rest) e in
    record {
      counted = sym (ap (λ (p : List SlotWords × Text). length p.0) same);
      all_words = sym (ap (λ (p : List SlotWords × Text). list_all are_slot_words p.0) same);
      spelled = ap (λ (p : List SlotWords × Text). words (flat_map words_of_slot p.0 ++ p.1 ∷ [])) same;
    }
cut_slots_parts (suc k) t slots rest e =
    let (p, slot_cut, more) = bind_some (cut_slot t) (λ p. with_slot p.0 (cut_slots k p.1)) (slots, rest) e in
    let (q, others_cut, last) = bind_some (cut_slots k p.1) (λ q. Some (p.0 ∷ q.0, q.1)) (slots, rest) more in
    let same : (p.0 ∷ q.0, q.1) ≡ (slots, rest) = same_Some (p.0 ∷ q.0, q.1) (slots, rest) last in
    let slot = cut_slot_parts t p.0 p.1 slot_cut in
    let others = cut_slots_parts k p.1 q.0 q.1 others_cut in
    record {
      counted = sym (ap (λ (r : List SlotWords × Text). length r.0) same) ∙ ap suc others.counted;
      all_words = sym (ap (λ (r : List SlotWords × Text). list_all are_slot_words r.0) same) ∙ and_from (are_slot_words p.0) (list_all are_slot_words q.0) slot.0 others.all_words;
      spelled =
          slot.1 ∙ ap (λ (u : Text). p.0.day ++ 32 ∷ (p.0.time ++ 32 ∷ u)) others.spelled ∙ sym (slot_line p.0 q.0 q.1)
          ∙ ap (λ (r : List SlotWords × Text). words (flat_map words_of_slot r.0 ++ r.1 ∷ [])) same;
    }

number_of_slots_parts : (t : Text) (k : ℕ) (rest : Text) → number_of_slots t ≡ Some (k, rest) → (leb k 99 ≡ true) × (t ≡ decimal k ++ 32 ∷ rest)
number_of_slots_parts t k rest e =
    let (p, is_cut, more) = bind_some (cut_first_word t) (λ p. (number_from_to 0 99 p.0 >>= λ n. Some (n, p.1))) (k, rest) e in
    let (n, is_number, last) = bind_some (number_from_to 0 99 p.0) (λ n. Some (n, p.1)) (k, rest) more in
    let same = same_Some (n, p.1) (k, rest) last in
    let number = number_from_parts 0 99 p.0 n is_number in
    let found = cut_parts t p.0 p.1 is_cut in (
      sym (ap (λ (q : ℕ × Text). leb q.0 99) same) ∙ (and_parts (leb 0 n) (leb n 99) number.0).1,
      found.1 ∙ ap (λ (u : Text). u ++ 32 ∷ p.1) number.1 ∙ ap (λ (q : ℕ × Text). decimal q.0 ++ 32 ∷ q.1) same,
    )

booking_line : (b : Submission) → words (booking_words b) ≡ b.room ++ 32 ∷
    (b.length ++ 32 ∷ (b.wish.day ++ 32 ∷ (b.wish.time ++ 32 ∷ (decimal (length b.alternatives) ++ 32 ∷ words (flat_map words_of_slot b.alternatives ++ b.title ∷ [])))))
booking_line b =
    ap (λ (u : Text). b.room ++ 32 ∷ (b.length ++ 32 ∷ (b.wish.day ++ 32 ∷ (b.wish.time ++ 32 ∷ u))))
    (words-cons (decimal (length b.alternatives)) (flat_map words_of_slot b.alternatives) b.title)

booking_parts : (t : Text) (b : Submission) → submission_cut t ≡ Some b → (is_submission b ≡ true) × (t ≡ words (booking_words b))
booking_parts t b e =
    let others_in = λ (room minutes : Text × Text) (wish : SlotWords × Text) (k : ℕ × Text).
    (cut_slots k.0 k.1 >>= λ o. Some (record { room = room.0; title = o.1; length = minutes.0; wish = wish.0; alternatives = o.0 })) in
    let (room, room_cut, e1) = bind_some (cut_first_word t)
    (λ room. (cut_first_word room.1 >>= λ minutes. (cut_slot minutes.1 >>= λ wish. (number_of_slots wish.1 >>= λ k. others_in room minutes wish k)))) b e in
    let (minutes, minutes_cut, e2) = bind_some (cut_first_word room.1) (λ minutes. (cut_slot minutes.1 >>= λ wish. (number_of_slots wish.1 >>= λ k. others_in room minutes wish k))) b e1 in
    let (wish, wish_cut, e3) = bind_some (cut_slot minutes.1) (λ wish. (number_of_slots wish.1 >>= λ k. others_in room minutes wish k)) b e2 in
    let (k, k_cut, e4) = bind_some (number_of_slots wish.1) (λ k. others_in room minutes wish k) b e3 in
    let (o, o_cut, last) = bind_some (cut_slots k.0 k.1) (λ o. Some (record { room = room.0; title = o.1; length = minutes.0; wish = wish.0; alternatives = o.0 })) b e4 in
    let made : Submission = record { room = room.0; title = o.1; length = minutes.0; wish = wish.0; alternatives = o.0 } in
    let same : made ≡ b = same_Some made b last in
    let r = cut_parts t room.0 room.1 room_cut in
    let m = cut_parts room.1 minutes.0 minutes.1 minutes_cut in
    let w = cut_slot_parts minutes.1 wish.0 wish.1 wish_cut in
    let n = number_of_slots_parts wish.1 k.0 k.1 k_cut in
    let a = cut_slots_parts k.0 k.1 o.0 o.1 o_cut in (
      sym (ap is_submission same)
          ∙ and_from _ (list_all are_slot_words o.0)
          (and_from _ (leb (length o.0) 99) (and_from _ (are_slot_words wish.0) (and_from (is_word room.0) (is_word minutes.0) r.0 m.0) w.0) (ap (λ i. leb i 99) a.counted ∙ n.0))
          a.all_words,
      r.1 ∙ ap (λ (u : Text). room.0 ++ 32 ∷ u) (m.1 ∙ ap (λ (u : Text). minutes.0 ++ 32 ∷ u) (w.1 ∙ ap (λ (u : Text). wish.0.day ++ 32 ∷ (wish.0.time ++ 32 ∷ u))
          (n.1 ∙ ap (λ i. decimal i ++ 32 ∷ k.1) (sym a.counted) ∙ ap (λ (u : Text). decimal (length o.0) ++ 32 ∷ u) a.spelled)))
          ∙ sym (booking_line made) ∙ ap (λ x. words (booking_words x)) same,
    )

-- the line of a booking
book_parts : (t : Text) (s : Step) → book_step t ≡ Some s → (has_line s ≡ true) × (codes "book" ++ 32 ∷ t ≡ step_line s)
book_parts t s e =
    let (p, is_cut, more) = bind_some (cut_server t) (λ p. (submission_cut p.1 >>= λ b. Some (Step.Do p.0 (Submit b)))) s e in
    let (b, is_b, last) = bind_some (submission_cut p.1) (λ b. Some (Step.Do p.0 (Submit b))) s more in
    let same = same_Some (Step.Do p.0 (Submit b)) s last in
    let server = cut_server_parts t p.0 p.1 is_cut in
    let read = booking_parts p.1 b is_b in (
      sym (ap has_line same) ∙ and_from (is_submission b) (is_server p.0) read.0 server.0,
      ap (λ (u : Text). codes "book" ++ 32 ∷ u) server.1 ∙ ap (λ (u : Text). codes "book" ++ 32 ∷ (decimal p.0 ++ 32 ∷ u)) read.1 ∙ ap step_line same,
    )

-- ---- rows

-- words of a row that were read are those of the line of its step
abbrev AreOfLine : Text → List Text → Step → Type 0
AreOfLine name words s = list_all is_word words ≡ true → (has_line s ≡ true) × (name ∷ words ≡ step_words s)

replica_parts : (ws : List Text) (s : Step) → replica_step ws ≡ Some s → AreOfLine (codes "replica") ws s
replica_parts [] s e = absurd (none-some s e)
replica_parts (w ∷ []) s e = λ _.
    let (n, is_number, last) = bind_some (server_in w) (λ n. Some (Add n)) s e in
    let same = same_Some (Add n) s last in
    let number = number_from_parts 1 99 w n is_number in
    (sym (ap has_line same) ∙ number.0, ap (λ (u : Text). codes "replica" ∷ u ∷ []) number.1 ∙ ap step_words same)
replica_parts (w ∷ v ∷ ws) s e = absurd (none-some s e)

batch_parts : (ws : List Text) (s : Step) → batch_step ws ≡ Some s → AreOfLine (codes "batch") ws s
batch_parts [] s e = absurd (none-some s e)
batch_parts (w ∷ []) s e = absurd (none-some s e)
batch_parts (w ∷ v ∷ []) s e = absurd (none-some s e)
batch_parts (w ∷ v ∷ u ∷ []) s e = λ _.
    let (from, is_from, e1) = bind_some (server_in w) (λ f. (server_in v >>= λ t. (line_count_in u >>= λ n. Some (Make f t n)))) s e in
    let (to, is_to, e2) = bind_some (server_in v) (λ t. (line_count_in u >>= λ n. Some (Make from t n))) s e1 in
    let (n, is_n, last) = bind_some (line_count_in u) (λ n. Some (Make from to n)) s e2 in
    let same = same_Some (Make from to n) s last in
    let f = number_from_parts 1 99 w from is_from in
    let t = number_from_parts 1 99 v to is_to in
    let l = number_from_parts 1 100_000 u n is_n in (
      sym (ap has_line same) ∙ and_from (is_server from) (is_server to && within 1 100_000 n) f.0 (and_from (is_server to) (within 1 100_000 n) t.0 l.0),
      ap (λ (x : Text). codes "batch" ∷ x ∷ v ∷ u ∷ []) f.1 ∙ ap (λ (x : Text). codes "batch" ∷ decimal from ∷ x ∷ u ∷ []) t.1
          ∙ ap (λ (x : Text). codes "batch" ∷ decimal from ∷ decimal to ∷ x ∷ []) l.1 ∙ ap step_words same,
    )
batch_parts (w ∷ v ∷ u ∷ x ∷ ws) s e = absurd (none-some s e)

-- a length that was read is one, and is written so
length_parts : (t : Text) (n : ℕ) → byte_count_in t ≡ Some n → (is_byte_count n ≡ true) × (t ≡ length_word n)
length_parts t n e =
    if_some (bytes_eq t (codes "all")) (Some all_bytes) _ n e
    (λ is f. (sym (ap is_byte_count (same_Some all_bytes n f)), (bytes_eq-Decides t (codes "all")).0 is ∙ ap length_word (same_Some all_bytes n f)))
    (λ _ f. let number = number_from_parts 0 999_999_999 t n f in
    (ap (λ b. b || eqb n all_bytes) number.0, number.1 ∙ sym (cond-false (eqb n all_bytes) (codes "all") (decimal n) (not_all n number.0))))

deliver_parts : (ws : List Text) (s : Step) → deliver_step ws ≡ Some s → AreOfLine (codes "deliver") ws s
deliver_parts [] s e = absurd (none-some s e)
deliver_parts (w ∷ []) s e = absurd (none-some s e)
deliver_parts (w ∷ v ∷ []) s e = absurd (none-some s e)
deliver_parts (w ∷ v ∷ u ∷ []) s e = λ _.
    let (batch, is_batch, e1) = bind_some (batch_number_in w) (λ b. (server_in v >>= λ t. (byte_count_in u >>= λ n. Some (Deliver b t n)))) s e in
    let (to, is_to, e2) = bind_some (server_in v) (λ t. (byte_count_in u >>= λ n. Some (Deliver batch t n))) s e1 in
    let (n, is_n, last) = bind_some (byte_count_in u) (λ n. Some (Deliver batch to n)) s e2 in
    let same = same_Some (Deliver batch to n) s last in
    let b = number_from_parts 0 999_999_999 w batch is_batch in
    let t = number_from_parts 1 99 v to is_to in
    let l = length_parts u n is_n in (
      sym (ap has_line same) ∙ and_from (within 0 999_999_999 batch) (is_server to && is_byte_count n) b.0 (and_from (is_server to) (is_byte_count n) t.0 l.0),
      ap (λ (x : Text). codes "deliver" ∷ x ∷ v ∷ u ∷ []) b.1 ∙ ap (λ (x : Text). codes "deliver" ∷ decimal batch ∷ x ∷ u ∷ []) t.1
          ∙ ap (λ (x : Text). codes "deliver" ∷ decimal batch ∷ decimal to ∷ x ∷ []) l.1 ∙ ap step_words same,
    )
deliver_parts (w ∷ v ∷ u ∷ x ∷ ws) s e = absurd (none-some s e)

-- the same of a command and the words behind the replica
abbrev AreOfCommand : Text → List Text → Command → Type 0
AreOfCommand name words c = list_all is_word words ≡ true → (has_words c ≡ true) × ((name, words) ≡ script_spelled c)

room_parts : (ws : List Text) (c : Command) → add_room_asked ws ≡ Some c → AreOfCommand (codes "room") ws c
room_parts [] c e = absurd (none-some c e)
room_parts (room ∷ []) c e = λ all_words.
    let same = same_Some (AddRoom room) c e in
    (sym (ap has_words same) ∙ (and_parts (is_word room) true all_words).0, ap script_spelled same)
room_parts (w ∷ v ∷ ws) c e = absurd (none-some c e)

-- a command whose words are shared has those of command lines
shared_words : (c : Command) → is_shared c ≡ true
    → (script_spelled c ≡ spelled c) × (has_words c ≡ (may_be_spelled c && list_all is_word (spelled c).1))
shared_words (AddRoom room) h = absurd (false≢true h)
shared_words (Submit b) h = absurd (false≢true h)
shared_words (Cancel room id) h = (refl, refl)
shared_words (Receive bytes) h = (refl, refl)
shared_words (Commit count) h = (refl, refl)
shared_words (Truncate count) h = (refl, refl)
shared_words AskPosition h = (refl, refl)
shared_words (BatchFor position max_lines) h = (refl, refl)
shared_words (Ask room question) h = (refl, refl)

shared_parts : (name : Text) (ws : List Text) (c : Command) → IsSpelled name ws c → AreOfCommand name ws c
shared_parts name ws c is = λ all_words.
    let same = shared_words c is.shared in (
      same.1 ∙ and_from (may_be_spelled c) (list_all is_word (spelled c).1) is.may_be (ap (λ p. list_all is_word p.1) (sym is.so) ∙ all_words),
      is.so ∙ sym same.0,
    )

server_parts : (name word : Text) (ws : List Text) (n : ℕ) (c : Command) → server_in word ≡ Some n → AreOfCommand name ws c
    → AreOfLine name (word ∷ ws) (Step.Do n c)
server_parts name word ws n c is parts = λ all_words.
    let number = number_from_parts 1 99 word n is in
    let found = parts (and_parts (is_word word) (list_all is_word ws) all_words).1 in (
      and_from (has_words c) (is_server n) found.0 number.0,
      ap (λ (w : Text). name ∷ w ∷ ws) number.1 ∙ ap (λ (p : Text × List Text). p.0 ∷ decimal n ∷ p.1) found.1,
    )

each_parts : EachRow AreOfLine script_rows
each_parts = (
  replica_parts,
  (
    batch_parts,
    (
      deliver_parts,
      each_behind server_in Step.Do AreOfCommand AreOfLine server_parts script_commands
          (room_parts, each_then IsSpelled AreOfCommand shared_parts shared_commands shared_spelled),
    ),
  ),
)

row_parts : (ws : List Text) (s : Step) → row_step ws ≡ Some s → (has_line s ≡ true) × (ws ≡ step_words s)
row_parts [] s e = absurd (none-some s e)
row_parts (name ∷ ws) s e =
    if_some (nat_le (length ws) 3 && list_all is_word ws) (in_row script_rows name ws) None s e
    (λ tests f. by_rows AreOfLine script_rows each_parts name ws s f (and_parts (nat_le (length ws) 3) (list_all is_word ws) tests).1)
    (λ _ f. absurd (none-some s f))

-- a line of more words has no row, so that five words are enough
pub five_words : (ws : List Text) → row_step (take 5 ws) ≡ row_step ws
five_words [] = refl
five_words (a ∷ []) = refl
five_words (a ∷ b ∷ []) = refl
five_words (a ∷ b ∷ c ∷ []) = refl
five_words (a ∷ b ∷ c ∷ d ∷ []) = refl
five_words (a ∷ b ∷ c ∷ d ∷ e ∷ ws) =
    let long : nat_le (length (b ∷ c ∷ d ∷ e ∷ ws)) 3 ≡ false = lt-leb (length (b ∷ c ∷ d ∷ e ∷ ws)) 3 (omega arith) in
    sym (cond-false (nat_le (length (b ∷ c ∷ d ∷ e ∷ ws)) 3 && list_all is_word (b ∷ c ∷ d ∷ e ∷ ws)) (in_row script_rows a (b ∷ c ∷ d ∷ e ∷ ws)) None
    (ap (λ t. t && list_all is_word (b ∷ c ∷ d ∷ e ∷ ws)) long))

row_line : (line : Text) (s : Step) → row_step (slice_split is_space line) ≡ Some s → (has_line s ≡ true) × (line ≡ step_line s)
row_line line s e =
    let parts = row_parts (slice_split is_space line) s e in
    (parts.0, sym (join_with_byte-slice_split 32 line) ∙ ap words parts.1)

-- the step of a line whose first word and rest are these
abbrev name_step : Text → Text × Text → Option Step
name_step line p = if bytes_eq p.0 (codes "book") then book_step p.1 else row_step (slice_split is_space line)

-- a line that was read is the line of its step
pub step_in_parts : (line : Text) (s : Step) → step_in line ≡ Some s → (has_line s ≡ true) × (line ≡ step_line s)
step_in_parts line s e =
    let (p, is_cut, more) = bind_some (cut_first_word line) (name_step line) s e in
    if_some (bytes_eq p.0 (codes "book")) (book_step p.1) (row_step (slice_split is_space line)) s more
    (λ books f. let parts = book_parts p.1 s f in
    (parts.0, (cut_parts line p.0 p.1 is_cut).1 ∙ ap (λ (u : Text). u ++ 32 ∷ p.1) ((bytes_eq-Decides p.0 (codes "book")).0 books) ∙ parts.1))
    (λ _ f. row_line line s f)

-- ---- what stands in the text is read

bound : {A B : Type 0} (o : Option A) (x : A) (f : A → Option B) → o ≡ Some x → (o >>= f) ≡ f x
bound o x f e = ap (λ p. p >>= f) e

server_small : (s : ℕ) → is_server s ≡ true → s < 2 ^ 64
server_small s h = within-below 1 99 s h (lit< tt)

server_word : (s : ℕ) → is_server s ≡ true → server_in (decimal s) ≡ Some s
server_word s h = number_from_decimal 1 99 s h (server_small s h)

cut_server_of : (s : ℕ) (rest : Text) → is_server s ≡ true → cut_server (decimal s ++ 32 ∷ rest) ≡ Some (s, rest)
cut_server_of s rest h =
    bound (cut_first_word (decimal s ++ 32 ∷ rest)) (decimal s, rest) (λ p. (server_in p.0 >>= λ n. Some (n, p.1))) (cut_of (decimal s) rest (decimal_word s (server_small s h)))
    ∙ bound (server_in (decimal s)) s (λ n. Some (n, rest)) (server_word s h)

cut_slot_of : (s : SlotWords) (rest : Text) → are_slot_words s ≡ true → cut_slot (s.day ++ 32 ∷ (s.time ++ 32 ∷ rest)) ≡ Some (s, rest)
cut_slot_of s rest h =
    let both = and_parts (is_word s.day) (is_word s.time) h in
    bound (cut_first_word (s.day ++ 32 ∷ (s.time ++ 32 ∷ rest))) (s.day, s.time ++ 32 ∷ rest)
    (λ p. (cut_first_word p.1 >>= λ q. Some (record { day = p.0; time = q.0 }, q.1))) (cut_of s.day (s.time ++ 32 ∷ rest) both.0)
    ∙ bound (cut_first_word (s.time ++ 32 ∷ rest)) (s.time, rest) (λ q. Some (record { day = s.day; time = q.0 }, q.1)) (cut_of s.time rest both.1)

cut_slots_of : (ss : List SlotWords) (rest : Text) → list_all are_slot_words ss ≡ true → cut_slots (length ss) (words (flat_map words_of_slot ss ++ rest ∷ [])) ≡ Some (ss, rest)
cut_slots_of [] rest h = refl
cut_slots_of (s ∷ ss) rest h =
    let both = and_parts (are_slot_words s) (list_all are_slot_words ss) h in
    let behind : Text = words (flat_map words_of_slot ss ++ rest ∷ []) in
    ap (cut_slots (suc (length ss))) (slot_line s ss rest)
    ∙ bound (cut_slot (s.day ++ 32 ∷ (s.time ++ 32 ∷ behind))) (s, behind) (λ p. with_slot p.0 (cut_slots (length ss) p.1)) (cut_slot_of s behind both.0)
    ∙ ap (with_slot s) (cut_slots_of ss rest both.1)

number_of_slots_of : (k : ℕ) (rest : Text) → leb k 99 ≡ true → number_of_slots (decimal k ++ 32 ∷ rest) ≡ Some (k, rest)
number_of_slots_of k rest h =
    let few : k ≤ 99 = leb-true k 99 h in
    let low : k < 2 ^ 64 = omega (arith, few) in
    bound (cut_first_word (decimal k ++ 32 ∷ rest)) (decimal k, rest) (λ p. (number_from_to 0 99 p.0 >>= λ n. Some (n, p.1))) (cut_of (decimal k) rest (decimal_word k low))
    ∙ bound (number_from_to 0 99 (decimal k)) k (λ n. Some (n, rest)) (number_from_decimal 0 99 k (and_from (leb 0 k) (leb k 99) (le-leb 0 k (omega arith)) h) low)

booking_of : (b : Submission) → is_submission b ≡ true → submission_cut (words (booking_words b)) ≡ Some b
booking_of b h =
    let a = and_parts _ (list_all are_slot_words b.alternatives) h in
    let n = and_parts _ (leb (length b.alternatives) 99) a.0 in
    let w = and_parts _ (are_slot_words b.wish) n.0 in
    let rm = and_parts (is_word b.room) (is_word b.length) w.0 in
    let u5 : Text = words (flat_map words_of_slot b.alternatives ++ b.title ∷ []) in
    let u4 : Text = decimal (length b.alternatives) ++ 32 ∷ u5 in
    let u3 : Text = b.wish.day ++ 32 ∷ (b.wish.time ++ 32 ∷ u4) in
    let u2 : Text = b.length ++ 32 ∷ u3 in
    let made = λ (room minutes : Text × Text) (wish : SlotWords × Text) (o : List SlotWords × Text). Some
    (record { room = room.0; title = o.1; length = minutes.0; wish = wish.0; alternatives = o.0 }) in
    ap submission_cut (booking_line b)
    ∙ bound (cut_first_word (b.room ++ 32 ∷ u2)) (b.room, u2) (λ room. (cut_first_word room.1
    >>= λ minutes. (cut_slot minutes.1 >>= λ wish. (number_of_slots wish.1 >>= λ k. (cut_slots k.0 k.1 >>= λ o. made room minutes wish o))))) (cut_of b.room u2 rm.0)
    ∙ bound (cut_first_word u2) (b.length, u3)
    (λ minutes. (cut_slot minutes.1 >>= λ wish. (number_of_slots wish.1 >>= λ k. (cut_slots k.0 k.1 >>= λ o. made (b.room, u2) minutes wish o)))) (cut_of b.length u3 rm.1)
    ∙ bound (cut_slot u3) (b.wish, u4) (λ wish. (number_of_slots wish.1 >>= λ k. (cut_slots k.0 k.1 >>= λ o. made (b.room, u2) (b.length, u3) wish o))) (cut_slot_of b.wish u4 w.1)
    ∙ bound (number_of_slots u4) (length b.alternatives, u5) (λ k. (cut_slots k.0 k.1 >>= λ o. made (b.room, u2) (b.length, u3) (b.wish, u4) o)) (number_of_slots_of (length b.alternatives) u5 n.1)
    ∙ bound (cut_slots (length b.alternatives) u5) (b.alternatives, b.title) (made (b.room, u2) (b.length, u3) (b.wish, u4)) (cut_slots_of b.alternatives b.title a.1)

-- a number is not written as the word `all`
number_not_all : (n : ℕ) → n < 2 ^ 64 → bytes_eq (decimal n) (codes "all") ≡ false
number_not_all n small =
    false_from_ne_true (bytes_eq (decimal n) (codes "all"))
    (λ e. let word : decimal n ≡ codes "all" = (bytes_eq-Decides (decimal n) (codes "all")).0 e in
    omega (arith, digit_from_value 97 (subst (AllDigits 10) word (decimal_is_IsNumeral n small).0.1).0))

-- a length is read from its word
length_of : (n : ℕ) → is_byte_count n ≡ true → byte_count_in (length_word n) ≡ Some n
length_of n h = go (cases_Bool (eqb n all_bytes))
  where
    go : (eqb n all_bytes ≡ true) ⊎ (eqb n all_bytes ≡ false) → byte_count_in (length_word n) ≡ Some n
    go (inl e) = ap byte_count_in (cond-true (eqb n all_bytes) (codes "all") (decimal n) e) ∙ ap (λ m. Some m) (sym (eqb-true n all_bytes e))
    go (inr e) =
        let number : within 0 999_999_999 n ≡ true = or_none_right (within 0 999_999_999 n) (eqb n all_bytes) e h in
        ap byte_count_in (cond-false (eqb n all_bytes) (codes "all") (decimal n) e)
        ∙ cond-false (bytes_eq (decimal n) (codes "all")) (Some all_bytes) (number_from_to 0 999_999_999 (decimal n)) (number_not_all n (within-below 0 999_999_999 n number (lit< tt)))
        ∙ number_from_decimal 0 999_999_999 n number (within-below 0 999_999_999 n number (lit< tt))

-- ---- lines of words

lacks_space : (w : Text) → is_word w ≡ true → All (λ c. is_space c ≡ false) w
lacks_space [] h = absurd (false≢true h)
lacks_space (c ∷ cs) h = λ k d low. not-true _ (AllPass-from_list_all (λ x. not (is_space x)) (c ∷ cs) h k d low)

-- words in a row are parted into just these
words_split : (w : Text) (ws : List Text) → list_all is_word (w ∷ ws) ≡ true → slice_split is_space (words (w ∷ ws)) ≡ w ∷ ws
words_split w [] h = slice_split_none is_space w (lacks_space w (and_parts (is_word w) true h).0)
words_split w (v ∷ ws) h =
    let both = and_parts (is_word w) (list_all is_word (v ∷ ws)) h in
    slice_split_at is_space w 32 (words (v ∷ ws)) (lacks_space w both.0) refl ∙ ap (λ (us : List Text). w ∷ us) (words_split v ws both.1)

-- a line of another name than a booking's is read by its row
row_of : (name w : Text) (ws : List Text) (s : Step) → bytes_eq name (codes "book") ≡ false → is_word name ≡ true → nat_le (length (w ∷ ws)) 3 ≡ true
    → list_all is_word (w ∷ ws) ≡ true → in_row script_rows name (w ∷ ws) ≡ Some s → step_in (words (name ∷ w ∷ ws)) ≡ Some s
row_of name w ws s other is few all_words e =
    let line : Text = words (name ∷ w ∷ ws) in
    bound (cut_first_word line) (name, words (w ∷ ws)) (name_step line) (cut_of name (words (w ∷ ws)) is)
    ∙ cond-false (bytes_eq name (codes "book")) (book_step (words (w ∷ ws))) (row_step (slice_split is_space line)) other
    ∙ ap row_step (words_split name (w ∷ ws) (and_from (is_word name) (list_all is_word (w ∷ ws)) is all_words))
    ∙ cond-true (nat_le (length (w ∷ ws)) 3 && list_all is_word (w ∷ ws)) (in_row script_rows name (w ∷ ws)) None (and_from _ _ few all_words)
    ∙ e

-- the line of a command to a replica
command_of : (server : ℕ) (name : Text) (ws : List Text) (c : Command) → is_server server ≡ true → bytes_eq name (codes "book") ≡ false → is_word name ≡ true
    → nat_le (suc (length ws)) 3 ≡ true → list_all is_word ws ≡ true → in_row script_rows name (decimal server ∷ ws) ≡ at_server (in_row script_commands name) (decimal server ∷ ws)
    → in_row script_commands name ws ≡ Some c → step_in (words (name ∷ decimal server ∷ ws)) ≡ Some (Step.Do server c)
command_of server name ws c h other is few all_words row e =
    row_of name (decimal server) ws (Step.Do server c) other is few (and_from (is_word (decimal server)) (list_all is_word ws) (decimal_word server (server_small server h)) all_words)
    (row ∙ bound (server_in (decimal server)) server (λ n. (in_row script_commands name ws >>= λ x. Some (Step.Do n x))) (server_word server h)
    ∙ bound (in_row script_commands name ws) c (λ x. Some (Step.Do server x)) e)

part_word : (part : CalendarPart) → part_in (part_text part) ≡ Some part
part_word Full = refl
part_word Committed = refl

-- the line of each command of the table is read as that command
command_line_of : (server : ℕ) (c : Command) → has_words c ≡ true → is_server server ≡ true → step_in (step_line (Step.Do server c)) ≡ Some (Step.Do server c)
command_line_of server (AddRoom room) h n = command_of server (codes "room") (room ∷ []) (AddRoom room) n refl refl refl (and_from (is_word room) true h refl) refl refl
command_line_of server (Submit b) h n =
    let rest : Text = words (booking_words b) in
    let line : Text = codes "book" ++ 32 ∷ (decimal server ++ 32 ∷ rest) in
    bound (cut_first_word line) (codes "book", decimal server ++ 32 ∷ rest) (name_step line) (cut_of (codes "book") (decimal server ++ 32 ∷ rest) refl)
    ∙ bound (cut_server (decimal server ++ 32 ∷ rest)) (server, rest) (λ p. (submission_cut p.1 >>= λ x. Some (Step.Do p.0 (Submit x)))) (cut_server_of server rest n)
    ∙ bound (submission_cut rest) b (λ x. Some (Step.Do server (Submit x))) (booking_of b h)
command_line_of server (Cancel room id) h n = command_of server (codes "cancel") (room ∷ id ∷ []) (Cancel room id) n refl refl refl h refl refl
command_line_of server (Receive bytes) h n = absurd (false≢true h)
command_line_of server (Commit count) h n =
    let both = and_parts (nat_le count 999_999_999_999) (list_all is_word (decimal count ∷ [])) h in
    command_of server (codes "commit") (decimal count ∷ []) (Commit count) n refl refl refl both.1 refl
    (bound (commit_number_in (decimal count)) count (λ k. Some (Commit k)) (count_back count (leb-true count 999_999_999_999 both.0)))
command_line_of server (Truncate count) h n =
    let both = and_parts (nat_le count 999_999_999_999) (list_all is_word (decimal count ∷ [])) h in
    command_of server (codes "truncate") (decimal count ∷ []) (Truncate count) n refl refl refl both.1 refl
    (bound (commit_number_in (decimal count)) count (λ k. Some (Truncate k)) (count_back count (leb-true count 999_999_999_999 both.0)))
command_line_of server AskPosition h n = command_of server (codes "position") [] AskPosition n refl refl refl refl refl refl
command_line_of server (BatchFor position max_lines) h n = absurd (false≢true h)
command_line_of server (Ask room (AskSheet day)) h n = command_of server (codes "sheet") (room ∷ day ∷ []) (Ask room (AskSheet day)) n refl refl refl h refl refl
command_line_of server (Ask room (AskCalendar part)) h n =
    command_of server (codes "calendar") (room ∷ part_text part ∷ []) (Ask room (AskCalendar part)) n refl refl refl h refl
    (bound (part_in (part_text part)) part (λ p. Some (Ask room (AskCalendar p))) (part_word part))
command_line_of server (Ask room (AskOutcome id)) h n = command_of server (codes "outcome") (room ∷ id ∷ []) (Ask room (AskOutcome id)) n refl refl refl h refl refl
command_line_of server (Ask room AskErrors) h n = command_of server (codes "errors") (room ∷ []) (Ask room AskErrors) n refl refl refl h refl refl

length_is_word : (n : ℕ) → is_byte_count n ≡ true → is_word (length_word n) ≡ true
length_is_word n h = go (cases_Bool (eqb n all_bytes))
  where
    go : (eqb n all_bytes ≡ true) ⊎ (eqb n all_bytes ≡ false) → is_word (length_word n) ≡ true
    go (inl e) = ap is_word (cond-true (eqb n all_bytes) (codes "all") (decimal n) e)
    go (inr e) =
        let number = or_none_right (within 0 999_999_999 n) (eqb n all_bytes) e h in
        ap is_word (cond-false (eqb n all_bytes) (codes "all") (decimal n) e) ∙ decimal_word n (within-below 0 999_999_999 n number (lit< tt))

-- the line of each step of the table is read as that step
pub step_in_of : (s : Step) → has_line s ≡ true → step_in (step_line s) ≡ Some s
step_in_of (Add server) h =
    row_of (codes "replica") (decimal server) [] (Add server) refl refl refl (and_from (is_word (decimal server)) true (decimal_word server (server_small server h)) refl)
    (bound (server_in (decimal server)) server (λ n. Some (Add n)) (server_word server h))
step_in_of (Step.Do server c) h =
    let both = and_parts (has_words c) (is_server server) h in
    command_line_of server c both.0 both.1
step_in_of (Make from to max_lines) h =
    let both = and_parts (is_server from) (is_server to && within 1 100_000 max_lines) h in
    let two = and_parts (is_server to) (within 1 100_000 max_lines) both.1 in
    let small = within-below 1 100_000 max_lines two.1 (lit< tt) in
    row_of (codes "batch") (decimal from) (decimal to ∷ decimal max_lines ∷ []) (Make from to max_lines) refl refl refl
    (and_from (is_word (decimal from)) (is_word (decimal to) && (is_word (decimal max_lines) && true)) (decimal_word from (server_small from both.0))
    (and_from (is_word (decimal to)) (is_word (decimal max_lines) && true) (decimal_word to (server_small to two.0))
    (and_from (is_word (decimal max_lines)) true (decimal_word max_lines small) refl)))
    (bound (server_in (decimal from)) from (λ f. (server_in (decimal to) >>= λ t. (line_count_in (decimal max_lines) >>= λ n. Some (Make f t n)))) (server_word from both.0)
    ∙ bound (server_in (decimal to)) to (λ t. (line_count_in (decimal max_lines) >>= λ n. Some (Make from t n))) (server_word to two.0)
    ∙ bound (line_count_in (decimal max_lines)) max_lines (λ n. Some (Make from to n)) (number_from_decimal 1 100_000 max_lines two.1 small))
step_in_of (Deliver batch to bytes) h =
    let both = and_parts (within 0 999_999_999 batch) (is_server to && is_byte_count bytes) h in
    let two = and_parts (is_server to) (is_byte_count bytes) both.1 in
    let small = within-below 0 999_999_999 batch both.0 (lit< tt) in
    row_of (codes "deliver") (decimal batch) (decimal to ∷ length_word bytes ∷ []) (Deliver batch to bytes) refl refl refl
    (and_from (is_word (decimal batch)) (is_word (decimal to) && (is_word (length_word bytes) && true)) (decimal_word batch small)
    (and_from (is_word (decimal to)) (is_word (length_word bytes) && true) (decimal_word to (server_small to two.0))
    (and_from (is_word (length_word bytes)) true (length_is_word bytes two.1) refl)))
    (bound (batch_number_in (decimal batch)) batch (λ b. (server_in (decimal to) >>= λ t. (byte_count_in (length_word bytes) >>= λ n. Some (Deliver b t n))))
    (number_from_decimal 0 999_999_999 batch both.0 small)
    ∙ bound (server_in (decimal to)) to (λ t. (byte_count_in (length_word bytes) >>= λ n. Some (Deliver batch t n))) (server_word to two.0)
    ∙ bound (byte_count_in (length_word bytes)) bytes (λ n. Some (Deliver batch to n)) (length_of bytes two.1))

-- ---- lines of the table

-- a line of printable bytes that is read as a step is the line of that step
pub stands_for : (line : Text) (s : Step) → is_printable line ≡ true → step_in line ≡ Some s → IsScriptLine line s
stands_for line s plain e = let parts = step_in_parts line s e in record { spelled = parts.1; of_table = parts.0; plain = plain }

-- a line that is read as none is the line of none
pub stands_for_none : (line : Text) → step_in line ≡ None → (s : Step) → ¬ IsScriptLine line s
stands_for_none line e s h = none-some s (sym e ∙ ap step_in h.spelled ∙ step_in_of s h.of_table)

-- what the reading of a text answers, as an answer about lines of the table
pub reading_stands : {T : Type 0} (line : Text) (view : T → Step) (found : Option T) → is_printable line ≡ true
    → MatchOption found (step_in line ≡ None) (λ s. step_in line ≡ Some (view s)) → MatchOption found ((s : Step) → ¬ IsScriptLine line s) (λ s. IsScriptLine line (view s))
reading_stands line view None plain e = stands_for_none line e
reading_stands line view (Some s) plain e = stands_for line (view s) plain e

plain_low : (t : Text) → is_printable t ≡ true → (i : ℕ) → slice_index t i < 128
plain_low [] h i = omega arith
plain_low (c ∷ cs) h zero = let low : c ≤ 126 = leb-true c 126 (and_parts (leb 32 c) (leb c 126) (and_parts (within 32 126 c) (list_all (λ d. within 32 126 d) cs) h).0).1 in omega (arith, low)
plain_low (c ∷ cs) h (suc i) = plain_low cs (and_parts (within 32 126 c) (list_all (λ d. within 32 126 d) cs) h).1 i

-- printable bytes are a text
pub plain_text : (t : Text) → is_printable t ≡ true → IsUtf8 t
plain_text t h = IsUtf8-from_ascii t (plain_low t h)

-- the same of a line and its text
pub reading_stands_at : {T E : Type 0} (line text : Text) (view : T → Step) (result : Result (Option T) E) → text ≡ line → is_printable line ≡ true
    → IfOk result (λ found. MatchOption found (step_in text ≡ None) (λ s. step_in text ≡ Some (view s)))
    → IfOk result (λ found. MatchOption found ((s : Step) → ¬ IsScriptLine line s) (λ s. IsScriptLine line (view s)))
reading_stands_at {T} line text view (Ok found) same plain h =
    let P : Text → Type 0 = λ u. MatchOption found (step_in u ≡ None) (λ s. step_in u ≡ Some (view s)) in
    reading_stands line view found plain (subst P same h)
reading_stands_at line text view (Err e) same plain h = tt

-- a line has one step
pub one_step : (line : Text) (s t : Step) → IsScriptLine line s → IsScriptLine line t → s ≡ t
one_step line s t h k = same_Some s t (sym (step_in_of s h.of_table) ∙ ap step_in (sym h.spelled ∙ k.spelled) ∙ step_in_of t k.of_table)
