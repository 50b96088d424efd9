-- A command line asks for what it was written for.
use Rattle.std.proofs.Common.{◌≡◌, refl, ap, ap₂, lit<, ◌∙◌, ℕ, ◌<◌, ◌≤◌, ◌≢◌, zero, suc, true, false, not, List, [], ◌∷◌, length, get_or, map, Some, arith, leb-true}
use Rattle.std.specs.Prelude.{decimal}
use Rattle.std.specs.List.{list_all, list_any}
use Rattle.std.proofs.lemmas.Bool.{and_parts, not-true, eqb-false, false≢true, or_parts}
use Rattle.clap.proofs.CutLemmas.{before_first-at, after_first-at}
use Rattle.mr_model.specs.Texts.{Text}
use Rattle.mr_model.specs.Replies.{Full, Committed}
use Rattle.mr_model.specs.View.{AskSheet, AskCalendar, AskOutcome, AskErrors}
use Rattle.mr_model.specs.Step.{AddRoom, Submit, Cancel, Receive, Commit, Truncate, AskPosition, BatchFor, SlotWords}
use Rattle.mr_model.specs.Step as step
use Rattle.mr_base.proofs.Decimals.{number_from_to-decimal}
use Rattle.mr_wire.specs.Fields.{◌>>=◌}
use Rattle.mr_words.specs.CommandTable.{Invoked, Init, Ask, Export, Import, Rehearse, Serve, Exchange, Bridge, invocation_of, is_t, slot_in_word, server_in, commit_number_in, connections_in}
use Rattle.mr_words.specs.CommandSpelling.{MayBeAsked, command_line, slot_word}

-- ---- slots

lacks_t : (t : Text) → list_any is_t t ≡ false → (i : ℕ) → i < length t → get_or t i 0 ≢ 84
lacks_t [] none i low = absurd (omega arith)
lacks_t (c ∷ cs) none zero low = eqb-false c 84 (or_parts (is_t c) (list_any is_t cs) none).0
lacks_t (c ∷ cs) none (suc i) low = lacks_t cs (or_parts (is_t c) (list_any is_t cs) none).1 i (omega (arith, low))

slot_back : (s : SlotWords) → list_any is_t s.day ≡ false → slot_in_word (slot_word s) ≡ s
slot_back s none =
    let day = before_first-at 84 s.day s.time (lacks_t s.day none) in
    let time = after_first-at 84 s.day s.time (lacks_t s.day none) in
    λ i. record { day = day i; time = time i }

slots_back : (ss : List SlotWords) → list_all (λ a. not (list_any is_t a.day)) ss ≡ true → map slot_in_word (map slot_word ss) ≡ ss
slots_back [] e = refl
slots_back (s ∷ ss) e =
    let p = and_parts (not (list_any is_t s.day)) (list_all (λ a. not (list_any is_t a.day)) ss) e in
    ap₂ (λ (x : SlotWords) (xs : List SlotWords). x ∷ xs) (slot_back s (not-true (list_any is_t s.day) p.0)) (slots_back ss p.1)

-- ---- numbers

server_back : (n : ℕ) → 1 ≤ n → n ≤ 99 → server_in (decimal n) ≡ Some n
server_back n above below = number_from_to-decimal 1 99 n above below (lit< tt)

pub count_back : (n : ℕ) → n ≤ 999_999_999_999 → commit_number_in (decimal n) ≡ Some n
count_back n below = number_from_to-decimal 0 999_999_999_999 n (omega arith) below (lit< tt)

-- ---- all rows

pub lines_read_back : (asked : Invoked) → MayBeAsked asked → invocation_of (command_line asked) ≡ Some asked
lines_read_back (Init database server primary) h =
    ap (λ o. o >>= λ s. (server_in (decimal primary) >>= λ p. Some (Init database s p))) (server_back server h.0 h.1)
    ∙ ap (λ o. o >>= λ p. Some (Init database server p)) (server_back primary h.2 h.3)
lines_read_back (Export database position out lines) h =
    ap (λ o. o >>= λ n. Some (Export database position out n)) (number_from_to-decimal 1 100_000 lines h.0 h.1 (lit< tt))
lines_read_back (Import database batch) h = refl
lines_read_back (Rehearse script) h = refl
lines_read_back (Serve database port count) h =
    ap (λ o. o >>= λ p. (connections_in (decimal count) >>= λ n. Some (Serve database p n))) (number_from_to-decimal 1 65_535 port h.0 h.1 (lit< tt))
    ∙ ap (λ o. o >>= λ n. Some (Serve database port n)) (number_from_to-decimal 0 999_999_999 count (omega arith) h.2 (lit< tt))
lines_read_back (Exchange database url) h = refl
lines_read_back (Bridge database other) h = refl
lines_read_back (Ask database (AddRoom room)) h = refl
lines_read_back (Ask database (Submit s)) h = ap (λ (ss : List SlotWords). Some (Ask database (Submit (record s { alternatives = ss })))) (slots_back s.alternatives h)
lines_read_back (Ask database (Cancel room id)) h = refl
lines_read_back (Ask database (Commit count)) h =
    ap (λ o. (o >>= λ n. Some (Commit n)) >>= λ c. Some (Ask database c)) (count_back count (leb-true count 999_999_999_999 h))
lines_read_back (Ask database (Truncate count)) h =
    ap (λ o. (o >>= λ n. Some (Truncate n)) >>= λ c. Some (Ask database c)) (count_back count (leb-true count 999_999_999_999 h))
lines_read_back (Ask database AskPosition) h = refl
lines_read_back (Ask database (step.Ask room (AskSheet day))) h = refl
lines_read_back (Ask database (step.Ask room (AskCalendar Full))) h = refl
lines_read_back (Ask database (step.Ask room (AskCalendar Committed))) h = refl
lines_read_back (Ask database (step.Ask room (AskOutcome id))) h = refl
lines_read_back (Ask database (step.Ask room AskErrors)) h = refl
lines_read_back (Ask database (Receive bytes)) h = absurd (false≢true h)
lines_read_back (Ask database (BatchFor position max_lines)) h = absurd (false≢true h)
