use Rattle.std.proofs.Common.{◌≡◌, ◌∙◌, ap, sym, Some}
use Rattle.mr_tables.specs.Choices.{lent, after_space}
use Rattle.mr_tables.proofs.FrontWords.{first_slot, slot_told, left_shorter}
use Rattle.mr_tables.proofs.reading.next_slot.Goals as goal

pub returns-in_default-clause-read : goal.returns-in_default-clause-read
returns-in_default-clause-read c = λ s ss h.
    let space : Some c.in_ok-behind.behind.now ≡ after_space c.args.text.now = sym (ap lent c.in_ok-behind.was) ∙ c.next_word.ensures.rest in
    let f = first_slot c.args.text.now c.next_word.result.0.now c.in_ok-behind.behind.now c.next_word-2.result.0.now
    (lent c.next_word-2.result.1) s ss h c.next_word.ensures.word space c.next_word-2.ensures.word c.next_word-2.ensures.rest in
    c.in_default.not-Ok s.day (c.read.ensures.read s.day f.is_day f.day_is)

pub returns-in_default-read_minute-clause-read : goal.returns-in_default-read_minute-clause-read
returns-in_default-read_minute-clause-read c = λ s ss h.
    let space : Some c.in_ok-behind.behind.now ≡ after_space c.args.text.now = sym (ap lent c.in_ok-behind.was) ∙ c.next_word.ensures.rest in
    let f = first_slot c.args.text.now c.next_word.result.0.now c.in_ok-behind.behind.now c.next_word-2.result.0.now
    (lent c.next_word-2.result.1) s ss h c.next_word.ensures.word space c.next_word-2.ensures.word c.next_word-2.ensures.rest in
    c.in_default-read_minute.not-Ok s.start (c.read_minute.ensures.read s.start f.is_time f.time_is)

pub returns-clause-read : goal.returns-clause-read
returns-clause-read c = λ s ss h.
    let space : Some c.in_ok-behind.behind.now ≡ after_space c.args.text.now = sym (ap lent c.in_ok-behind.was) ∙ c.next_word.ensures.rest in
    let f = first_slot c.args.text.now c.next_word.result.0.now c.in_ok-behind.behind.now c.next_word-2.result.0.now
    (lent c.next_word-2.result.1) s ss h c.next_word.ensures.word space c.next_word-2.ensures.word c.next_word-2.ensures.rest in
    let day_is = sym c.in-Ok.is ∙ c.read.ensures.read s.day f.is_day f.day_is in
    let start_is = sym c.in-Ok-read_minute.is ∙ c.read_minute.ensures.read s.start f.is_time f.time_is in
    let day : c.in-Ok.day ≡ s.day = (cc) in
    let start : c.in-Ok-read_minute.start ≡ s.start = (cc) in
    ((λ i. record { day = day i; start = start i }), f.rest_is)

pub returns-clause-told : goal.returns-clause-told
returns-clause-told c = λ ss h.
    let space : Some c.in_ok-behind.behind.now ≡ after_space c.args.text.now = sym (ap lent c.in_ok-behind.was) ∙ c.next_word.ensures.rest in
    slot_told c.args.text.now c.in_ok-behind.behind.now c.next_word-2.result.0.now (lent c.next_word-2.result.1) (record { day = c.in-Ok.day; start = c.in-Ok-read_minute.start }) ss
    (sym c.next_word.ensures.word ∙ c.in-Ok.ensures.written.1) space (sym c.next_word-2.ensures.word ∙ c.in-Ok-read_minute.ensures.written.1) c.next_word-2.ensures.rest
    c.in-Ok.ensures.written.0 c.in-Ok-read_minute.ensures.written.0 h

pub returns-clause-shorter : goal.returns-clause-shorter
returns-clause-shorter c =
    let space : Some c.in_ok-behind.behind.now ≡ after_space c.args.text.now = sym (ap lent c.in_ok-behind.was) ∙ c.next_word.ensures.rest in
    left_shorter c.args.text.now c.in_ok-behind.behind.now c.next_word-2.result.1 space c.next_word-2.ensures.rest
