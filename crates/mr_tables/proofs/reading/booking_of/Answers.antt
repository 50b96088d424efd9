use Rattle.std.proofs.Common.{◌≡◌, ◌∙◌, ap, sym, subst, List, Ok, IsTrue}
use Rattle.mr_model.specs.Slots.{Slot}
use Rattle.mr_model.specs.Writes.{Meeting, Books, is_meeting}
use Rattle.mr_model.specs.Tables.{MeetingCells}
use Rattle.mr_base.specs.Answers.{OrOutOfMemory}
use Rattle.mr_tables.proofs.LogRows.{refused, answered, text_of_meeting, meeting_again}
use Rattle.mr_tables.proofs.reading.booking_of.Goals as goal

pub returns-in-Err-clause-read : goal.returns-in-Err-clause-read
returns-in-Err-clause-read c = λ m ok e.
    let text = c.as_str.ensures.value ∙ ap (λ (r : MeetingCells). r.choices) (c.cells.view_is ∙ e) in
    refused (m.wish, m.alternatives) (record { stamp = c.args.stamp; room = c.args.room.now; action = Books m }) c.in-Err.refusal
    (c.in-Err.ensures.read m.wish m.alternatives (text_of_meeting m c.as_str.result.now ok text))

pub returns-in-Ok-clause-read : goal.returns-in-Ok-clause-read
returns-in-Ok-clause-read c = λ m ok e.
    let text = c.as_str.ensures.value ∙ ap (λ (r : MeetingCells). r.choices) (c.cells.view_is ∙ e) in
    let chosen = c.in-Ok.ensures.read m.wish m.alternatives (text_of_meeting m c.as_str.result.now ok text) in
    let both = answered c.in-Ok.choices (m.wish, m.alternatives) chosen in
    let wish : c.in-Ok.choices.0 ≡ m.wish = ap (λ (x : Slot × List Slot). x.0) both in
    let others : c.in-Ok.choices.1 ≡ m.alternatives = ap (λ (x : Slot × List Slot). x.1) both in
    let same = meeting_again m c.args.cells.now c.in-Ok.choices.0 c.in-Ok.choices.1 e wish others in
    subst (λ (x : Meeting). OrOutOfMemory c.booking_with.result (Ok (record { stamp = c.args.stamp; room = c.args.room.now; action = Books x }))) same
    (c.booking_with.ensures.made (subst (λ (x : Meeting). IsTrue (is_meeting x)) (sym same) ok))
