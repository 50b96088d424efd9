use Rattle.std.proofs.Common.{◌≡◌, ◌∙◌, ap, sym, map, get_or, ◌++◌, [], ◌∷◌, List, take}
use Rattle.std.proofs.lemmas.List.{map_more}
use Rattle.mr_model.specs.Slots.{Slot}
use Rattle.mr_model.specs.Step.{slot_of}
use Rattle.mr_service.specs.declared.commands.SlotWords.{SlotWords}
use Rattle.mr_service.specs.Asked.{words_of}
use Rattle.mr_service.proofs.WordsRead as words
use Rattle.mr_service.proofs.words.read_slots.Goals as goal

pub returns-in_err-slot-clause-memory : goal.returns-in_err-slot-clause-memory
returns-in_err-slot-clause-memory c =
    absurd (words.slot_there words_of c.args.words.now c.loop-choice.choice-index c.choice-item.result (slot_of (words_of c.choice-item.result)) c.in_err-slot.field-0.0
    c.choice-item.is c.loop-choice-test.true c.requires.days c.requires.times (sym c.in_err-slot.ensures))

pub loop-choice-preserved : goal.loop-choice-preserved
loop-choice-preserved c =
    let at : SlotWords → Slot = λ w. slot_of (words_of w) in
    let slot : c.in_ok-slot.slot ≡ at (get_or c.args.words.now c.loop-choice.choice-index c.choice-item.result) =
    words.slot_value (words_of c.choice-item.result) c.in_ok-slot.slot (sym c.in_ok-slot.ensures) ∙ ap at c.choice-item.is in
    c.in_ok-push.ensures.items
    ∙ ap (λ (ss : List Slot). ss ++ c.in_ok-slot.slot ∷ []) c.loop-choice.invariant
    ∙ ap (λ (s : Slot). map at (take c.loop-choice.choice-index c.args.words.now) ++ s ∷ []) slot
    ∙ sym (map_more at c.args.words.now c.loop-choice.choice-index c.choice-item.result c.loop-choice-test.true)
