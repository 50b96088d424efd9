use Rattle.std.proofs.Common.{◌*◌, ◌∙◌, ap, refl, arith}
use Rattle.mr_model.specs.Texts.{first_word, after_word, behind}
use Rattle.mr_audit.proofs.SlotTexts.{no_slot, slot_of_words}
use Rattle.mr_audit.proofs.texts.slot_words.Goals as goal

pub returns-then-number-count : goal.returns-then-number-count
returns-then-number-count c = no_slot c.args.text.now c.args.number _ refl (omega arith)

pub returns : goal.returns
returns c =
    let t = c.args.text.now in
    let at = c.behind.ensures.rest ∙ ap (λ j. behind (2 * j) t) c.from.ensures in
    slot_of_words t c.next_word.result.0.now c.next_word.result.1.now c.next_word-2.result.0.now c.args.number _ refl (omega arith)
    (c.next_word.ensures.word ∙ ap first_word at) (c.next_word.ensures.rest ∙ ap after_word at) c.next_word-2.ensures.word
