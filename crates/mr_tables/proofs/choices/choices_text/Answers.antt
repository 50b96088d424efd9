use Rattle.std.proofs.Common.{sym, ap, ◌∙◌, List, ℕ, ◌++◌}
use Rattle.mr_tables.specs.ExecutionRows.{slot_text, more_slots}
use Rattle.mr_tables.proofs.ChoiceTexts.{choices-text}
use Rattle.mr_tables.proofs.choices.choices_text.Goals as goal

pub returns : goal.returns
returns c =
    c.in_ok-push_slots.ensures ∙ ap (λ (t : List ℕ). t ++ more_slots c.args.others.now) c.in_ok-push_slot.ensures
    ∙ ap (λ (t : List ℕ). (t ++ slot_text c.args.wish) ++ more_slots c.args.others.now) c.new-text.ensures.bytes
    ∙ sym (choices-text c.args.wish c.args.others.now)
