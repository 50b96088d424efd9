use Rattle.std.proofs.Common.{◌≡◌, map, take}
use Rattle.mr_model.specs.Step.{slot_of}
use Rattle.mr_service.specs.Asked.{words_of}
use Rattle.mr_service.proofs.words.read_slots.Given as goal

abbrev pub invariant-loop-choice : goal.invariant-loop-choice
invariant-loop-choice l = l.slots.items ≡ map (λ w. slot_of (words_of w)) (take l.choice-index l.words)
