use Rattle.std.proofs.Common.{◌≡◌, map, ◌-◌}
use Rattle.mr_service.specs.Asked.{words_of}
use Rattle.mr_tasks.specs.LineSteps.{cut_slots}
use Rattle.mr_tasks.proofs.CutSlots.{behind_slots}
use Rattle.mr_tasks.proofs.words.Words.slots.Given as goal

-- what is still to be cut off follows the slots so far
abbrev pub invariant-loop-i : goal.invariant-loop-i
invariant-loop-i l = cut_slots l.count l.initial.self ≡ behind_slots (map words_of l.slots.items) (cut_slots (l.count - l.i) l.self)
