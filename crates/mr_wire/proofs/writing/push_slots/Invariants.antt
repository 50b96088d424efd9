use Rattle.std.proofs.Common.{◌≡◌, ◌++◌, take}
use Rattle.std.specs.String.{string_bytes}
use Rattle.mr_wire.specs.Writing.{slots_front}
use Rattle.mr_wire.proofs.writing.push_slots.Given as goal

abbrev pub invariant-loop-slot : goal.invariant-loop-slot
invariant-loop-slot l = string_bytes l.text ≡ string_bytes l.fn.text ++ slots_front (take l.slot-index l.slots)
