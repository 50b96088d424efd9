use Rattle.std.proofs.Common.{◌≡◌, ◌++◌, take}
use Rattle.std.specs.String.{string_bytes}
use Rattle.mr_tables.specs.ExecutionRows.{more_slots}
use Rattle.mr_tables.proofs.choices.push_slots.Given as goal

-- the slots so far are written
abbrev pub invariant-loop-slot : goal.invariant-loop-slot
invariant-loop-slot l = string_bytes l.text ≡ string_bytes l.fn.text ++ more_slots (take l.slot-index l.slots)
