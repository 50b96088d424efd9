use Rattle.std.proofs.Common.{◌≡◌}
use Rattle.mr_part.proofs.room_sets.names_of.Given as goal

-- those so far
abbrev pub invariant-loop-name : goal.invariant-loop-name
invariant-loop-name l = l.names.items ≡ l.yielded
