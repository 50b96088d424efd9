use Rattle.std.proofs.Common.{◌≡◌, take}
use Rattle.mr_part.proofs.seen_log.copies_of.Given as goal

-- those so far
abbrev pub invariant-loop-row : goal.invariant-loop-row
invariant-loop-row l = l.copies.items ≡ take l.row-index l.rows
