use Rattle.std.proofs.Common.{◌≡◌, take}
use Rattle.mr_tables.proofs.rooms.copies_of.Given as goal

abbrev pub invariant-loop-room : goal.invariant-loop-room
invariant-loop-room l = l.copies.items ≡ take l.room-index l.rooms
