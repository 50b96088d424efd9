use Rattle.std.proofs.Common.{◌≡◌, drop}
use Rattle.std.specs.Prelude.{bytes_eq}
use Rattle.std.specs.List.{list_any}
use Rattle.mr_tables.proofs.rooms.is_known.Given as goal

-- whether the room is known is what the rooms that are left say
abbrev pub invariant-loop-name : goal.invariant-loop-name
invariant-loop-name l = list_any (bytes_eq l.room) l.rooms ≡ list_any (bytes_eq l.room) (drop l.name-index l.rooms)
