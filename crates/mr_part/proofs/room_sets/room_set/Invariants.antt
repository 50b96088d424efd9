use Rattle.std.proofs.Common.{◌≡◌, ◌||◌, drop}
use Rattle.std.specs.List.{list_any}
use Rattle.std.specs.Prelude.{bytes_eq}
use Rattle.mr_model.specs.Texts.{Text}
use Rattle.mr_replay.specs.Seen.{has_room}
use Rattle.mr_part.proofs.room_sets.room_set.Given as goal

-- with those that are left, the rooms are all
abbrev pub invariant-loop-room : goal.invariant-loop-room
invariant-loop-room l = (name : Text) → (has_room l.set name || list_any (bytes_eq name) (drop l.room-index l.rooms)) ≡ list_any (bytes_eq name) l.rooms
