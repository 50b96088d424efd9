use Rattle.std.proofs.Common.{◌≡◌, ◌&&◌, not, drop}
use Rattle.std.specs.List.{list_any}
use Rattle.std.specs.Prelude.{bytes_eq}
use Rattle.mr_model.specs.Texts.{Text}
use Rattle.mr_replay.specs.Seen.{has_room}
use Rattle.mr_part.proofs.room_sets.unknown_rooms.Given as goal

-- without the known rooms that are left, too, the rooms are those that aren't known
abbrev pub invariant-loop-room : goal.invariant-loop-room
invariant-loop-room l =
    (name : Text) → (not (list_any (bytes_eq name) (drop l.room-index l.known)) && has_room l.left name) ≡ (not (list_any (bytes_eq name) l.known) && has_room l.fn.rooms name)
