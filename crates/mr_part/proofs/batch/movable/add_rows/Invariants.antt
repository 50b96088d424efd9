use Rattle.std.proofs.Common.{◌≡◌, ◌||◌, ◌&&◌, drop}
use Rattle.std.specs.List.{list_any}
use Rattle.std.specs.Prelude.{bytes_eq}
use Rattle.mr_model.specs.Texts.{Text}
use Rattle.mr_model.specs.Writes.{id_of}
use Rattle.mr_part.specs.Sets.{has_id}
use Rattle.mr_replay.specs.Seen.{has_room}
use Rattle.mr_part.proofs.batch.movable.add_rows.Given as goal

-- with those of the rows that are left, the rooms are all
abbrev pub invariant-loop-row : goal.invariant-loop-row
invariant-loop-row l =
    (name : Text) → (has_room l.rooms name || list_any (λ x. has_id l.ids (id_of x.write) && bytes_eq name x.write.room) (drop l.row-index l.kept))
    ≡ (has_room l.fn.rooms name || list_any (λ x. has_id l.ids (id_of x.write) && bytes_eq name x.write.room) l.kept)
