use Rattle.std.proofs.Common.{◌≡◌, ◌||◌, drop, map}
use Rattle.std.specs.List.{list_any}
use Rattle.mr_model.specs.Texts.{Text}
use Rattle.mr_model.specs.Writes.{Id}
use Rattle.mr_base.specs.Batches.{item_of}
use Rattle.mr_part.specs.Sets.{has_id}
use Rattle.mr_replay.specs.Seen.{has_room}
use Rattle.mr_part.specs.Touched.{commits_id, writes_in}
use Rattle.mr_part.proofs.touched.Touched.by.Given as goal

-- with those of the items that are left, the ids and the rooms are those of all
abbrev pub invariant-loop-item : goal.invariant-loop-item
invariant-loop-item l =
    ((id : Id) → (has_id l.touched.committed id || list_any (commits_id l.commits id) (map item_of (drop l.item-index l.items))) ≡ list_any (commits_id l.commits id) (map item_of l.items))
    × ((room : Text) → (has_room l.touched.rooms room || list_any (writes_in room) (map item_of (drop l.item-index l.items))) ≡ list_any (writes_in room) (map item_of l.items))
