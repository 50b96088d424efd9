use Rattle.std.proofs.Common.{◌≡◌, ◌≤◌, length, map}
use Rattle.std.specs.List.{filter}
use Rattle.mr_replay.specs.Seen.{is_in_rooms}
use Rattle.mr_replay.proofs.seen.count_in_rooms.Given as goal

-- those so far
abbrev pub invariant-loop-row : goal.invariant-loop-row
invariant-loop-row l = record {
  can_next : (goal.iterator-loop-row).can_next l.row-iterator;
  is_finite : (goal.iterator-loop-row).is_finite l.row-iterator;
  few : l.count ≤ length l.yielded;
  counted : l.count ≡ length (filter (is_in_rooms l.rooms) (map (λ row. row.now) l.yielded));
}
