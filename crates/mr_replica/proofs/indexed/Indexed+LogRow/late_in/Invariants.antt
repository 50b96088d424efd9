use Rattle.std.proofs.Common.{◌≡◌, ◌||◌, Bool}
use Rattle.std.specs.List.{list_any}
use Rattle.std.specs.Str.{bytes_eq}
use Rattle.mr_model.specs.Tables.{LogRow}
use Rattle.mr_replay.specs.Seen.{has_room}
use Rattle.mr_replica.specs.Needed.{is_late_in}
use Rattle.mr_replica.specs.RowKeys.{AreThose}
use Rattle.mr_replica.proofs.indexed.Indexed+LogRow.late_in.Given as goal

-- with those of the rooms that are left they are those of all rooms
abbrev pub invariant-loop-room : goal.invariant-loop-room
invariant-loop-room l =
    (q : LogRow → Bool) × AreThose q l.self.rows l.rows.items
    × ((r : LogRow) → (q r || is_late_in (λ name. list_any (bytes_eq name) l.room-iterator) l.tail r) ≡ is_late_in (has_room l.rooms) l.tail r)
