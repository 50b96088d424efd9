use Rattle.std.proofs.Common.{◌≡◌, ◌||◌, ◌&&◌, drop}
use Rattle.std.specs.List.{list_any}
use Rattle.std.specs.Prelude.{bytes_eq}
use Rattle.mr_model.specs.Texts.{Text}
use Rattle.mr_model.specs.Queries.{log_id}
use Rattle.mr_part.specs.Sets.{has_id}
use Rattle.mr_replay.specs.Seen.{has_room}
use Rattle.mr_part.proofs.scope.batch_scope.add_rows.Given as goal

-- with those of the rows that are left, the rooms are all
abbrev pub invariant-loop-row : goal.invariant-loop-row
invariant-loop-row l =
    (name : Text) → (has_room l.rooms name || list_any (λ row. has_id l.ids (log_id row) && bytes_eq name row.room) (drop l.row-index l.rows))
    ≡ (has_room l.fn.rooms name || list_any (λ row. has_id l.ids (log_id row) && bytes_eq name row.room) l.rows)
