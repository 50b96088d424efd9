use Rattle.std.proofs.Common.{refl, map}
use Rattle.mr_model.specs.Tables.{LogRow}
use Rattle.mr_model.specs.Scopes.{rooms_of_item}
use Rattle.mr_model.specs.Queries.{log_id}
use Rattle.mr_base.specs.Batches.{item_of}
use Rattle.mr_part.proofs.TouchedRooms.{touched_found}
use Rattle.mr_part.proofs.scope.batch_scope.touched_rooms.Goals as goal

pub returns-clause-rooms : goal.returns-clause-rooms
returns-clause-rooms c =
    let rows = c.args.rows.now in
    let commits = c.args.commits in
    let touched = c.in_ok-committed.field-0 in
    touched_found log_id (λ (x : LogRow). x.room) commits rows (rooms_of_item commits rows) (λ w. refl) (λ seq other. refl) (map item_of c.args.items.now)
    touched c.add_rows.new.rooms c.in_ok-committed.ensures.touched c.in_ok-add_rows.ensures.rooms
