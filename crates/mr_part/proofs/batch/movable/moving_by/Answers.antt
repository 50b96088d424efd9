use Rattle.std.proofs.Common.{refl, map}
use Rattle.mr_model.specs.Writes.{id_of}
use Rattle.mr_base.specs.Batches.{item_of}
use Rattle.mr_part.specs.declared.kept_rows.KeptRow.{KeptRow}
use Rattle.mr_part.specs.KeptRows.{row_writes}
use Rattle.mr_part.specs.Moves.{rooms_named}
use Rattle.mr_part.proofs.Moves.{rooms_of_rows}
use Rattle.mr_part.proofs.TouchedRooms.{touched_found}
use Rattle.mr_part.proofs.batch.movable.moving_by.Goals as goal

pub returns-clause-moving : goal.returns-clause-moving
returns-clause-moving c =
    let rows = c.args.kept.now in
    let commits = c.args.commits in
    let named = rooms_named commits (row_writes rows) in
    record {
      rooms_are =
          touched_found (λ (x : KeptRow). id_of x.write) (λ (x : KeptRow). x.write.room) commits rows named (λ w. refl) (rooms_of_rows commits rows) (map item_of c.args.items.now)
          c.in_ok-committed.field-0 c.add_rows.new.rooms c.in_ok-committed.ensures.touched c.in_ok-add_rows.ensures.rooms;
      tail_is = c.tail_of-tail.ensures;
    }
