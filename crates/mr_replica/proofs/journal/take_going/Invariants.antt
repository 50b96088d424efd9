use Rattle.std.proofs.Common.{◌≡◌, length}
use Rattle.mr_replica.specs.Journal.{is_going, rows_but}
use Rattle.mr_replica.proofs.journal.take_going.Given as goal

-- without the rows that are still to go it comes to what is without all of them
abbrev pub invariant-loop-id : goal.invariant-loop-id
invariant-loop-id g l =
    rows_but g.R.IdRow.id (is_going l.left) l.table.rows ≡ rows_but g.R.IdRow.id (is_going l.fn.going) l.fn.table.rows

abbrev pub decreases-loop-id : goal.decreases-loop-id
decreases-loop-id g l = length l.left.keys
