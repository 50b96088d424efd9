-- A kept write as its row in log tells it, and the order of execution of such rows.
use Rattle.std.specs.Prelude.{ℕ, ◌==◌, List, map}
use Rattle.std.specs.Ordering.{on, nat_cmp, bool_cmp, then_cmp}
use Rattle.std.specs.declared.cmp.Ordering.{Ordering}
use Rattle.mr_model.specs.Writes.{Write}
use Rattle.mr_model.specs.Replay.{Place}
use Rattle.mr_model.specs.Replica.{Replica}
use Rattle.mr_model.specs.Tables.{seq_of}
use Rattle.mr_model.specs.View.{place_of}
use Rattle.mr_replay.specs.Places.{UndoRow}
use Rattle.mr_replay.specs.Rows.{undo_row_at}
use Rattle.mr_part.specs.declared.kept_rows.KeptRow.{KeptRow}
use Rattle.mr_part.specs.declared.kept_rows.RunPlace.{RunPlace}

abbrev pub kept_row_with : Write → ℕ → Place → KeptRow
kept_row_with w seq place = record { write = w; undo = undo_row_at w place; seq = seq }

-- that of a write of a replica
abbrev pub kept_row : Replica → Write → KeptRow
kept_row r w = kept_row_with w (seq_of r w) (place_of r w)

-- the writes of rows, and what undoes each
abbrev pub row_writes : List KeptRow → List Write
row_writes rows = map (λ x. x.write) rows

abbrev pub row_undos : List KeptRow → List UndoRow
row_undos rows = map (λ x. x.undo) rows

-- what its place in the order of execution hangs on
abbrev pub run_place : KeptRow → RunPlace
run_place row =
    record { is_tentative = row.seq == 0; seq = row.seq; time = row.write.stamp.time; server = row.write.stamp.server }

-- committed rows first, by their number, then the others by time and server
abbrev pub run_cmp : RunPlace → RunPlace → Ordering
run_cmp =
    then_cmp (on (λ p. p.is_tentative) bool_cmp)
    (then_cmp (on (λ p. p.seq) nat_cmp) (then_cmp (on (λ p. p.time) nat_cmp) (on (λ p. p.server) nat_cmp)))
