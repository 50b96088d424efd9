use Rattle.std.proofs.Common.{◌≡◌, length, map}
use Rattle.mr_model.specs.Replay.{Place}
use Rattle.mr_model.specs.Writes.{Write}
use Rattle.mr_part.specs.PartMoves.{is_elsewhere, picked}
use Rattle.mr_part.specs.Logged.{undo_with}
use Rattle.mr_part.proofs.batch.changed.changed_of.Given as goal

-- those of the writes so far
abbrev pub invariant-loop-write : goal.invariant-loop-write
invariant-loop-write l = record {
  count : l.k ≡ length l.yielded;
  as_many : length l.changed.writes.items ≡ length l.changed.undo.items;
  changed : (before place : Write → Place) → l.was ≡ map (undo_with before) l.fn.writes.items → l.rows ≡ map (undo_with place) l.fn.writes.items
      → (l.changed.writes.items ≡ picked l.news (is_elsewhere l.old before place) l.yielded)
      × (l.changed.undo.items ≡ map (undo_with place) (picked l.news (is_elsewhere l.old before place) l.yielded));
}
