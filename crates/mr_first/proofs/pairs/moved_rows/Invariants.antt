use Rattle.std.proofs.Common.{◌≡◌, map, take}
use Rattle.mr_first.specs.Forms.{write_id, undo_id}
use Rattle.mr_first.proofs.PairLemmas.{joined}
use Rattle.mr_first.proofs.pairs.moved_rows.Given as goal

abbrev pub invariant-at : goal.invariant-at
invariant-at l = (map write_id (take l.at l.writes) ≡ map undo_id (take l.at l.undo)) × (l.out.items ≡ joined (take l.at l.writes) (take l.at l.undo))
