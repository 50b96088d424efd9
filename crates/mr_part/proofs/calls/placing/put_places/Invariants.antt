use Rattle.std.proofs.Common.{◌≡◌, map}
use Rattle.mr_tables.specs.Cells.{place_row_of}
use Rattle.mr_part.specs.Placing.{with_places_put}
use Rattle.mr_part.proofs.calls.placing.put_places.Given as goal

-- the rows so far are put
abbrev pub invariant-loop-row : goal.invariant-loop-row
invariant-loop-row l = l.change ≡ with_places_put l.fn.change (map place_row_of l.yielded)
