use Rattle.std.proofs.Common.{◌≡◌, map, take}
use Rattle.sqlite.specs.Values.{bound, bound_value}
use Rattle.mr_rows.proofs.params_of.lent.Given as goal

abbrev pub invariant-cells : goal.invariant-cells
invariant-cells l = bound l.params.items ≡ map bound_value (take l.cell-index l.cells)
