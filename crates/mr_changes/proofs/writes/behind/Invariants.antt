use Rattle.std.proofs.Common.{◌≡◌, ◌∷◌, take}
use Rattle.sqlite_value.specs.declared.value.Value.TheVariants.{Int}
use Rattle.mr_changes.proofs.writes.behind.Given as goal

abbrev pub invariant-cells : goal.invariant-cells
invariant-cells l = l.row ≡ Int l.id ∷ take l.cell-index l.cells
