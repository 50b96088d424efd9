use Rattle.std.proofs.Common.{◌≡◌, ◌∷◌, map, take}
use Rattle.sqlite_value.specs.declared.value.Value.TheVariants.{Null}
use Rattle.mr_rows.proofs.stored_rows.read_all.Given as goal

abbrev pub invariant-rows : goal.invariant-rows
invariant-rows g l = l.out.items ≡ map (λ row. g.R.StoredRow.form.row_in (Null ∷ row)) (take l.row-index l.rows)
