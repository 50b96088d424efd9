use Rattle.std.proofs.Common.{◌≡◌, ◌∷◌, sym, subst, ◌∙◌}
use Rattle.sqlite_value.specs.declared.value.Value.TheVariants.{Int}
use Rattle.mr_rows.proofs.RowsReadBack.{read_back}
use Rattle.mr_changes.proofs.writes.make_stored.Goals as goal

pub returns-in-Ok-clause-back : goal.returns-in-Ok-clause-back
returns-in-Ok-clause-back g c =
    let f = g.R.StoredRow.form in
    subst (λ x. f.row_in (Int c.args.id ∷ f.cells x) ≡ x) (sym c.parts-parts.ensures ∙ c.in_ok-copied.ensures)
    (read_back f g.R.Parts.Cells.columns g.R.StoredRow.of g.met.R.StoredRow.made g.met.R.Parts.Cells.spelled c.parts-parts.result c.in-Ok.ensures.again (Int c.args.id))
