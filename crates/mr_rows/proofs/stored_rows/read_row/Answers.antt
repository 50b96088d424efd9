use Rattle.std.proofs.Common.{ap, sym, ◌∙◌, leb-true, arith, rules}
use Rattle.sqlite_value.specs.declared.value.Value.TheVariants.{Null}
use Rattle.mr_rows.proofs.RowsReadBack.{read_behind}
use Rattle.mr_rows.proofs.ShownRows.{made_shown, not_shown}
use Rattle.mr_rows.proofs.stored_rows.read_row.Goals as goal

pub read-requires : goal.read-requires
read-requires g c = let few = leb-true _ 100 g.met.R.StoredRow.made.few in omega (arith, few)

pub returns-in_err-parts-clause-refused : goal.returns-in_err-parts-clause-refused
returns-in_err-parts-clause-refused g c =
    let never = not_shown g.R.StoredRow.form g.R.Parts.Cells.columns g.R.StoredRow.of g.met.R.StoredRow.made g.met.R.Parts.Cells.shown c.args.row.now in
    let told = c.in_err-parts.ensures.refused in
    search rules

pub returns-clause-row : goal.returns-clause-row
returns-clause-row g c = c.of.ensures ∙ ap g.R.StoredRow.of c.in_ok-parts.ensures.value
    ∙ sym (read_behind g.R.StoredRow.form g.R.Parts.Cells.columns g.R.StoredRow.of g.met.R.StoredRow.made Null c.args.row.now)

pub returns-clause-cells : goal.returns-clause-cells
returns-clause-cells g c =
    let shown = made_shown g.R.StoredRow.form g.R.Parts.Cells.columns g.R.StoredRow.of g.met.R.StoredRow.made g.met.R.Parts.Cells.shown c.args.row.now in
    let row = c.of.ensures ∙ ap g.R.StoredRow.of c.in_ok-parts.ensures.value
    ∙ sym (read_behind g.R.StoredRow.form g.R.Parts.Cells.columns g.R.StoredRow.of g.met.R.StoredRow.made Null c.args.row.now) in
    ap g.R.StoredRow.form.cells row ∙ (shown.0 c.in_ok-parts.ensures.told).0

pub returns-clause-within : goal.returns-clause-within
returns-clause-within g c =
    let shown = made_shown g.R.StoredRow.form g.R.Parts.Cells.columns g.R.StoredRow.of g.met.R.StoredRow.made g.met.R.Parts.Cells.shown c.args.row.now in
    let row = c.of.ensures ∙ ap g.R.StoredRow.of c.in_ok-parts.ensures.value
    ∙ sym (read_behind g.R.StoredRow.form g.R.Parts.Cells.columns g.R.StoredRow.of g.met.R.StoredRow.made Null c.args.row.now) in
    ap g.R.StoredRow.form.within row ∙ (shown.0 c.in_ok-parts.ensures.told).1
