use Rattle.std.proofs.Common.{◌≡◌, ◌++◌, ap, map, IsTrue, subst, sym, ◌∙◌}
use Rattle.sqlite_value.specs.declared.value.Value.TheVariants.{Int}
use Rattle.sqlite_value.specs.Order.{Row}
use Rattle.sqlite.specs.Held.{state}
use Rattle.sqlite.specs.State.{HasCleanDisk, ExecutesInside}
use Rattle.sqlite.specs.Values.{bound, bound_value}
use Rattle.mr_rows.specs.TableSteps.{PutsRow}
use Rattle.mr_rows.proofs.StatementLemmas.{puts_row}
use Rattle.mr_rows.proofs.RowsReadBack.{read_back}
use Rattle.mr_rows.proofs.stored_rows.put_row.Goals as goal

pub returns-clause-put : goal.returns-clause-put
returns-clause-put g c =
    let old = c.args.tx.now.conn.now in
    let new = c.execute.new.self.conn.now in
    let f = g.R.StoredRow.form in
    let columns = g.R.Parts.Cells.columns in
    let of = g.R.StoredRow.of in
    let made = g.met.R.StoredRow.made in
    let spelled = g.met.R.Parts.Cells.spelled in
    let parts = c.parts.result in
    let text = c.texts.result.put.now in
    let cells : c.add.new.cells.items ≡ columns.cells parts = c.in_ok-add.ensures.added ∙ ap (λ xs. xs ++ columns.cells parts) c.new-cells.ensures.items in
    let taken : bound c.in_ok-params.params.items ≡ columns.cells parts = c.in_ok-params.ensures ∙ ap (λ xs. map bound_value xs) (c.deref.ensures.value ∙ cells) ∙ (spelled parts).1 in
    let params : bound c.deref-2.result.now ≡ f.cells (of parts) = ap bound c.deref-2.ensures.value ∙ taken ∙ sym (made.spelled parts) in
    let ran = λ (clean : HasCleanDisk (state g.S.Store new)) (within : IsTrue old.in_transaction).
    subst (λ (cells : Row). ExecutesInside 0 text cells (state g.S.Store old) (state g.S.Store new) c.execute.result) params (c.execute.ensures.runs clean within) in
    subst (λ row. PutsRow g.R.StoredRow.stands_in f row (state g.S.Store old) (state g.S.Store new) c.execute.result) (sym c.parts.ensures ∙ c.in_ok-copied.ensures)
    (puts_row g.S.Store f old new text c.execute.result g.R.StoredRow.stands_in (of parts) c.texts.ensures.puts
    (λ id. read_back f columns of made spelled parts c.in_ok-add.ensures.again (Int id)) ran (λ outside. (c.execute.ensures.ended outside).1))
