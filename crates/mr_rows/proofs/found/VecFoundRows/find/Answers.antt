use Rattle.std.proofs.Common.{Ok, IsTrue, subst, ◌∙◌, ap, Err}
use Rattle.std.proofs.lemmas.Result.{err_from_is_err_and}
use Rattle.sqlite.specs.Held.{state}
use Rattle.std.specs.List.Sorted.{IsSorted}
use Rattle.mr_rows.specs.Shown.{AreStoredAs}
use Rattle.mr_rows.specs.Kept.{AreTested, AreRowsOf, order_by}
use Rattle.mr_rows.proofs.QueryLemmas.{looks_made}
use Rattle.mr_rows.proofs.RowOrder.{found}
use Rattle.mr_rows.proofs.RowsReadBack.{shown_as}
use Rattle.mr_rows.specs.Reads.{IsPlacedIn}
use Rattle.mr_rows.proofs.CauseLemmas.{same_reads, same_error}
use Rattle.mr_rows.proofs.found.VecFoundRows.find.Goals as goal

pub returns-in_err-rows-clause-looks : goal.returns-in_err-rows-clause-looks
returns-in_err-rows-clause-looks g c under stands =
    let p = err_from_is_err_and c.from_residual.result c.from_residual.ensures.1 in
    same_reads (IsPlacedIn under) (state g.S.Store c.args.conn.now) (state g.S.Store c.take_rows.new.conn) c.take_rows.result _ c.from_residual.result _ c.in_err-rows.field-0.0
    (p.1 ∙ ap Err p.2) (c.take_rows.ensures.looks under (c.texts.ensures.asks under stands))

pub returns-clause-looks : goal.returns-clause-looks
returns-clause-looks g c under stands =
    let old = state g.S.Store c.args.conn.now in
    let f = g.R.StoredRow.form in
    let sorted = c.in_ok-sort_rows.ensures in
    let same = g.met.R.StoredRow.ordered in
    let rises = subst (λ less. IsSorted (order_by less) c.sort_rows.new.rows.items) (λ i x y. same x y i) sorted.sorted in
    looks_made old (state g.S.Store c.take_rows.new.conn) c.in_ok-rows.rows (λ rows. AreTested f c.args.keep old.now.trees rows.items)
    (Ok c.sort_rows.new.rows) (λ rows. AreStoredAs f old.now.trees × (IsTrue c.args.keep → AreRowsOf f old.now.trees rows.items))
    (λ here tested. found f g.met.R.StoredRow.order c.args.keep old.now.trees c.in_ok-rows.rows.items c.sort_rows.new.rows.items
    (shown_as f g.R.Parts.Cells.columns g.R.StoredRow.of g.met.R.StoredRow.made) tested sorted.same rises) (c.in_ok-rows.ensures.looks under (c.texts.ensures.asks under stands))

pub returns-in_err-rows-clause-cause : goal.returns-in_err-rows-clause-cause
returns-in_err-rows-clause-cause g c under stands = λ clean here rows.
    let p = err_from_is_err_and c.from_residual.result c.from_residual.ensures.1 in
    same_error c.take_rows.result c.from_residual.result c.in_err-rows.field-0.0 _ c.in_err-rows.was
    (p.1 ∙ ap Err p.2) (c.take_rows.ensures.cause under (c.texts.ensures.asks under stands) clean here rows)
