use Rattle.std.proofs.Common.{◌≡◌, ◌∙◌, ap, sym, subst, map, List, true, false}
use Rattle.std.proofs.lemmas.Result.{err_from_is_err_and}
use Rattle.std.specs.Prelude.{IfErr}
use Rattle.mr_base.specs.declared.refusals.Refusal.TheVariants.{OutOfMemory}
use Rattle.std.specs.BTreeMap.{insert_entry}
use Rattle.std.specs.List.{AllByRecursion}
use Rattle.mr_model.specs.Tables.{ErrorRow}
use Rattle.mr_base.specs.Ids.{id_cmp}
use Rattle.mr_tables.specs.Boards.{error_entry, put_entries, IsRowWithin}
use Rattle.mr_tables.proofs.BoardEntries.{put_passed, pass_over}
use Rattle.mr_part.specs.RowTests.{has_error}
use Rattle.mr_part.proofs.Picking.{of_picked, all_passed, all_over}
use Rattle.mr_part.proofs.scope.board.put_logged.Goals as goal
use Rattle.mr_part.proofs.scope.board.put_logged.Goals.{then-has_error+in_ok-put_errors, else-has_error}

pub loop-row-preserved : goal.loop-row-preserved
loop-row-preserved c =
    let row = c.row-item.result in
    let rows = c.args.rows.now in
    let k = c.loop-row.row-index in
    let test = has_error c.args.test.now in
    let limits = λ (r : ErrorRow). IsRowWithin r.n r.start r.stop in
    elim c.if-has_error.branch [
      | then-has_error+in_ok-put_errors w ↦
          (let passed : test row ≡ true = sym c.has_error.ensures ∙ w.if-has_error.true in (
            w.board-is ∙ w.in_ok-put_errors.ensures.put
                ∙ ap (λ rs. put_entries (map error_entry rs) c.loop-row.board) w.from_ref.ensures.value
                ∙ (λ i. insert_entry id_cmp (c.loop-row.invariant.0 i) (error_entry row).0 (error_entry row).1)
                ∙ put_passed test error_entry rows k row c.args.board.now c.loop-row-test.true c.row-item.is passed,
            all_passed limits test rows k row c.loop-row.invariant.1 (subst (λ (rs : List ErrorRow). AllByRecursion (λ r. IsRowWithin r.n r.start r.stop) rs)
                w.from_ref.ensures.value w.in_ok-put_errors.ensures.within).0 c.loop-row-test.true c.row-item.is passed,
          ))
      | else-has_error w ↦
          (let over : test row ≡ false = sym c.has_error.ensures ∙ w.if-has_error.false in (
            w.board-is ∙ c.loop-row.invariant.0 ∙ pass_over test error_entry rows k row c.args.board.now c.loop-row-test.true c.row-item.is over,
            all_over limits test rows k row c.loop-row.invariant.1 c.loop-row-test.true c.row-item.is over,
          ))
    ]

pub returns-in_err-put_errors-clause-only : goal.returns-in_err-put_errors-clause-only
returns-in_err-put_errors-clause-only c = λ ok.
    let row = c.row-item.result in
    let rows = c.args.rows.now in
    let test = has_error c.args.test.now in
    let passed : test row ≡ true = sym c.has_error.ensures ∙ c.if-has_error.true in
    let within = of_picked (λ (r : ErrorRow). IsRowWithin r.n r.start r.stop) test rows c.loop-row.row-index row ok c.loop-row-test.true c.row-item.is passed in
    let one = subst (λ (rs : List ErrorRow). AllByRecursion (λ r. IsRowWithin r.n r.start r.stop) rs) (sym c.from_ref.ensures.value) (within, tt) in
    let p = err_from_is_err_and c.from_residual.result c.from_residual.ensures.1 in
    subst (λ r. IfErr r (λ e. e ≡ OutOfMemory)) (sym p.1) (p.2 ∙ c.in_err-put_errors.ensures.only one)
