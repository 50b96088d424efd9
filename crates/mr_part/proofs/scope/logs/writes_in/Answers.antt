use Rattle.std.proofs.Common.{rules, Ok, Err, ◌∙◌, ap, sym, subst, ◌∷◌, [], ◌++◌, drop, ◌+◌}
use Rattle.std.proofs.lemmas.List.{at_drop_all}
use Rattle.std.specs.List.{filter}
use Rattle.mr_part.specs.RowTests.{log_row_of, passes_log_test}
use Rattle.mr_tables.proofs.LogRows.{answered, never_refused}
use Rattle.mr_part.proofs.PickedRows.{row_read}
use Rattle.mr_part.proofs.Picking.{IsDone, first_left, all_done, picked_here, left_here}
use Rattle.mr_part.proofs.scope.logs.writes_in.Goals as goal
use Rattle.mr_part.proofs.scope.logs.writes_in.Goals.{then-passes+in_ok-kept_row+in_ok-push, else-passes}

pub returns-in_err-kept_row-clause-only : goal.returns-in_err-kept_row-clause-only
returns-in_err-kept_row-clause-only c = λ xs ok e.
    let test = passes_log_test c.args.test.now in
    let here = picked_here test c.args.rows.now c.loop-row.row-index c.row-item.result c.loop-row-test.true c.row-item.is (sym c.passes.ensures ∙ c.if-passes.true) in
    let left = first_left log_row_of xs c.loop-row.writes.items c.row-item.result (filter test (drop (c.loop-row.row-index + 1) c.args.rows.now))
    (subst (IsDone log_row_of xs c.loop-row.writes.items) here (c.loop-row.invariant xs ok e)) in
    let only = never_refused left.first c.in_err-kept_row.field-0.0
    (row_read xs left.first c.row-item.result (Err c.in_err-kept_row.field-0.0) ok left.has left.row_is c.in_err-kept_row.ensures.read) in
    search (rules, only)

pub loop-row-preserved : goal.loop-row-preserved
loop-row-preserved c = λ xs ok e.
    let test = passes_log_test c.args.test.now in
    elim c.if-passes.branch [
      | then-passes+in_ok-kept_row+in_ok-push w ↦
          (let here = picked_here test c.args.rows.now c.loop-row.row-index c.row-item.result c.loop-row-test.true c.row-item.is (sym c.passes.ensures ∙ w.if-passes.true) in
          let left = first_left log_row_of xs c.loop-row.writes.items c.row-item.result (filter test (drop (c.loop-row.row-index + 1) c.args.rows.now))
          (subst (IsDone log_row_of xs c.loop-row.writes.items) here (c.loop-row.invariant xs ok e)) in
          let one = answered w.in_ok-kept_row.field-0 left.first (row_read xs left.first c.row-item.result (Ok w.in_ok-kept_row.field-0) ok left.has left.row_is w.in_ok-kept_row.ensures.read) in
          let items = ap (λ v. v.items) w.writes-is ∙ w.in_ok-push.ensures.items ∙ ap (λ x. c.loop-row.writes.items ++ x ∷ []) one in
          subst (λ done. IsDone log_row_of xs done (filter test (drop (c.loop-row.row-index + 1) c.args.rows.now))) (sym items) left.next)
      | else-passes w ↦
          (let here = left_here test c.args.rows.now c.loop-row.row-index c.row-item.result c.loop-row-test.true c.row-item.is (sym c.passes.ensures ∙ w.if-passes.false) in
          let done = subst (IsDone log_row_of xs c.loop-row.writes.items) here (c.loop-row.invariant xs ok e) in
          subst (λ items. IsDone log_row_of xs items (filter test (drop (c.loop-row.row-index + 1) c.args.rows.now))) (sym (ap (λ v. v.items) w.writes-is)) done)
    ]

pub returns-clause-writes : goal.returns-clause-writes
returns-clause-writes c = λ xs ok e.
    let test = passes_log_test c.args.test.now in
    let none = at_drop_all (filter test) c.args.rows.now c.loop-row.row-index c.loop-row-test.false in
    all_done log_row_of xs c.loop-row.writes.items (subst (IsDone log_row_of xs c.loop-row.writes.items) none (c.loop-row.invariant xs ok e))
