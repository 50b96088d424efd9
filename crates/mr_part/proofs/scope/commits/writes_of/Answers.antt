use Rattle.std.proofs.Common.{rules, Ok, Err, ◌∙◌, ap, sym, subst, ◌∷◌, [], ◌++◌, drop, map, ◌+◌}
use Rattle.std.proofs.lemmas.List.{drop_more, at_drop_all}
use Rattle.mr_part.specs.RowTests.{log_row_of}
use Rattle.mr_tables.proofs.LogRows.{answered, never_refused}
use Rattle.mr_part.proofs.PickedRows.{row_read}
use Rattle.mr_part.proofs.Picking.{IsDone, first_left, all_done}
use Rattle.mr_part.proofs.scope.commits.writes_of.Goals as goal

pub returns-in_err-kept_row-clause-only : goal.returns-in_err-kept_row-clause-only
returns-in_err-kept_row-clause-only c = λ xs ok e.
    let rows = c.args.rows.now in
    let row = c.row-item.result in
    let here = ap (map (λ r. r.now)) (drop_more rows c.loop-row.row-index row c.loop-row-test.true ∙ ap (λ r. r ∷ drop (c.loop-row.row-index + 1) rows) (sym c.row-item.is)) in
    let left = first_left log_row_of xs c.loop-row.writes.items row.now (map (λ r. r.now) (drop (c.loop-row.row-index + 1) rows))
    (subst (IsDone log_row_of xs c.loop-row.writes.items) here (c.loop-row.invariant xs ok e)) in
    let only = never_refused left.first c.in_err-kept_row.field-0.0 (row_read xs left.first row.now (Err c.in_err-kept_row.field-0.0) ok left.has left.row_is c.in_err-kept_row.ensures.read) in
    search (rules, only)

pub loop-row-preserved : goal.loop-row-preserved
loop-row-preserved c = λ xs ok e.
    let rows = c.args.rows.now in
    let row = c.row-item.result in
    let rest = map (λ r. r.now) (drop (c.loop-row.row-index + 1) rows) in
    let here = ap (map (λ r. r.now)) (drop_more rows c.loop-row.row-index row c.loop-row-test.true ∙ ap (λ r. r ∷ drop (c.loop-row.row-index + 1) rows) (sym c.row-item.is)) in
    let left = first_left log_row_of xs c.loop-row.writes.items row.now rest (subst (IsDone log_row_of xs c.loop-row.writes.items) here (c.loop-row.invariant xs ok e)) in
    let one = answered c.in_ok-kept_row.field-0 left.first (row_read xs left.first row.now (Ok c.in_ok-kept_row.field-0) ok left.has left.row_is c.in_ok-kept_row.ensures.read) in
    let items = c.in_ok-push.ensures.items ∙ ap (λ x. c.loop-row.writes.items ++ x ∷ []) one in
    subst (λ done. IsDone log_row_of xs done rest) (sym items) left.next

pub returns-clause-writes : goal.returns-clause-writes
returns-clause-writes c = λ xs ok e.
    let none = at_drop_all (map (λ r. r.now)) c.args.rows.now c.loop-row.row-index c.loop-row-test.false in
    all_done log_row_of xs c.loop-row.writes.items (subst (IsDone log_row_of xs c.loop-row.writes.items) none (c.loop-row.invariant xs ok e))
