use Rattle.std.proofs.Common.{rules, ◌∙◌, sym, subst, List, map}
use Rattle.std.specs.List.Sorted.{IsPermutation}
use Rattle.mr_part.specs.declared.kept_rows.KeptRow.{KeptRow}
use Rattle.mr_part.specs.KeptRows.{kept_row}
use Rattle.mr_part.specs.RowTests.{passes_log_test}
use Rattle.mr_part.proofs.PickedRows.{rows_of_logged, logged_within, picked_sorted}
use Rattle.mr_part.proofs.scope.logs.writes_where.Goals as goal

pub returns-clause-writes : goal.returns-clause-writes
returns-clause-writes c = λ a ws h p.
    let xs = map (kept_row a) p.by_key in
    let read = c.in_ok-writes.ensures.writes xs (logged_within a p.by_key h (λ w g. p.known w ((p.same w).0 g))) (p.rows_are ∙ sym (rows_of_logged a p.by_key)) in
    let moved = subst (λ (ys : List KeptRow). IsPermutation ys c.sort_rows.new.rows.items) read c.sort_rows.ensures.moved in
    picked_sorted a (passes_log_test c.args.test.now) c.args.rows.now ws p c.sort_rows.new.rows.items moved c.sort_rows.ensures.sorted

pub returns-in_err-writes-clause-only : goal.returns-in_err-writes-clause-only
returns-in_err-writes-clause-only c = λ a ws h p.
    let xs = map (kept_row a) p.by_key in
    let only = c.in_err-writes.ensures.only xs (logged_within a p.by_key h (λ w g. p.known w ((p.same w).0 g))) (p.rows_are ∙ sym (rows_of_logged a p.by_key)) in
    search (rules, only)
