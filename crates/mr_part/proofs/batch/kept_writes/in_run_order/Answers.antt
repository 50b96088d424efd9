use Rattle.std.proofs.Common.{List, subst}
use Rattle.std.specs.List.Sorted.{IsPermutation}
use Rattle.mr_part.specs.declared.kept_rows.KeptRow.{KeptRow}
use Rattle.mr_part.proofs.KeptWrites.{run_sorted}
use Rattle.mr_part.proofs.batch.kept_writes.in_run_order.Goals as goal

pub returns-clause-sorted : goal.returns-clause-sorted
returns-clause-sorted c = λ a r inside sound has.
    let moved = subst (λ (ys : List KeptRow). IsPermutation ys c.sort_rows.new.rows.items) c.in_ok-rows.ensures.values c.sort_rows.ensures.moved in
    run_sorted a r inside c.args.kept sound c.all_of.ensures.ordered has c.sort_rows.new.rows.items moved c.sort_rows.ensures.sorted
