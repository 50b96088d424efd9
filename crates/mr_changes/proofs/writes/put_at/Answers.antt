use Rattle.std.proofs.Common.{subst, arith, w64}
use Rattle.std.proofs.lemmas.Int.{to_z-of_z}
use Rattle.std.proofs.lemmas.Result.{on_ok_weaker}
use Rattle.sqlite_value.specs.Order.{Row}
use Rattle.sqlite_trees.specs.View.{IsClean}
use Rattle.sqlite_trees.specs.Tree.{put_row}
use Rattle.sqlite_exec.specs.Calls.{SetsTable}
use Rattle.mr_changes.proofs.StepLemmas.{puts_one, step_none, write_step}
use Rattle.mr_changes.proofs.writes.put_at.Goals as goal

pub returns-in_err-stored-clause-step : goal.returns-in_err-stored-clause-step
returns-in_err-stored-clause-step g c = step_none g.S.Store c.args.store.now

pub returns-clause-put : goal.returns-clause-put
returns-clause-put g c =
    on_ok_weaker c.put.result
    (λ set clean place.
    let f = g.R.StoredRow.form in
    let old = g.S.Store.view c.args.store.now in
    let new = g.S.Store.view c.put.new.store in
    let was : IsClean old = omega (arith, clean, c.put.ensures.quiet.clean) in
    let same = rw (to_z-of_z w64 c.args.id c.ranges.id) at c.in_ok-stored.ensures.stored in
    let back = rw (to_z-of_z w64 c.args.id c.ranges.id) at c.in_ok-stored.ensures.back in
    let sets = subst (λ (r : Row). SetsTable c.indexes.result.now old new c.table.result (put_row r (old.trees c.table.result))) same (set clean) in
    puts_one f g.met.R.StoredRow.order g.R.OurRow.rows_of g.R.OurRow.with_rows g.met.R.OurRow.is_ours c.indexes.result.now c.indexes.ensures.indexed old new c.table.result c.args.id
    c.table.ensures (c.requires.fit was) c.args.row.now back place sets) c.put.ensures.ok

pub returns-clause-step : goal.returns-clause-step
returns-clause-step g c = write_step g.S.Store c.args.store.now c.put.new.store c.put.result c.put.ensures.quiet c.put.ensures.frame c.put.ensures.err
