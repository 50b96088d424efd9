use Rattle.std.proofs.Common.{◌≡◌, sym, ap, subst, arith, w64, rules, SFits}
use Rattle.std.proofs.lemmas.Int.{to_z-of_z}
use Rattle.std.proofs.lemmas.Result.{on_ok_weaker}
use Rattle.sqlite_value.specs.Order.{Row}
use Rattle.sqlite_trees.specs.View.{View, IsClean}
use Rattle.sqlite_trees.specs.Tree.{put_row}
use Rattle.sqlite_exec.specs.Calls.{SetsTable}
use Rattle.mr_tables.specs.TableOrders.{number_order}
use Rattle.mr_rows.specs.ChangeParts.{put_meta}
use Rattle.mr_changes.proofs.StepLemmas.{puts_meta, makes_after_reads, reads_fit, read_step, write_step, step_then}
use Rattle.mr_changes.proofs.meta.put_meta.Goals as goal

pub returns-in_err-id-clause-step : goal.returns-in_err-id-clause-step
returns-in_err-id-clause-step g c =
    read_step g.S.Store c.args.store.now c.place_of_meta.new.store c.place_of_meta.result c.place_of_meta.ensures.quiet c.place_of_meta.ensures.reads c.place_of_meta.ensures.err

pub returns-in_err-row-clause-step : goal.returns-in_err-row-clause-step
returns-in_err-row-clause-step g c =
    read_step g.S.Store c.args.store.now c.place_of_meta.new.store c.place_of_meta.result c.place_of_meta.ensures.quiet c.place_of_meta.ensures.reads c.place_of_meta.ensures.err

pub returns-clause-put : goal.returns-clause-put
returns-clause-put g c =
    on_ok_weaker c.put.result
    (λ set clean.
    let old = g.S.Store.view c.args.store.now in
    let mid = g.S.Store.view c.place_of_meta.new.store in
    let new = g.S.Store.view c.put.new.store in
    let id = c.in_ok-id.id in
    let between : IsClean mid = omega (arith, clean, c.put.ensures.quiet.clean) in
    let was : IsClean old = omega (arith, between, c.place_of_meta.ensures.quiet.clean) in
    let reads = c.in_ok-id.ensures.reads between in
    let same : mid.trees ≡ old.trees = ap (λ (v : View). v.trees) reads in
    let fit = reads_fit old mid reads (c.requires.fit was) in
    let place = rw (sym same) at (c.in_ok-id.ensures.place between) in
    let fits : SFits w64 id = search rules in
    let stored = rw (to_z-of_z w64 id fits) at c.in_ok-row.ensures in
    let sets = subst (λ (r : Row). SetsTable c.indexes.result.now mid new 0 (put_row r (mid.trees 0))) stored (set clean) in
    makes_after_reads old mid new (put_meta c.args.meta.now) reads (puts_meta c.indexes.result.now c.indexes.ensures.indexed number_order mid new id c.args.meta.now fit place sets)) c.put.ensures.ok

pub returns-clause-step : goal.returns-clause-step
returns-clause-step g c =
    step_then g.S.Store c.args.store.now c.place_of_meta.new.store c.put.new.store
    (read_step g.S.Store c.args.store.now c.place_of_meta.new.store c.place_of_meta.result c.place_of_meta.ensures.quiet c.place_of_meta.ensures.reads c.place_of_meta.ensures.err)
    (write_step g.S.Store c.place_of_meta.new.store c.put.new.store c.put.result c.put.ensures.quiet c.put.ensures.frame c.put.ensures.err)
