use Rattle.std.proofs.Common.{Err, ap, subst, sym, ◌∙◌, rules, arith}
use Rattle.std.specs.List.{AllByRecursion}
use Rattle.std.proofs.lemmas.Result.{err_from_is_err_and}
use Rattle.sqlite_disk.specs.Disk.{MoreFaults}
use Rattle.sqlite_exec.proofs.CheckLemmas as lemma
use Rattle.mr_rows.specs.Shown.{IsStoredAs}
use Rattle.mr_trees.specs.Scanned.{picks}
use Rattle.mr_trees.proofs.ScanLemmas.{begun, picked_more, cause_of_row}
use Rattle.mr_trees.proofs.scans.scan.Goals as goal

pub rows-init : goal.rows-init
rows-init g c = record {
  there = search rules;
  reads = search rules;
  quiet = search rules;
  rows = λ clean. rw (
    c.new-out.ensures.items,
    begun (g.S.Store.view c.args.store.now) (g.S.Store.view c.seek.new.self) _ c.tree.result g.R.StoredRow.form.table.tree _ c.new-row.ensures c.tree.ensures (c.in_ok-seek.ensures.ok clean),
  );
  stored = λ clean all. subst (AllByRecursion (IsStoredAs g.R.StoredRow.form)) (sym (begun (g.S.Store.view c.args.store.now)
      (g.S.Store.view c.seek.new.self) _ c.tree.result g.R.StoredRow.form.table.tree _ c.new-row.ensures c.tree.ensures (c.in_ok-seek.ensures.ok clean))) all;
}

pub returns-in_err-take_one-clause-cause : goal.returns-in_err-take_one-clause-cause
returns-in_err-take_one-clause-cause g c =
    let p = err_from_is_err_and c.from_residual-in_err-take_one.result c.from_residual-in_err-take_one.ensures.1 in
    cause_of_row _ (MoreFaults (g.S.Store.faults c.args.store.now) (g.S.Store.faults c.next.new.self)) _ _
    (g.S.Store.view c.args.store.now) c.from_residual-in_err-take_one.result c.in_err-take_one.field-0.0 (p.1 ∙ ap Err p.2) c.in_err-take_one.ensures.refused
    (λ clean not all.
    let step = lemma.stepped _ _ 0 c.next.new.row (rw c.if-not-branch.false at (c.in_ok-next.ensures.ok clean)) in
    not (subst (AllByRecursion (IsStoredAs g.R.StoredRow.form)) step (c.rows.invariant.stored (omega (arith, c.next.ensures.quiet.clean, clean)) (g.met.R.TreeRow.among _ all))).0)

pub rows-preserved : goal.rows-preserved
rows-preserved g c = record {
  there = search rules;
  reads = search rules;
  quiet = search rules;
  rows = λ clean.
      let step = lemma.stepped _ _ 0 c.next.new.row (rw c.if-not-branch.false at (c.in_ok-next.ensures.ok clean)) in
      picked_more g.R.StoredRow.form.row_in (picks c.args.picked) _ _ _ _ _ _ c.in_ok-take_one.ensures.taken step (c.rows.invariant.rows (omega (arith, c.next.ensures.quiet.clean, clean)));
  stored = λ clean all.
      let step = lemma.stepped _ _ 0 c.next.new.row (rw c.if-not-branch.false at (c.in_ok-next.ensures.ok clean)) in
      (subst (AllByRecursion (IsStoredAs g.R.StoredRow.form)) step (c.rows.invariant.stored (omega (arith, c.next.ensures.quiet.clean, clean)) all)).1;
}
