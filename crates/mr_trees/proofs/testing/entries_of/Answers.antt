use Rattle.std.proofs.Common.{subst, rules}
use Rattle.std.specs.List.{AllByRecursion}
use Rattle.mr_rows.specs.Shown.{IsStoredAs}
use Rattle.mr_trees.proofs.ScanLemmas.{begun}
use Rattle.mr_trees.proofs.testing.entries_of.Goals as goal

pub rows-init : goal.rows-init
rows-init g c = record {
  there = search rules;
  reads = search rules;
  quiet = search rules;
  stored = λ clean all. subst (AllByRecursion (IsStoredAs g.R.StoredRow.form))
      (begun (g.S.Store.view c.args.store.now) (g.S.Store.view c.seek.new.self) _ c.tree.result g.R.StoredRow.form.table.tree _ c.new-row.ensures c.tree.ensures (c.in_ok-seek.ensures.ok clean)) all;
}
