use Rattle.std.proofs.Common.{IsSome}
use Rattle.std.specs.List.{AllByRecursion}
use Rattle.sqlite_trees.specs.View.{IsClean, IsQuiet}
use Rattle.sqlite_exec.specs.Calls.{OnlyReads}
use Rattle.sqlite_exec.specs.Loops.{left_of}
use Rattle.mr_rows.specs.Shown.{IsStoredAs, AreStoredAs}
use Rattle.mr_trees.proofs.testing.entries_of.Given as goal

-- if the rows that are left are the table's own, all are
abbrev pub invariant-rows : goal.invariant-rows
invariant-rows g l =
    let old = g.S.Store.view l.fn.store in
    let now = g.S.Store.view l.store in
    let f = g.R.StoredRow.form in
    record {
      there : IsSome (now.cursors 0);
      reads : IsClean now → OnlyReads old now;
      quiet : IsQuiet g.S.Store.view g.S.Store.faults g.S.Store.recovers g.S.Store.is_shielded l.fn.store l.store;
      stored : IsClean now → AllByRecursion (IsStoredAs f) (left_of now 0) → AreStoredAs f old.trees;
    }
