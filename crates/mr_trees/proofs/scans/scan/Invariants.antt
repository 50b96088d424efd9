use Rattle.std.proofs.Common.{◌≡◌, ◌++◌, map, filter, IsSome}
use Rattle.std.specs.List.{AllByRecursion}
use Rattle.sqlite_trees.specs.View.{IsClean, IsQuiet}
use Rattle.sqlite_exec.specs.Calls.{OnlyReads}
use Rattle.sqlite_exec.specs.Loops.{left_of}
use Rattle.mr_rows.specs.Shown.{IsStoredAs, AreStoredAs}
use Rattle.mr_trees.specs.Scanned.{picks}
use Rattle.mr_trees.proofs.scans.scan.Given as goal

-- the rows that were read so far are those of the room, and with those that are left they are all
abbrev pub invariant-rows : goal.invariant-rows
invariant-rows g l =
    let old = g.S.Store.view l.fn.store in
    let now = g.S.Store.view l.store in
    let f = g.R.StoredRow.form in
    record {
      there : IsSome (now.cursors 0);
      reads : IsClean now → OnlyReads old now;
      quiet : IsQuiet g.S.Store.view g.S.Store.faults g.S.Store.recovers g.S.Store.is_shielded l.fn.store l.store;
      rows : IsClean now → l.out.items ++ map f.row_in (filter (picks l.picked) (left_of now 0)) ≡ map f.row_in (filter (picks l.picked) (old.trees f.table.tree));
      stored : IsClean now → AreStoredAs f old.trees → AllByRecursion (IsStoredAs f) (left_of now 0);
    }
