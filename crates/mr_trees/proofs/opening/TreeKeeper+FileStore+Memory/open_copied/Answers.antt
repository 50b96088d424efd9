use Rattle.std.proofs.Common.{subst, sym, ◌∙◌}
use Rattle.sqlite_wal.specs.Recovery.{Image}
use Rattle.sqlite_pool.specs.Stored.{Recovers}
use Rattle.mr_rows.specs.Shown.{AreOurRows}
use Rattle.mr_trees.proofs.opening.TreeKeeper+FileStore+Memory.open_copied.Goals as goal

pub returns-clause-found : goal.returns-clause-found
returns-clause-found c clean =
    let found = c.in_ok-store.ensures.found (c.in_ok-keeper.ensures.clean clean) in
    let at = found.1 in
    (found.0, (at.0, at.1, at.2, subst (λ (i : Image). Recovers 4096 i at.0) c.in-Ok.ensures.held at.3, c.in_ok-keeper.ensures.trees clean ∙ at.4))

pub returns-clause-rows : goal.returns-clause-rows
returns-clause-rows c clean = subst AreOurRows (sym (c.in_ok-keeper.ensures.trees clean)) (c.in_ok-keeper.ensures.rows clean)
