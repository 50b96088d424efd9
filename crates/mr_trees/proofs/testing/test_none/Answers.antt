use Rattle.std.proofs.Common.{◌≡◌, [], refl, sym, ap, ◌∙◌, arith}
use Rattle.std.specs.Prelude.{unwrap_or}
use Rattle.sqlite_trees.specs.View.{IsClean}
use Rattle.sqlite_exec.specs.Loops.{left_of}
use Rattle.mr_trees.proofs.ScanLemmas.{begun}
use Rattle.mr_trees.proofs.testing.test_none.Goals as goal

pub returns-clause-none : goal.returns-clause-none
returns-clause-none g c clean =
    let before : IsClean (g.S.Store.view c.seek.new.self) = omega (arith, c.next.ensures.quiet.clean, clean) in
    let begin = begun (g.S.Store.view c.args.store.now) (g.S.Store.view c.seek.new.self) _ c.args.tree c.args.tree _ c.new-row.ensures refl (c.in_ok-seek.ensures.ok before) in
    let rest : left_of (g.S.Store.view c.seek.new.self) 0 ≡ [] = ap (λ o. unwrap_or o []) (rw c.if-branch.false at (c.in_ok-next.ensures.ok clean)).0 in
    sym begin ∙ rest
