use Rattle.std.proofs.Common.{arith, sym, ◌∙◌}
use Rattle.sqlite_trees.specs.View.{IsClean}
use Rattle.mr_trees.proofs.OpenLemmas.{of_any, open_if_sound}
use Rattle.mr_trees.proofs.questions.answer_unbroken.Goals as goal

pub returns-clause-asked : goal.returns-clause-asked
returns-clause-asked g c =
    of_any c.answer.result (λ clean.
    let less = c.answer.ensures.quiet.clean in
    let before : IsClean (g.S.Store.view c.args.store.now) = omega (arith, less, clean) in
    let view = g.S.Store.view c.args.store.now in
    open_if_sound view.is_open view.is_broken (g.met.S.Store.broken_if_shut c.args.store.now) (sym (c.is_broken.ensures before) ∙ c.if-is_broken.false))
