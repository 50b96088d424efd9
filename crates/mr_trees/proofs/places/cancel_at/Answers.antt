use Rattle.std.proofs.Common.{◌∙◌}
use Rattle.mr_trees.proofs.TableLemmas.{cancel_shown}
use Rattle.mr_trees.proofs.places.cancel_at.Goals as goal

pub returns-in-Some-clause-ok : goal.returns-in-Some-clause-ok
returns-in-Some-clause-ok g c clean unbooked unlogged untaken =
    (unbooked, unlogged, untaken, cancel_shown c.args.room.now c.args.id (g.S.Store.view c.args.store.now).trees ∙ c.in_ok-row.ensures.ok clean ∙ c.in-Some.is)

pub returns-in-None-clause-ok : goal.returns-in-None-clause-ok
returns-in-None-clause-ok g c clean unbooked unlogged untaken =
    (unbooked, unlogged, untaken, cancel_shown c.args.room.now c.args.id (g.S.Store.view c.args.store.now).trees ∙ c.in_ok-row.ensures.ok clean ∙ c.in-None.is)
