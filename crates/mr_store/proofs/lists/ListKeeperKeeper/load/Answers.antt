use Rattle.std.proofs.Common.{sym, ap, subst, ◌∙◌}
use Rattle.mr_model.specs.Tables.{Stands}
use Rattle.mr_replica.specs.Desk.{StandsFor, IsWithinLimits}
use Rattle.mr_store.specs.KeeperCalls.{failures_after}
use Rattle.mr_store.specs.KeeperLists.{ListsView}
use Rattle.mr_store.proofs.Told.{passed_on, quiet_lists}
use Rattle.mr_store.proofs.lists.ListKeeperKeeper.load.Goals as goal

pub returns-clause-quiet : goal.returns-clause-quiet
returns-clause-quiet c =
    let tables = ap (λ (k : ListsView). k.tables) c.self.view_is in
    quiet_lists c.args.self.now (record { tables = c.self.inside.memory; failures = c.counted.new.failures }) c.counted.result tables
    (c.counted.ensures.counted ∙ ap (λ (k : ListsView). failures_after c.counted.result k.failures) c.self.view_is)
    (λ a h. c.counted.ensures.memory (c.told.ensures.memory (c.load.ensures.only a (subst (λ t. Stands t a) (sym tables) h))) ∙ ap (λ (k : ListsView). k.failures) c.self.view_is)

pub returns-clause-loaded : goal.returns-clause-loaded
returns-clause-loaded c = λ clean opens a h.
    passed_on (λ desk. StandsFor desk a) c.told.result c.counted.result c.counted.ensures.ok c.counted.ensures.err
    (passed_on (λ desk. StandsFor desk a) c.load.result c.told.result c.told.ensures.ok c.told.ensures.err
    (c.load.ensures.loaded a (subst (λ t. Stands t a) (sym (ap (λ (k : ListsView). k.tables) c.self.view_is)) h)))

pub returns-clause-within : goal.returns-clause-within
returns-clause-within c =
    passed_on IsWithinLimits c.told.result c.counted.result c.counted.ensures.ok c.counted.ensures.err
    (passed_on IsWithinLimits c.load.result c.told.result c.told.ensures.ok c.told.ensures.err c.load.ensures.within)
