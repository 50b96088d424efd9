use Rattle.std.proofs.Common.{◌≡◌, false, sym, ap, subst, ◌∙◌}
use Rattle.std.specs.Prelude.{IfOk}
use Rattle.mr_model.specs.Tables.{Stands}
use Rattle.mr_part.specs.NextId.{id_given}
use Rattle.mr_part.specs.Parts.{IsPartOf}
use Rattle.mr_part.specs.ScopeOf.{scope_of}
use Rattle.mr_tables.specs.Summary.{IsWithin}
use Rattle.mr_replica.specs.Taken.{is_id_taken}
use Rattle.mr_store.specs.KeeperCalls.{failures_after}
use Rattle.mr_store.specs.KeeperLists.{ListsView}
use Rattle.mr_store.proofs.Told.{passed_on, quiet_lists}
use Rattle.mr_store.proofs.lists.ListKeeperKeeper.load_part.Goals as goal

pub returns-clause-quiet : goal.returns-clause-quiet
returns-clause-quiet c =
    let tables = c.want_board.ensures ∙ ap (λ (k : ListsView). k.tables) c.self.view_is in
    quiet_lists c.args.self.now (record { tables = c.want_board.new.self; failures = c.counted.new.failures }) c.counted.result tables
    (c.counted.ensures.counted ∙ ap (λ (k : ListsView). failures_after c.counted.result k.failures) c.self.view_is)
    (λ a h. c.counted.ensures.memory (c.told.ensures.memory (c.load_part.ensures.only a (subst (λ t. Stands t a) (sym tables) h))) ∙ ap (λ (k : ListsView). k.failures) c.self.view_is)

pub returns-clause-loaded : goal.returns-clause-loaded
returns-clause-loaded c = λ clean opens a h.
    passed_on (λ part. IsPartOf part (scope_of c.args.scope.now) a) c.told.result c.counted.result c.counted.ensures.ok c.counted.ensures.err
    (passed_on (λ part. IsPartOf part (scope_of c.args.scope.now) a) c.load_part.result c.told.result c.told.ensures.ok c.told.ensures.err
    (c.load_part.ensures.loaded a (subst (λ t. Stands t a) (sym (c.want_board.ensures ∙ ap (λ (k : ListsView). k.tables) c.self.view_is)) h)))

pub returns-clause-free : goal.returns-clause-free
returns-clause-free c = λ clean opens.
    subst (λ t. IfOk c.counted.result (λ part. is_id_taken (id_given (scope_of c.args.scope.now) part.summary) t ≡ false)) (c.want_board.ensures ∙ ap (λ (k : ListsView). k.tables) c.self.view_is)
    (passed_on (λ part. is_id_taken (id_given (scope_of c.args.scope.now) part.summary) c.want_board.new.self ≡ false) c.told.result c.counted.result c.counted.ensures.ok c.counted.ensures.err
    (passed_on (λ part. is_id_taken (id_given (scope_of c.args.scope.now) part.summary) c.want_board.new.self ≡ false)
    c.load_part.result c.told.result c.told.ensures.ok c.told.ensures.err c.load_part.ensures.free))

pub returns-clause-within : goal.returns-clause-within
returns-clause-within c =
    passed_on (λ part. IsWithin part.summary) c.told.result c.counted.result c.counted.ensures.ok c.counted.ensures.err
    (passed_on (λ part. IsWithin part.summary) c.load_part.result c.told.result c.told.ensures.ok c.told.ensures.err c.load_part.ensures.within)
