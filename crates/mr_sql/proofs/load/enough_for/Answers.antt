use Rattle.std.proofs.Common.{Ok, Some, ap, subst}
use Rattle.sqlite.specs.Held.{state}
use Rattle.mr_model.specs.Scopes.{in_scope}
use Rattle.mr_part.specs.NextId.{id_given}
use Rattle.mr_part.specs.ScopeOf.{scope_of}
use Rattle.mr_store.specs.Taken.{is_id_taken}
use Rattle.mr_rows.specs.Database.{tables_in}
use Rattle.mr_rows.proofs.QueryLemmas.{in_use}
use Rattle.mr_sql.specs.Enough.{AreEnough}
use Rattle.mr_sql.specs.Found.{AreFresh}
use Rattle.mr_sql.proofs.FreshLemmas.{uses_same}
use Rattle.mr_sql.proofs.load.enough_for.Goals as goal

pub returns-in-Some-clause-reads : goal.returns-in-Some-clause-reads
returns-in-Some-clause-reads g c =
    let old = state g.S.Store c.args.conn.now in
    let scope = scope_of c.args.scope.now in
    uses_same old (Ok c.in-Some.tables) (AreEnough scope (tables_in old.now.trees))
    (λ clean now.
    let is : AreFresh (Some c.in-Some.tables) old = subst (λ rows. AreFresh rows old) c.in-Some.is (c.requires.fresh clean now) in
    (ap (in_scope scope) is, λ own. ap (is_id_taken (id_given scope own)) is))

pub returns-in-None-clause-reads : goal.returns-in-None-clause-reads
returns-in-None-clause-reads g c = in_use (state g.S.Store c.args.conn.now) (state g.S.Store c.read_enough.new.conn) c.read_enough.result _ c.read_enough.ensures.reads
