use Rattle.std.proofs.Common.{◌≡◌, ap}
use Rattle.sqlite.specs.Held.{state}
use Rattle.mr_model.specs.Scopes.{in_scope}
use Rattle.mr_part.specs.NextId.{id_given}
use Rattle.mr_part.specs.ScopeOf.{scope_of}
use Rattle.mr_store.specs.Taken.{is_id_taken}
use Rattle.mr_rows.specs.Database.{tables_in}
use Rattle.mr_rows.proofs.QueryLemmas.{reads_so}
use Rattle.mr_sql.proofs.FailedReads.{alone}
use Rattle.mr_sql.proofs.load.read_enough.Goals as goal

pub returns-in_default-clause-reads : goal.returns-in_default-clause-reads
returns-in_default-clause-reads g c =
    let old = state g.S.Store c.args.conn.now in
    let scope = scope_of c.args.scope.now in
    reads_so old (state g.S.Store c.read_tables.new.conn) c.read_tables.result (λ t. t ≡ tables_in old.now.trees) _
    (λ kept t is. (ap (in_scope scope) is, λ own. ap (is_id_taken (id_given scope own)) is)) c.read_tables.ensures.reads

pub returns-in_default-clause-failed : goal.returns-in_default-clause-failed
returns-in_default-clause-failed g c = alone (state g.S.Store c.args.conn.now) (state g.S.Store c.read_tables.new.conn) c.read_tables.result c.read_tables.ensures.cause
