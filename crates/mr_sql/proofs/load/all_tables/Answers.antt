use Rattle.std.proofs.Common.{◌≡◌, Ok, subst}
use Rattle.sqlite.specs.Held.{state}
use Rattle.mr_rows.specs.Database.{tables_in}
use Rattle.mr_rows.proofs.QueryLemmas.{in_use}
use Rattle.mr_sql.specs.Found.{AreFresh}
use Rattle.mr_sql.proofs.FreshLemmas.{uses_same}
use Rattle.mr_sql.proofs.FailedReads.{alone}
use Rattle.mr_sql.proofs.load.all_tables.Goals as goal

pub returns-in-Some-clause-reads : goal.returns-in-Some-clause-reads
returns-in-Some-clause-reads g c =
    let old = state g.S.Store c.args.conn.now in
    uses_same old (Ok c.in-Some.tables) (λ t. t ≡ tables_in old.now.trees) (λ clean now. subst (λ rows. AreFresh rows old) c.in-Some.is (c.requires.fresh clean now))

pub returns-in-None-clause-reads : goal.returns-in-None-clause-reads
returns-in-None-clause-reads g c = in_use (state g.S.Store c.args.conn.now) (state g.S.Store c.read_tables.new.conn) c.read_tables.result _ c.read_tables.ensures.reads

pub returns-in-None-clause-failed : goal.returns-in-None-clause-failed
returns-in-None-clause-failed g c = alone (state g.S.Store c.args.conn.now) (state g.S.Store c.read_tables.new.conn) c.read_tables.result c.read_tables.ensures.cause
