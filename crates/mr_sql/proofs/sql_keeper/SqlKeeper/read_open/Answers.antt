use Rattle.std.proofs.Common.{refl}
use Rattle.mr_rows.specs.Reads.{IsInUse}
use Rattle.mr_sql.proofs.CallLemmas.{quiet_ok, quiet_err}
use Rattle.mr_sql.proofs.sql_keeper.SqlKeeper.read_open.Goals as goal

pub returns-in-Ok-clause-quiet : goal.returns-in-Ok-clause-quiet
returns-in-Ok-clause-quiet g c =
    quiet_ok g.S.Store IsInUse (c.self.inside.conn, c.self.inside.failures) (c.read_agreeing.new.conn, c.self.inside.failures) (λ clean now. (c.self.invariant.0 clean now, now))
    c.args.self.now c.in-Ok.value c.self.view_is c.requires.open c.in-Ok.ensures.reads.0 c.in-Ok.ensures.reads.1 (λ clean held. (c.in-Ok.ensures.reads.2 clean held).0) refl

pub returns-in-Err-clause-quiet : goal.returns-in-Err-clause-quiet
returns-in-Err-clause-quiet g c =
    quiet_err g.S.Store IsInUse (c.self.inside.conn, c.self.inside.failures) (c.read_agreeing.new.conn, c.fault_of.new.failures) (λ clean now. (c.self.invariant.0 clean now, now))
    c.args.self.now c.fault_of.result c.self.view_is c.requires.open c.in-Err.ensures.reads.0 c.in-Err.ensures.reads.1 c.fault_of.ensures.counted
