use Rattle.std.proofs.Common.{refl}
use Rattle.mr_sql.proofs.CallLemmas.{asked_ok, asked_err}
use Rattle.mr_sql.proofs.sql_keeper.SqlKeeper.confirm.Goals as goal

pub returns-in-Ok : goal.returns-in-Ok
returns-in-Ok g c = record {
  quiet = asked_ok g.S.Store (c.self.inside.conn, c.self.inside.failures) (c.check_open.new.conn, c.self.inside.failures) (λ clean now. c.self.invariant.0 clean now)
      c.args.self.now tt c.self.view_is c.in-Ok.ensures.survives c.in-Ok.ensures.reads.1 c.in-Ok.ensures.lasts c.in-Ok.ensures.open refl;
}

pub returns-in-Err : goal.returns-in-Err
returns-in-Err g c = record {
  quiet = asked_err g.S.Store (c.self.inside.conn, c.self.inside.failures) (c.check_open.new.conn, c.fault_of.new.failures) (λ clean now. c.self.invariant.0 clean now)
      c.args.self.now c.fault_of.result c.self.view_is c.in-Err.ensures.survives c.in-Err.ensures.reads.1 c.fault_of.ensures.counted;
}
