use Rattle.std.proofs.Common.{refl}
use Rattle.mr_sql.proofs.CallLemmas.{atomic_ok, atomic_err}
use Rattle.mr_sql.proofs.sql_keeper.SqlKeeper.apply_open.Goals as goal

pub returns-in-Ok : goal.returns-in-Ok
returns-in-Ok g c = record {
  atomic = atomic_ok g.S.Store (c.self.inside.conn, c.self.inside.failures) (c.apply.new.conn, c.self.inside.failures) (λ clean now. c.self.invariant.0 clean now)
      c.args.self.now c.args.change.now tt c.self.view_is c.requires.open
      (λ db now left. g.met.S.Store.settled c.apply.new.conn.store db now left) c.in-Ok.ensures.lasts c.in-Ok.ensures.applied c.in-Ok.ensures.survives refl;
}

pub returns-in-Err : goal.returns-in-Err
returns-in-Err g c = record {
  atomic = atomic_err g.S.Store (c.self.inside.conn, c.self.inside.failures) (c.apply.new.conn, c.fault_of.new.failures) (λ clean now. c.self.invariant.0 clean now)
      c.args.self.now c.args.change.now c.in-Err.error c.fault_of.result c.self.view_is c.requires.open
      (λ db now left. g.met.S.Store.settled c.apply.new.conn.store db now left) c.in-Err.ensures.applied c.in-Err.ensures.survives
      c.fault_of.ensures.counted;
}
