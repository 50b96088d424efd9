use Rattle.mr_sql.proofs.CallLemmas.{open_then, refused_change, then_change}
use Rattle.mr_sql.proofs.sql_keeper.SqlKeeperKeeper.apply.Goals as goal

pub apply_open-requires : goal.apply_open-requires
apply_open-requires g c = record { «open» = open_then g.S.Store c.args.self.now c.confirm.new.self tt c.in-Ok.ensures.quiet }

pub returns-in-Ok : goal.returns-in-Ok
returns-in-Ok g c = record {
  atomic = then_change g.S.Store c.args.change.now c.args.self.now c.confirm.new.self c.apply_open.new.self tt c.apply_open.result c.in-Ok.ensures.quiet c.apply_open.ensures.atomic;
}

pub returns-in-Err : goal.returns-in-Err
returns-in-Err g c = record {
  atomic = refused_change g.S.Store c.args.change.now c.args.self.now c.confirm.new.self c.in-Err.fault c.in-Err.ensures.quiet;
}
