use Rattle.std.specs.Prelude.{IfOk}
use Rattle.mr_model.specs.Replica.{Replica}
use Rattle.mr_model.specs.Tables.{Stands}
use Rattle.mr_replica.specs.Desk.{StandsFor}
use Rattle.mr_sql.proofs.CallLemmas.{open_then, refused_call, then_call, then_told}
use Rattle.mr_sql.proofs.sql_keeper.SqlKeeperKeeper.load.Goals as goal

pub load_open-requires : goal.load_open-requires
load_open-requires g c = record { «open» = open_then g.S.Store c.args.self.now c.confirm.new.self tt c.in-Ok.ensures.quiet }

pub returns-in-Ok-clause-quiet : goal.returns-in-Ok-clause-quiet
returns-in-Ok-clause-quiet g c = then_call g.S.Store c.args.self.now c.confirm.new.self c.load_open.new.self tt c.load_open.result c.in-Ok.ensures.quiet c.load_open.ensures.quiet

pub returns-in-Err-clause-quiet : goal.returns-in-Err-clause-quiet
returns-in-Err-clause-quiet g c = refused_call g.S.Store c.args.self.now c.confirm.new.self c.in-Err.fault c.in-Err.ensures.quiet

pub returns-in-Ok-clause-loaded : goal.returns-in-Ok-clause-loaded
returns-in-Ok-clause-loaded g c =
    then_told g.S.Store (λ t. (a : Replica) → Stands t a → IfOk c.load_open.result (λ desk. StandsFor desk a)) c.args.self.now
    c.confirm.new.self c.load_open.new.self tt c.load_open.result c.in-Ok.ensures.quiet c.load_open.ensures.quiet
    c.load_open.ensures.loaded
