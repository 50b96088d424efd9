use Rattle.std.specs.Prelude.{◌≡◌, IfOk}
use Rattle.mr_sql.proofs.CallLemmas.{open_then, refused_call, then_call, then_told}
use Rattle.mr_sql.proofs.sql_keeper.SqlKeeperKeeper.read.Goals as goal

pub read_open-requires : goal.read_open-requires
read_open-requires g c = record { «open» = open_then g.S.Store c.args.self.now c.confirm.new.self tt c.in-Ok.ensures.quiet }

pub returns-in-Ok-clause-quiet : goal.returns-in-Ok-clause-quiet
returns-in-Ok-clause-quiet g c = then_call g.S.Store c.args.self.now c.confirm.new.self c.read_open.new.self tt c.read_open.result c.in-Ok.ensures.quiet c.read_open.ensures.quiet

pub returns-in-Err-clause-quiet : goal.returns-in-Err-clause-quiet
returns-in-Err-clause-quiet g c = refused_call g.S.Store c.args.self.now c.confirm.new.self c.in-Err.fault c.in-Err.ensures.quiet

pub returns-in-Ok-clause-rows : goal.returns-in-Ok-clause-rows
returns-in-Ok-clause-rows g c =
    then_told g.S.Store (λ t. IfOk c.read_open.result (λ rows. rows ≡ t)) c.args.self.now c.confirm.new.self c.read_open.new.self tt c.read_open.result c.in-Ok.ensures.quiet c.read_open.ensures.quiet
    c.read_open.ensures.rows
