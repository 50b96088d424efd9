use Rattle.std.specs.Prelude.{IfOk}
use Rattle.mr_store.specs.Answers.{IsAnswerTo}
use Rattle.mr_sql.proofs.CallLemmas.{open_then, refused_call, then_call, then_told}
use Rattle.mr_sql.proofs.sql_keeper.SqlKeeperKeeper.query.Goals as goal

pub query_open-requires : goal.query_open-requires
query_open-requires g c = record { «open» = open_then g.S.Store c.args.self.now c.confirm.new.self tt c.in-Ok.ensures.quiet }

pub returns-in-Ok-clause-quiet : goal.returns-in-Ok-clause-quiet
returns-in-Ok-clause-quiet g c = then_call g.S.Store c.args.self.now c.confirm.new.self c.query_open.new.self tt c.query_open.result c.in-Ok.ensures.quiet c.query_open.ensures.quiet

pub returns-in-Err-clause-quiet : goal.returns-in-Err-clause-quiet
returns-in-Err-clause-quiet g c = refused_call g.S.Store c.args.self.now c.confirm.new.self c.in-Err.fault c.in-Err.ensures.quiet

pub returns-in-Ok-clause-answers : goal.returns-in-Ok-clause-answers
returns-in-Ok-clause-answers g c =
    then_told g.S.Store (λ t. IfOk c.query_open.result (IsAnswerTo c.args.question.now t)) c.args.self.now
    c.confirm.new.self c.query_open.new.self tt c.query_open.result c.in-Ok.ensures.quiet c.query_open.ensures.quiet
    c.query_open.ensures.answers
