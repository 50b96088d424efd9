use Rattle.mr_web.specs.RequestRead.{ReadsOneRequest}
use Rattle.mr_web.proofs.RequestBytes.{answered_ok, answered_unless}
use Rattle.mr_web.proofs.OneRequest.{request_stopped}
use Rattle.mr_web.proofs.serving.answer_one.Goals as goal

pub returns-in-Ok-clause-served : goal.returns-in-Ok-clause-served
returns-in-Ok-clause-served g c = c.answer_command.ensures.served (g.R.Read.remaining c.args.reader.now) c.in-Ok.ensures.settles

pub returns-in-Err-clause-served : goal.returns-in-Err-clause-served
returns-in-Err-clause-served g c =
    request_stopped g.K.Keeper c.args.service.now (g.R.Read.remaining c.args.reader.now) c.in-Err.stop c.answer_to_stop.result
    c.answer_to_stop.ensures c.in-Err.ensures.settles

pub returns-in-Ok-clause-reads : goal.returns-in-Ok-clause-reads
returns-in-Ok-clause-reads g c =
    answered_ok (ReadsOneRequest (g.R.Read.remaining c.args.reader.now) (g.R.Read.remaining c.request_from.new.reader)) c.answer_command.result
    c.in-Ok.ensures.reads

pub returns-in-Err-clause-reads : goal.returns-in-Err-clause-reads
returns-in-Err-clause-reads g c =
    answered_unless (ReadsOneRequest (g.R.Read.remaining c.args.reader.now) (g.R.Read.remaining c.request_from.new.reader)) c.in-Err.stop
    c.answer_to_stop.result c.answer_to_stop.ensures c.in-Err.ensures.reads
