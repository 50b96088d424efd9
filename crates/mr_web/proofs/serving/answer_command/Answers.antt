use Rattle.std.proofs.Common.{Ok, Err}
use Rattle.mr_http.specs.declared.faults.ReadFault.TheVariants.{Memory}
use Rattle.mr_service.specs.Asked.{reply_of}
use Rattle.mr_web.proofs.OneRequest.{request_served}
use Rattle.mr_web.proofs.serving.answer_command.Goals as goal

pub returns-in-Ok-clause-served : goal.returns-in-Ok-clause-served
returns-in-Ok-clause-served g c =
    request_served g.K.Keeper c.args.service.now c.ask-reply.new.self c.args.command.now (reply_of c.ask-reply.result) (Ok c.in-Ok.answer)
    c.ask-reply.ensures.served c.in-Ok.ensures

pub returns-clause-served : goal.returns-clause-served
returns-clause-served g c =
    request_served g.K.Keeper c.args.service.now c.ask-reply.new.self c.args.command.now (reply_of c.ask-reply.result) (Err Memory)
    c.ask-reply.ensures.served tt
