use Rattle.mr_base.specs.RefusalViews.{refusal_of}
use Rattle.mr_service.specs.Asked.{command_seen, reply_of}
use Rattle.mr_web_tests.proofs.Replying.{done, why}
use Rattle.mr_web_tests.proofs.uses.asking.ask.Goals as goal

pub returns-in-None-clause-done : goal.returns-in-None-clause-done
returns-in-None-clause-done c =
    done c.args.service.now.tables c.ask-reply.new.self.tables (command_seen c.args.command.now) (reply_of c.ask-reply.result) (c.ask-reply.ensures.step tt tt) c.in-None.ensures

pub returns-in-None-clause-value : goal.returns-in-None-clause-value
returns-in-None-clause-value c = c.in-None.ensures

pub returns-in-Some-clause-refused : goal.returns-in-Some-clause-refused
returns-in-Some-clause-refused c = c.ask-reply.ensures.refused tt tt (refusal_of c.in-Some.refusal) c.in-Some.ensures

pub returns-in-Some-clause-why : goal.returns-in-Some-clause-why
returns-in-Some-clause-why c =
    why c.args.service.now.tables c.ask-reply.new.self.tables (command_seen c.args.command.now) (reply_of c.ask-reply.result) (refusal_of c.in-Some.refusal)
    c.args.service.now.failures c.ask-reply.new.self.failures c.in-Some.ensures (c.ask-reply.ensures.step tt tt) c.ask-reply.ensures.counts (c.ask-reply.ensures.sure tt tt tt)
