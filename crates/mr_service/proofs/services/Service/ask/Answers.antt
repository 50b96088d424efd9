use Rattle.mr_service.specs.Asked.{command_seen, reply_of}
use Rattle.mr_service.proofs.HeadlineLaws.{question_answered}
use Rattle.mr_service.proofs.ReplyHalves.{replied_by}
use Rattle.mr_service.proofs.services.Service.ask.Goals as goal

pub returns-clause-clean : goal.returns-clause-clean
returns-clause-clean g c = c.serve.ensures.served.clean

pub returns-clause-open : goal.returns-clause-open
returns-clause-open g c = c.serve.ensures.served.opens

pub returns-clause-step : goal.returns-clause-step
returns-clause-step g c = c.serve.ensures.served.step

pub returns-clause-counts : goal.returns-clause-counts
returns-clause-counts g c = c.serve.ensures.served.counts

pub returns-clause-refused : goal.returns-clause-refused
returns-clause-refused g c = c.serve.ensures.served.refused

pub returns-clause-rise : goal.returns-clause-rise
returns-clause-rise g c = c.serve.ensures.served.rise

pub returns-clause-sure : goal.returns-clause-sure
returns-clause-sure g c = c.serve.ensures.served.sure

pub returns-clause-lasts : goal.returns-clause-lasts
returns-clause-lasts g c = c.serve.ensures.served.lasts

pub returns-clause-settled : goal.returns-clause-settled
returns-clause-settled g c = c.serve.ensures.served.settled

pub returns-clause-crash : goal.returns-clause-crash
returns-clause-crash g c = c.serve.ensures.served.crash

pub returns-clause-answered : goal.returns-clause-answered
returns-clause-answered g c = c.serve.ensures.served.answered

pub returns-clause-shut : goal.returns-clause-shut
returns-clause-shut g c = c.serve.ensures.served.shut

pub returns-clause-replied : goal.returns-clause-replied
returns-clause-replied g c =
    replied_by g.K.Keeper c.args.self.now c.serve.new.self (command_seen c.args.command.now) (reply_of c.serve.result) c.serve.ensures.served

pub returns-clause-headline : goal.returns-clause-headline
returns-clause-headline g c = λ u o.
    question_answered (g.K.Keeper.tables c.args.self.now) (command_seen c.args.command.now) (reply_of c.serve.result)
    (replied_by g.K.Keeper c.args.self.now c.serve.new.self (command_seen c.args.command.now) (reply_of c.serve.result) c.serve.ensures.served u o)
