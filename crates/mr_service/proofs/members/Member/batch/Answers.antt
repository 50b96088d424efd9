use Rattle.std.proofs.Common.{refl}
use Rattle.mr_model.specs.Step.{BatchFor}
use Rattle.mr_base.specs.RefusalViews.{refusal_of}
use Rattle.mr_service.specs.Asked.{reply_of}
use Rattle.mr_service.proofs.MemberSteps.{question_stays, batch_texts, batch_refusals}
use Rattle.mr_service.proofs.members.Member.batch.Goals as goal

pub returns-clause-stays : goal.returns-clause-stays
returns-clause-stays c = λ r h.
    question_stays c.args.self.now c.ask-reply.new.self (BatchFor c.args.position.items c.args.max_lines) (reply_of c.ask-reply.result) c.ask-reply.ensures r refl h

pub returns-clause-text : goal.returns-clause-text
returns-clause-text c = λ r h.
    batch_texts c.args.self.now c.ask-reply.new.self (reply_of c.ask-reply.result) c.args.position.items c.args.max_lines
    (λ v. v.items) c.batch_in.result c.ask-reply.ensures c.batch_in.ensures.text r h

pub returns-clause-refused : goal.returns-clause-refused
returns-clause-refused c = λ r h.
    batch_refusals c.args.self.now c.ask-reply.new.self
    (reply_of c.ask-reply.result) c.args.position.items c.args.max_lines refusal_of c.batch_in.result c.ask-reply.ensures c.batch_in.ensures.refused r h
