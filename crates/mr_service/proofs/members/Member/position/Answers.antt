use Rattle.std.proofs.Common.{refl}
use Rattle.mr_model.specs.Step.{AskPosition}
use Rattle.mr_service.specs.Asked.{reply_of}
use Rattle.mr_service.proofs.MemberSteps.{question_stays, position_texts}
use Rattle.mr_service.proofs.members.Member.position.Goals as goal

pub returns-clause-stays : goal.returns-clause-stays
returns-clause-stays c = λ r h. question_stays c.args.self.now c.ask-reply.new.self AskPosition (reply_of c.ask-reply.result) c.ask-reply.ensures r refl h

pub returns-clause-text : goal.returns-clause-text
returns-clause-text c = λ r h. position_texts c.args.self.now c.ask-reply.new.self (reply_of c.ask-reply.result) (λ v. v.items) c.position_in.result c.ask-reply.ensures c.position_in.ensures.text r h
