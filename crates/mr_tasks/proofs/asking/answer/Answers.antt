use Rattle.std.proofs.Common.{refl, subst, sym}
use Rattle.mr_service.specs.Asked.{reply_of}
use Rattle.mr_service.specs.Replied.{RepliesTo}
use Rattle.mr_tasks.specs.Tasks.{TellsToFile}
use Rattle.mr_tasks.proofs.AskLaws.{question_is_told}
use Rattle.mr_tasks.proofs.asking.answer.Goals as goal

pub returns-in-None-clause-told : goal.returns-in-None-clause-told
returns-in-None-clause-told g c = (
  reply_of c.ask-reply.result,
  c.ask-reply.ensures,
  subst (λ file. TellsToFile file c.args.files.now c.args.files.now (reply_of c.ask-reply.result) (g.W.Write.contents c.args.out.now) (g.W.Write.contents c.say_reply.new.out) c.say_reply.result)
      (sym c.in-None.is) (c.say_reply.ensures, refl),
)

pub returns-clause-told : goal.returns-clause-told
returns-clause-told g c = (
  reply_of c.ask-reply.result,
  c.ask-reply.ensures,
  subst (λ file. TellsToFile file c.args.files.now c.write_reply.new.files (reply_of c.ask-reply.result)
      (g.W.Write.contents c.args.out.now) (g.W.Write.contents c.write_reply.new.out) c.write_reply.result)
      (sym c.in-Some.is) (c.write_reply.ensures.told, c.write_reply.ensures.kept),
)

pub returns-in-None-clause-shown : goal.returns-in-None-clause-shown
returns-in-None-clause-shown g c = λ clean was_open printed room question is.
    question_is_told (g.K.Keeper.tables c.args.service.now) room question (reply_of c.ask-reply.result)
    (g.W.Write.contents c.args.out.now) (g.W.Write.contents c.say_reply.new.out) c.say_reply.result
    (subst (λ m. RepliesTo (g.K.Keeper.tables c.args.service.now) m (reply_of c.ask-reply.result)) is (c.ask-reply.ensures.1 clean was_open))
    c.say_reply.ensures

pub returns-clause-shown : goal.returns-clause-shown
returns-clause-shown g c = λ clean was_open printed room question is. let told = c.in-Some.is in absurd (cc (printed, told))
