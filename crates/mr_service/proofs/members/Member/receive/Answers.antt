use Rattle.std.proofs.Common.{sym, subst}
use Rattle.mr_model.specs.Replies.{Reply}
use Rattle.mr_model.specs.Step.{Receive}
use Rattle.mr_service.specs.Asked.{reply_in}
use Rattle.mr_service.specs.Worlds.{MemberView, AnswersInMemory}
use Rattle.mr_service.proofs.MemberSteps.{member, answers}
use Rattle.mr_service.proofs.members.Member.receive.Goals as goal

pub returns : goal.returns
returns c =
    let i = c.self.inside in
    let command = Receive c.args.bytes.now in
    let after = member i.server i.primary c.receive.new.keeper.tables in
    let all = answers i.server i.primary i.keeper.tables c.receive.new.keeper.tables command (reply_in c.receive.result) i.keeper.failures c.receive.new.keeper.failures
    (c.receive.ensures.served.step tt tt) c.receive.ensures.served.counts (c.receive.ensures.served.sure tt tt tt) in
    let P : Reply → Type 0 = λ reply. AnswersInMemory c.args.self.now command reply after in
    let Q : MemberView → Type 0 = λ m. AnswersInMemory m command (reply_in c.receive.result) after in
    subst P (sym c.said.ensures) (subst Q c.self.view_is all)
