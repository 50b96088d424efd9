use Rattle.std.proofs.Common.{sym, subst}
use Rattle.mr_model.specs.Replies.{Reply}
use Rattle.mr_service.specs.Asked.{local_of, reply_in}
use Rattle.mr_service.specs.Worlds.{MemberView, AnswersInMemory}
use Rattle.mr_service.proofs.MemberSteps.{member, answers}
use Rattle.mr_service.proofs.members.Member.ask.Goals as goal

pub returns : goal.returns
returns c =
    let i = c.self.inside in
    let command = local_of c.args.command.now in
    let after = member i.server i.primary c.ask_local.new.keeper.tables in
    let all = answers i.server i.primary i.keeper.tables c.ask_local.new.keeper.tables command (reply_in c.ask_local.result) i.keeper.failures c.ask_local.new.keeper.failures
    (c.ask_local.ensures.served.step tt tt) c.ask_local.ensures.served.counts (c.ask_local.ensures.served.sure tt tt tt) in
    let P : Reply → Type 0 = λ reply. AnswersInMemory c.args.self.now command reply after in
    let Q : MemberView → Type 0 = λ m. AnswersInMemory m command (reply_in c.ask_local.result) after in
    subst P (sym c.said.ensures) (subst Q c.self.view_is all)
