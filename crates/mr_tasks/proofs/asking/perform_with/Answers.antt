use Rattle.std.proofs.Common.{subst, refl, inl, inr}
use Rattle.mr_service.specs.Asked.{command_seen}
use Rattle.mr_tasks.specs.Tasks.{TellsToFile}
use Rattle.mr_tasks.proofs.asking.perform_with.Goals as goal

pub returns-in-Ok : goal.returns-in-Ok
returns-in-Ok g c =
    let (reply, asked, told) = c.answer.ensures.told in
    let told_as : _ = subst (λ file. TellsToFile file c.args.files.now c.answer.new.files reply
    (g.W.Write.contents c.args.out.now) (g.W.Write.contents c.answer.new.out) c.answer.result) c.in-Ok.ensures.1 told in
    inl (command_seen c.in-Ok.command, reply, c.in-Ok.ensures.0, asked, told_as)

pub returns-in-Err : goal.returns-in-Err
returns-in-Err g c = inr (refl, refl, c.say_fault.ensures.told)
