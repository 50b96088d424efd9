use Rattle.std.proofs.Common.{inl, inr}
use Rattle.mr_tasks.proofs.RunLaws.{some_input}
use Rattle.mr_tasks.proofs.EndLaws.{fault_printed}
use Rattle.mr_tasks.proofs.run.rehearse.Goals as goal

pub returns-in-Err-clause-stopped : goal.returns-in-Err-clause-stopped
returns-in-Err-clause-stopped g c = λ refused.
    let input = some_input (g.R.Read.remaining c.args.reader) in (
      input.0,
      input.1,
      inr (inl (fault_printed (g.W.Write.contents c.args.out.now) (g.W.Write.contents c.say_fault.new.out) c.say_fault.result c.say_fault.ensures.told refused)),
    )
