use Rattle.std.proofs.Common.{refl, inl, inr}
use Rattle.mr_tasks.specs.Tasks.{file_for}
use Rattle.mr_tasks.proofs.DatabaseLaws.{for_any, told_to}
use Rattle.mr_tasks.proofs.asking.perform.Goals as goal

pub returns-in-Ok : goal.returns-in-Ok
returns-in-Ok g c =
    elim c.perform_with.ensures [
      | inl answered ↦ inl (
        answered.0,
        answered.1,
        for_any c.args.task _ answered.0 answered.2,
        answered.3,
        told_to (file_for c.args.task) _ _ answered.1 (g.W.Write.contents c.args.out.now) (g.W.Write.contents c.perform_with.new.out) c.perform_with.result answered.4,
      )
      | inr unasked ↦ inr (unasked.0, unasked.2)
    ]

pub returns-in-Err : goal.returns-in-Err
returns-in-Err g c = inr (refl, c.say_fault.ensures.told)
