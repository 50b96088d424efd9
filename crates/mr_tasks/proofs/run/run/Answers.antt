use Rattle.std.proofs.Common.{List, subst, map, take, flat_map, ◌++◌, refl, inr}
use Rattle.std.specs.Io.KnownBytes.{Appends}
use Rattle.mr_model.specs.World.{empty_world}
use Rattle.mr_service.specs.declared.steps.StepReply.{StepReply}
use Rattle.mr_service.specs.Stepping.{step_reply_of}
use Rattle.mr_words.specs.CommandOutput.{no_memory_line}
use Rattle.mr_tasks.specs.Rehearsed.{step_reply_text}
use Rattle.mr_tasks.proofs.run.run.Goals as goal

pub returns-in-Ok-clause-done : goal.returns-in-Ok-clause-done
returns-in-Ok-clause-done g c = λ done.
    let all = c.in-Ok.ensures.runs empty_world c.new-world.ensures in
    let P : List StepReply → Type 0 = λ rs. Appends (g.W.Write.contents c.args.out.now) (g.W.Write.contents c.print_all.new.out) (flat_map step_reply_text (map step_reply_of rs)) in (
      flat_map step_reply_text (map step_reply_of c.in-Ok.replies.items),
      record { replies = map step_reply_of c.in-Ok.replies.items; world = all.0; taken = all.1; printed = refl },
      subst P c.as_slice.ensures.value (c.print_all.ensures.done done),
    )

pub returns-in-Ok-clause-stopped : goal.returns-in-Ok-clause-stopped
returns-in-Ok-clause-stopped g c = λ refused.
    let all = c.in-Ok.ensures.runs empty_world c.new-world.ensures in
    let told = c.print_all.ensures.stopped refused in
    let P : List StepReply
    → Type 0 = λ rs. Appends (g.W.Write.contents c.args.out.now) (g.W.Write.contents c.print_all.new.out) (flat_map step_reply_text (take told.0 (map step_reply_of rs)) ++ no_memory_line) in
    inr (record { replies = map step_reply_of c.in-Ok.replies.items; world = all.0; number = told.0; taken = all.1; told = subst P c.as_slice.ensures.value told.1 })
