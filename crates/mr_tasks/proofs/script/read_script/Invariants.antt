use Rattle.std.proofs.Common.{map}
use Rattle.mr_service.specs.Stepping.{step_of}
use Rattle.mr_tasks.specs.RehearsalScript.{AreStepsOf}
use Rattle.mr_tasks.proofs.ScriptLaws.{numbered, texts_of}
use Rattle.mr_tasks.proofs.script.read_script.Given as goal

-- the lines so far stand for the steps so far
abbrev pub invariant-loop-index : goal.invariant-loop-index
invariant-loop-index l = AreStepsOf (texts_of (numbered l.yielded)) (map step_of l.steps.items)
