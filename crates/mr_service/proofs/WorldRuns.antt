-- A run of a world grows at its end.
use Rattle.std.specs.Prelude.{List, [], ◌∷◌, ◌++◌}
use Rattle.mr_model.specs.World.{World, Step, StepReply}
use Rattle.mr_model.specs.Honest.{IsWorldStep, IsWorldRun, ended, stepped}

-- a run and one step more is a run of the steps with that one at their end
pub world_run_grows : {old middle new : World} {ss : List Step} {replies : List StepReply} (s : Step) (reply : StepReply)
    → IsWorldRun old ss replies middle → IsWorldStep middle s reply new → IsWorldRun old (ss ++ s ∷ []) (replies ++ reply ∷ []) new
world_run_grows s reply ended st = stepped st ended
world_run_grows s reply (stepped first rest) st = stepped first (world_run_grows s reply rest st)
