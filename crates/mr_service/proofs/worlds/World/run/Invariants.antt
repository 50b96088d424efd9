use Rattle.std.proofs.Common.{◌≡◌, ◌≤◌, length, map, take, vec_len, vec_capacity}
use Rattle.mr_model.specs.World as model
use Rattle.mr_model.specs.Honest.{IsWorldRun}
use Rattle.mr_service.specs.Stepping.{step_of, step_reply_of}
use Rattle.mr_service.specs.Worlds.{StandsForWorld}
use Rattle.mr_service.proofs.worlds.World.run.Given as goal

-- the run so far, and room for the replies that are to come
abbrev pub invariant-loop-step : goal.invariant-loop-step
invariant-loop-step l =
    ((w : model.World) → StandsForWorld l.initial.self w
    → (middle : model.World) × IsWorldRun w (map step_of (take l.step-index l.steps)) (map step_reply_of l.replies.items) middle × StandsForWorld l.self middle)
    × (vec_len l.replies ≡ l.step-index) × (length l.steps ≤ vec_capacity l.replies)
