-- What came of a command that was not refused.
use Rattle.std.specs.Prelude.{◌≡◌}
use Rattle.mr_model.specs.Refusals.{Refusal}
use Rattle.mr_model.specs.Replica.{Replica}
use Rattle.mr_model.specs.Replies.{Reply, Refused}
use Rattle.mr_model.specs.Step.{Command, step}
use Rattle.mr_model.specs.Tables.{Tables, Stands}

-- the replica took its step, the reply is that of the step, and these tables stand for the replica after it
pub record TakesCommand (a : Replica) (command : Command) (reply : Reply) (after : Tables) : Type 0 where
  pub replied : reply ≡ (step a command).reply
  pub stands : Stands after (step a command).replica

abbrev pub IsNoRefusal : Reply → Type 0
IsNoRefusal reply = (e : Refusal) → reply ≡ Refused e → ⊥
