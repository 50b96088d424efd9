-- What offices do: acts upon a world, of which the reply may be lost, and which a failing machine may leave undone.
use Rattle.std.specs.Prelude.{◌≡◌, ℕ, List, [], ◌∷◌, Option, Some, None, ◌⊎◌}
use Rattle.std.specs.List.{AllByRecursion}
use Rattle.mr_model.specs.Texts.{Text}
use Rattle.mr_model.specs.Replica.{Replica}
use Rattle.mr_model.specs.Positions.{read_position}
use Rattle.mr_model.specs.Replies.{Reply}
use Rattle.mr_model.specs.Step.{reply_to_position, IsOfMachine}
use Rattle.mr_model.specs.World.{World, Step, StepReply, NoReplica, Said, WorldAfter, replica_of, unchanged, with_made, world_step}
use Rattle.mr_model.specs.Honest.{IsWorldCommand}

-- A step of the definitions' world: an office is opened, somebody gives a command at one, a batch is made for the position that another has at
-- that moment, or a prefix of any batch is received. Or a batch is made for a position that was taken down some time, of either version, and
-- wherever it came from: `position` is its text. Each batch that is made joins the pool: a file, or bytes on a line, that may be received
-- whole or cut, at any time, often or never.
pub data Act : Type 0 where
  Within : (s : Step) → Act
  Give : (from : ℕ) (position : Text) (max_lines : ℕ) → Act

abbrev pub give_at : World → Option Replica → Text → ℕ → WorldAfter
give_at w None position m = unchanged w NoReplica
give_at w (Some r) position m = with_made w (reply_to_position r (read_position position) m)

abbrev pub act_after : World → Act → WorldAfter
act_after w (Within s) = world_step w s
act_after w (Give from position m) = give_at w (replica_of w from) position m

-- servers are within the limits, and bytes come to an office by deliveries only
abbrev pub IsAllowed : Act → Type 0
IsAllowed (Within s) = IsWorldCommand s
IsAllowed (Give from position m) = Unit {0}

-- the act is done, and this is the reply to it
abbrev pub IsDone : World → Act → StepReply → World → Type 0
IsDone old act reply new = IsAllowed act × (record { reply = reply; world = new } ≡ act_after old act)

-- Whoever asked hears nothing, since the power failed, the line was cut or nobody listened; or hears that memory or the store failed.
abbrev pub IsNoReply : Option StepReply → Type 0
IsNoReply heard = (heard ≡ None) ⊎ ((said : Reply) × (heard ≡ Some (Said said)) × IsOfMachine said)

-- The act is done, and its reply is heard or not; or it isn't done, which changes nothing, and no reply is heard. So whoever hears none
-- doesn't know whether it is done. A restart is no act.
abbrev pub IsOfficeStep : World → Act → Option StepReply → World → Type 0
IsOfficeStep old act heard new =
    ((reply : StepReply) × IsDone old act reply new × ((heard ≡ Some reply) ⊎ IsNoReply heard))
    ⊎ (IsAllowed act × (new ≡ old) × IsNoReply heard)

-- the acts of all offices, in the order in which they happened, with what was heard of each
pub data IsOfficeRun : World → List Act → List (Option StepReply) → World → Type 0 where
  ended : {w : World} → IsOfficeRun w [] [] w
  stepped : {old middle new : World} {act : Act} {acts : List Act} {heard : Option StepReply} {all_heard : List (Option StepReply)}
      → IsOfficeStep old act heard middle → IsOfficeRun middle acts all_heard new → IsOfficeRun old (act ∷ acts) (heard ∷ all_heard) new

-- such a run, of acts that are allowed alone
pub record IsOfficeRunOf (Allowed : Act → Type 0) (old new : World) : Type 0 where
  pub acts : List Act
  pub heard : List (Option StepReply)
  pub run : IsOfficeRun old acts heard new
  pub all_allowed : AllByRecursion Allowed acts
