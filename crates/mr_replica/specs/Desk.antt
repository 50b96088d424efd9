-- For which replicas a desk stands, which is seen as its tables, and what it means that a call is a step of them.
use Rattle.std.specs.Prelude.{◌≡◌, ◌≤◌, Result, Err, ◌⊎◌}
use Rattle.std.specs.List.{All}
use Rattle.mr_model.specs.Replica.{Replica}
use Rattle.mr_model.specs.Replies.{Reply}
use Rattle.mr_model.specs.Step.{After}
use Rattle.mr_model.specs.Tables.{Tables, Stands}
use Rattle.mr_base.specs.declared.refusals.Refusal.{Refusal}
use Rattle.mr_base.specs.declared.refusals.Refusal.TheVariants.{OutOfMemory}
use Rattle.mr_part.specs.Answering.{reply_with}

-- a desk stands for the replicas that its tables stand for
abbrev pub StandsFor : Tables → Replica → Type 0
StandsFor d a = Stands d a

-- For every replica that the desk stood for: the answer is that of the step, the replica after it being known, and the desk
-- stands for that replica; or memory ran out, and the desk is as it was.
abbrev pub DeskTakesStep : {T : Type 0} → (Replica → After) → (Replica → T → Reply) → Tables → Result T Refusal → Tables → Type 0
DeskTakesStep step reply before result after =
    (a : Replica) → StandsFor before a
    → ((reply_with (reply (step a).replica) result ≡ (step a).reply) × StandsFor after (step a).replica)
    ⊎ ((result ≡ Err OutOfMemory) × (after ≡ before))

-- the numbers of a desk are within the limits of positions
pub record IsWithinLimits (d : Tables) : Type 0 where
  pub commits : d.meta.commits ≤ 999_999_999_999
  pub counts : All (λ row. row.count ≤ 999_999_999) d.vector
