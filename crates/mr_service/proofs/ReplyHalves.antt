-- What a command is replied, whether or not a failure has shut the keeper since.
use Rattle.std.proofs.Common.{◌≡◌, refl, ap, ◌⊎◌, inl, inr}
use Rattle.mr_model.specs.Replica.{Replica}
use Rattle.mr_model.specs.Replies.{Reply}
use Rattle.mr_model.specs.Step.{After, Command, step, IsOfMachine, IsStep}
use Rattle.mr_store.specs.declared.keeper.Keeper.{Ghosts}
use Rattle.mr_service.specs.Replied.{RepliesTo}
use Rattle.mr_service.specs.Served.{IsServed}

step_replies : (a b : Replica) (command : Command) (reply : Reply) → IsStep a command reply b → IsOfMachine reply ⊎ (reply ≡ (step a command).reply)
step_replies a b command reply (inl e) = inr (ap (λ (x : After). x.reply) e)
step_replies a b command reply (inr m) = inl m.0

-- where the machine hasn't failed the keeper is open, so that the step is known
pub replied_by : {K : Type 0} (k : Ghosts K) (old new : K) (command : Command) (reply : Reply)
    → IsServed k old new command reply → k.is_clean new → k.is_open old → RepliesTo (k.tables old) command reply
replied_by k old new command reply served c o a stands =
    elim (served.lasts c o) [
      | inl m ↦ inl m
      | inr still ↦ let s = served.step c still a stands in step_replies a s.0 command reply s.1
    ]

-- such a reply is that of a step to some replica: to the same one, where the machine has failed
pub some_step : (a : Replica) (command : Command) (reply : Reply) → IsOfMachine reply ⊎ (reply ≡ (step a command).reply)
    → (b : Replica) × IsStep a command reply b
some_step a command reply (inl m) = (a, inr (m, refl))
some_step a command reply (inr e) = ((step a command).replica, inl (λ i. record { reply = e i; replica = (step a command).replica }))
