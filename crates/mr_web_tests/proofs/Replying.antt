-- What came of a command over lists: a step that is done, or a refusal.
use Rattle.std.proofs.Common.{◌≡◌, refl, sym, ap, subst, ◌∙◌, ℕ, ◌<◌, ◌⊎◌, inl, inr, arith}
use Rattle.mr_model.specs.Replica.{Replica}
use Rattle.mr_model.specs.Refusals.{Refusal, OutOfMemory, Store}
use Rattle.mr_model.specs.Replies.{Reply, Refused}
use Rattle.mr_model.specs.Step.{After, Command, step, IsStep, IsOfMachine, no_memory, no_store}
use Rattle.mr_model.specs.Tables.{Tables, Stands}
use Rattle.mr_model.specs.Serving.{TakesStep}
use Rattle.mr_service.specs.Asking.{Counts, NoneFails}
use Rattle.mr_web_tests.specs.OneCommand.{TakesCommand, IsNoRefusal}

-- a reply that is no refusal is that of the step, which was done
pub done : (before after : Tables) (c : Command) (reply : Reply) → TakesStep before c reply after → IsNoRefusal reply
    → (a : Replica) → Stands before a → TakesCommand a c reply after
done before after c reply takes not a h = go (takes a h)
  where
    machine : {said : Reply} → IsOfMachine said → said ≡ reply → ⊥
    machine no_memory e = not OutOfMemory (sym e)
    machine no_store e = not Store (sym e)

    go : ((b : Replica) × IsStep a c reply b × Stands after b) → TakesCommand a c reply after
    go (b, inl e, stands) = record {
      replied = ap (λ (x : After). x.reply) e;
      stands = subst (Stands after) (ap (λ (x : After). x.replica) e) stands;
    }
    go (b, inr (m, e), stands) = absurd (machine m refl)

refusal_in : Reply → Refusal → Refusal
refusal_in (Refused x) d = x
refusal_in _ d = d

-- a refusal is that of the step, or memory was wanting: no store fails over lists
pub why : (before after : Tables) (c : Command) (reply : Reply) (e : Refusal) (old new : ℕ) → reply ≡ Refused e → TakesStep before c reply after
    → Counts reply old new → NoneFails before old new → (a : Replica) → Stands before a → (Refused e ≡ (step a c).reply) ⊎ (e ≡ OutOfMemory)
unfolding refusal_in
why before after c reply e old new is takes counts none a h = go (takes a h)
  where
    never : reply ≡ Refused Store → ⊥
    never s = let rises : old < new = counts.1 s in let same : new ≡ old = none a h in omega (arith, rises, same)

    machine : {said : Reply} → IsOfMachine said → said ≡ reply → e ≡ OutOfMemory
    machine no_memory s = sym (ap (λ r. refusal_in r e) (s ∙ is))
    machine no_store s = absurd (never (sym s))

    go : ((b : Replica) × IsStep a c reply b × Stands after b) → (Refused e ≡ (step a c).reply) ⊎ (e ≡ OutOfMemory)
    go (b, inl s, stands) = inl (sym is ∙ ap (λ (x : After). x.reply) s)
    go (b, inr (m, s), stands) = inr (machine m refl)
