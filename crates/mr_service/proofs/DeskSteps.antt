-- Failures of a keeper, and words that are refused, as steps that leave the tables.
use Rattle.std.proofs.Common.{◌≡◌, refl, sym, ap, subst, ◌∙◌, ℕ, ◌⊎◌, inl, inr, arith}
use Rattle.mr_model.specs.Replies.{Refused}
use Rattle.mr_model.specs.Step.{Command, IsOfMachine, no_memory, no_store, refuse}
use Rattle.mr_model.specs.Refusals as model
use Rattle.mr_model.specs.Tables.{Tables, Stands}
use Rattle.mr_model.specs.Serving.{TakesStep}
use Rattle.mr_base.specs.RefusalViews.{refusal_of}
use Rattle.mr_base.specs.declared.refusals.Refusal.{Refusal}
use Rattle.mr_base.specs.declared.refusals.Refusal.TheVariants as refusal
use Rattle.mr_store.specs.KeeperCalls.{fault_refusal, failures_for}
use Rattle.mr_service.specs.Asking.{Counts, TellsRise}
pub use Rattle.mr_service.specs.Turns.{Does}
use Rattle.mr_store.specs.declared.keeper.Fault.{Fault}
use Rattle.mr_store.specs.declared.keeper.Fault.TheVariants as fault

-- ---- failures

of_machine : (e : Fault) → IsOfMachine (Refused (refusal_of (fault_refusal e)))
of_machine fault.OutOfMemory = no_memory
of_machine fault.Store = no_store

-- a fault of the keeper is told as one of memory or of the store
pub of_fault : (e : Fault) (r : Refusal) → r ≡ fault_refusal e → IsOfMachine (Refused (refusal_of r))
of_fault e r is = subst (λ x. IsOfMachine (Refused (refusal_of x))) (sym is) (of_machine e)

-- a fault of the keeper is a step, where the tables are as they were
pub fault_step : (e : Fault) (r : Refusal) (t u : Tables) (c : Command) → r ≡ fault_refusal e → u ≡ t → TakesStep t c (Refused (refusal_of r)) u
fault_step e r t u c is same = λ a h. (a, inr (of_fault e r is, refl), subst (λ x. Stands x a) (sym same) h)

-- a fault of the keeper is counted where the store failed
pub fault_counts : (e : Fault) (r : Refusal) (f0 f1 f2 : ℕ) → r ≡ fault_refusal e → f1 ≡ f0 → f2 ≡ failures_for e f1 → Counts (Refused (refusal_of r)) f0 f2
fault_counts fault.OutOfMemory r f0 f1 f2 is same failed =
    (omega arith, λ told. absurd (cc (let out : Refused (refusal_of r) ≡ Refused model.OutOfMemory = ap (λ x. Refused (refusal_of x)) is in sym out ∙ told)))
fault_counts fault.Store r f0 f1 f2 is same failed = (omega arith, λ told. omega arith)

-- a fault of the keeper is counted only where the reply tells that the store failed
pub fault_rise : (e : Fault) (r : Refusal) (f0 f1 f2 : ℕ) → r ≡ fault_refusal e → f1 ≡ f0 → f2 ≡ failures_for e f1 → TellsRise (Refused (refusal_of r)) f0 f2
fault_rise fault.OutOfMemory r f0 f1 f2 is same failed = inl (failed ∙ same)
fault_rise fault.Store r f0 f1 f2 is same failed = inr (ap (λ x. Refused (refusal_of x)) is)

-- a refusal that the command gives everywhere, or want of memory, is a step that leaves the tables
pub word_step : (t : Tables) (c : Command) (e : Refusal) → Does c (λ a. refuse a (refusal_of e)) ⊎ (e ≡ refusal.OutOfMemory) → TakesStep t c (Refused (refusal_of e)) t
word_step t c e (inl does) = λ a h. (a, inl (sym (does a)), h)
word_step t c e (inr out) = λ a h. (a, inr (subst (λ x. IsOfMachine (Refused (refusal_of x))) (sym out) no_memory, refl), h)
