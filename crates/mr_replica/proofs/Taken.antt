-- A call of the part of a desk's tables, and the change that it answers, are a step of the desk.
use Rattle.std.specs.Prelude.{IfOk, IfErr, OnErr}
use Rattle.std.proofs.Common.{◌≡◌, refl, ◌⊎◌, inl, inr, Result, Ok, Err, ap, sym, ◌∙◌, subst}
use Rattle.mr_model.specs.Replica.{Replica, IsReplica}
use Rattle.mr_model.specs.Replies.{Reply, Refused}
use Rattle.mr_model.specs.Scopes.{Scope}
use Rattle.mr_model.specs.Step.{After, leave}
use Rattle.mr_model.specs.Tables.{Tables, Stands, tables_of}
use Rattle.mr_base.specs.declared.refusals.Refusal.{Refusal}
use Rattle.mr_base.specs.declared.refusals.Refusal.TheVariants.{OutOfMemory, Store}
use Rattle.mr_base.specs.RefusalViews.{refusal_of}
use Rattle.mr_part.specs.Answering.{reply_with}
use Rattle.mr_part.specs.Parts.{PartView, IsPartOf, TakesPart, AnswersPart}
use Rattle.mr_replica.specs.Desk.{DeskTakesStep}
use Rattle.mr_replica.proofs.Steps.{IsStep}
use Rattle.mr_tables.specs.Change.{ChangeView, changed}

-- it is a step from every replica
abbrev pub AreSteps : (Replica → After) → Type 0
AreSteps f = (a : Replica) → IsReplica a → IsStep f a

-- this is the part in the scope of the tables of each replica that these stand for
abbrev pub IsPartFrom : Tables → Scope → PartView → Type 0
IsPartFrom t s part = (a : Replica) → Stands t a → IsPartOf part s a

-- an answer is no refusal
ok_is_ok : {T : Type 0} (x : T) (e : Refusal) → ¬ (◌≡◌ {A = Result T Refusal} (Ok x) (Err e))
ok_is_ok {T} x e same = absurd (cc same)

-- the call answered, and its change was made, or it was refused for the want of it
pub turned : {T : Type 0} (s : Scope) (f : Replica → After) (reply : Replica → T → Reply) (change : T → ChangeView) (part : PartView) (old new : Tables) (answer result : Result T Refusal)
    → AreSteps f → IsPartFrom old s part → TakesPart s f reply change part answer
    → IfOk result (λ x. (answer ≡ Ok x) × (new ≡ changed (change x) old)) → OnErr result (new ≡ old) → IfErr result (λ e. (answer ≡ Err e) ⊎ (e ≡ OutOfMemory))
    → DeskTakesStep f reply old result new
turned {T} s f reply change part old new answer (Ok x) steps from takes made same why = λ a h. by_cases a h (subst (TakesPart s f reply change part) made.0 takes a h.sound (from a h))
  where
    by_cases : (a : Replica) → Stands old a
        → ((reply (f a).replica x ≡ (f a).reply) × (changed (change x) (tables_of a) ≡ tables_of (f a).replica)) ⊎ (◌≡◌ {A = Result T Refusal} (Ok x) (Err OutOfMemory))
        → ((reply (f a).replica x ≡ (f a).reply) × Stands new (f a).replica) ⊎ ((◌≡◌ {A = Result T Refusal} (Ok x) (Err OutOfMemory)) × (new ≡ old))
    by_cases a h (inl e) = inl (e.0, record { sound = (steps a h.sound).keeps; are = made.1 ∙ ap (changed (change x)) h.are ∙ e.1 })
    by_cases a h (inr e) = absurd (ok_is_ok x OutOfMemory e)
turned {T} s f reply change part old new answer (Err e) steps from takes made same (inr out) = λ a h. inr (ap Err out, same)
turned {T} s f reply change part old new answer (Err e) steps from takes made same (inl was) = λ a h. by_cases a h (subst (TakesPart s f reply change part) was takes a h.sound (from a h))
  where
    by_cases : (a : Replica) → Stands old a → ((Refused (refusal_of e) ≡ (f a).reply) × Unit {0}) ⊎ (◌≡◌ {A = Result T Refusal} (Err e) (Err OutOfMemory))
        → ((Refused (refusal_of e) ≡ (f a).reply) × Stands new (f a).replica) ⊎ ((◌≡◌ {A = Result T Refusal} (Err e) (Err OutOfMemory)) × (new ≡ old))
    by_cases a h (inl r) = inl (r.0, subst (Stands new) (sym ((steps a h.sound).leaves (refusal_of e) (sym r.0))) (record { sound = h.sound; are = same ∙ h.are }))
    by_cases a h (inr r) = inr (r, same)

-- a part that can't be made for want of memory
pub unmade : {T : Type 0} (f : Replica → After) (reply : Replica → T → Reply) (old new : Tables) (e : Refusal) → new ≡ old → ((a : Replica) → Stands old a → e ≡ OutOfMemory)
    → DeskTakesStep f reply old (Err e) new
unmade f reply old new e same out = λ a h. inr (ap Err (out a h), same)

-- the part answered a question
pub answered : {T : Type 0} (s : Scope) (g : Replica → Reply) (reply : T → Reply) (part : PartView) (t : Tables) (result : Result T Refusal)
    → IsPartFrom t s part → AnswersPart s g reply part result → DeskTakesStep (λ a. leave a (g a)) (λ _ x. reply x) t result t
answered {T} s g reply part t result from takes = λ a h. by_cases a h (takes a h.sound (from a h))
  where
    by_cases : (a : Replica) → Stands t a → (reply_with reply result ≡ g a) ⊎ (result ≡ Err OutOfMemory)
        → ((reply_with reply result ≡ g a) × Stands t a) ⊎ ((result ≡ Err OutOfMemory) × (t ≡ t))
    by_cases a h (inl e) = inl (e, h)
    by_cases a h (inr e) = inr (e, refl)

-- what an answer keeps once its change is made
pub told_on : {T : Type 0} (P : T → Type 0) (made : T → Type 0) (answer result : Result T Refusal) → IfOk result (λ x. (answer ≡ Ok x) × made x) → IfOk answer P → IfOk result P
told_on P made answer (Ok x) is told = subst (λ r. IfOk r P) is.0 told
told_on P made answer (Err e) is told = tt

-- what is refused for want of memory alone is no failure of the store
pub never_unmade : {T : Type 0} (r : Result T Refusal) → IfErr r (λ e. e ≡ OutOfMemory) → IfErr r (λ e. ¬ (e ≡ Store))
never_unmade (Ok x) out = tt
never_unmade (Err e) out = λ bad. absurd (cc (sym out ∙ bad))
