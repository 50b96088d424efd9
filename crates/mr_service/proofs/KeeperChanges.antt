-- Calls of a loaded part, and the changes that they tell in a keeper's tables, as steps of a command.
use Rattle.std.proofs.Common.{◌≡◌, refl, sym, ap, subst, ◌∙◌, ◌⊎◌, inl, inr, Result, Ok, Err, arith}
use Rattle.mr_model.specs.Replica.{Replica, IsReplica}
use Rattle.mr_model.specs.Replies.{Reply, Refused}
use Rattle.mr_model.specs.Scopes.{Scope}
use Rattle.mr_model.specs.Step.{After, Command, leave, step, IsStep, IsOfMachine, no_memory}
use Rattle.mr_model.specs.Refusals as model
use Rattle.mr_model.specs.Tables.{Tables, tables_of, Stands}
use Rattle.mr_model.specs.Serving.{TakesStep, Reaches}
use Rattle.mr_model.proofs.StepsKeep.{step_keeps}
use Rattle.mr_base.specs.RefusalViews.{refusal_of}
use Rattle.mr_base.specs.declared.refusals.Refusal.{Refusal}
use Rattle.mr_base.specs.declared.refusals.Refusal.TheVariants as refusal
use Rattle.mr_tables.specs.Change.{ChangeView, changed}
use Rattle.mr_part.specs.Answering.{reply_with}
use Rattle.mr_part.specs.Parts.{PartView, IsPartOf, TakesPart, AnswersPart}
use Rattle.mr_store.specs.KeeperCalls.{fault_refusal, IsAtomic}
use Rattle.mr_store.specs.declared.keeper.Fault.{Fault}
use Rattle.mr_store.specs.declared.keeper.Keeper.{Ghosts}
use Rattle.mr_service.specs.Served.{IsServed}
use Rattle.mr_service.specs.Asked.{reply_of, reply_in}
use Rattle.mr_service.specs.Turns.{Does, Answers, Refuses, TurnsBy, Tells, IsPartFrom, IsLoaded, IsMadeFor}
use Rattle.mr_service.specs.declared.replies.Reply as code
use Rattle.mr_service.proofs.KeeperReads.{anywhere_failed, stays, read_then, answered_by, refused_by}
use Rattle.mr_service.proofs.DeskSteps.{of_fault, fault_counts, fault_rise, fault_step}
use Rattle.mr_replica.proofs.RefusedSteps.{refused_leaves}

-- ---- calls of a part

-- a refusal but of the store's is told as none of the store's
pub not_store : (e : Refusal) → ¬ (e ≡ refusal.Store) → ¬ (Refused (refusal_of e) ≡ Refused model.Store)
not_store e none = λ told. at e none (cc told)
  where
    at : (e : Refusal) → ¬ (e ≡ refusal.Store) → refusal_of e ≡ model.Store → ⊥
    at refusal.Store none is = none refl
    at _ none is = cc is

made_at : {T : Type 0} (f : Replica → After) (told : Replica → T → Reply) (change : T → ChangeView) (x : T) (reply : Reply) (a : Replica)
    → reply ≡ told (f a).replica x
    → ((reply_with (told (f a).replica) (Ok x) ≡ (f a).reply) × (changed (change x) (tables_of a) ≡ tables_of (f a).replica)) ⊎ (◌≡◌ {A = Result T Refusal} (Ok x) (Err refusal.OutOfMemory))
    → (reply ≡ (f a).reply) × (changed (change x) (tables_of a) ≡ tables_of (f a).replica)
made_at f told change x reply a says (inl (e, made)) = (says ∙ e, made)
made_at f told change x reply a says (inr bad) = absurd (cc bad)

-- a call of the part that tells a change answers the step
pub answers : {T : Type 0} (s : Scope) (f : Replica → After) (told : Replica → T → Reply) (change : T → ChangeView) (x : T) (part : PartView) (reply : Reply)
    → TakesPart s f told change part (Ok x)
    → ((a : Replica) → IsReplica a → IsPartOf part s a → reply ≡ told (f a).replica x)
    → ((e : model.Refusal) → ¬ (reply ≡ Refused e))
    → Answers s f part reply (changed (change x))
answers s f told change x part reply takes says accepted =
    record { exact = λ a sound from. made_at f told change x reply a (says a sound from) (takes a sound from); accepted = accepted }

told_at : {T : Type 0} (g : Replica → Reply) (told : T → Reply) (x : T) (a : Replica)
    → (reply_with told (Ok x) ≡ g a) ⊎ (◌≡◌ {A = Result T Refusal} (Ok x) (Err refusal.OutOfMemory)) → told x ≡ g a
told_at g told x a (inl e) = e
told_at g told x a (inr bad) = absurd (cc bad)

-- a call of the part that only replies answers the step
pub tells : {T : Type 0} (s : Scope) (g : Replica → Reply) (told : T → Reply) (x : T) (part : PartView)
    → AnswersPart s g told part (Ok x) → ((e : model.Refusal) → ¬ (told x ≡ Refused e))
    → Answers s (λ a. leave a (g a)) part (told x) (λ t. t)
tells s g told x part takes accepted =
    record { exact = λ a sound from. (told_at g told x a (takes a sound from), refl); accepted = accepted }

refused_at : {T : Type 0} (reply : Reply) (e : Refusal) (Made : Type 0)
    → ((Refused (refusal_of e) ≡ reply) × Made) ⊎ (◌≡◌ {A = Result T Refusal} (Err e) (Err refusal.OutOfMemory))
    → (Refused (refusal_of e) ≡ reply) ⊎ (e ≡ refusal.OutOfMemory)
refused_at reply e Made (inl (r, made)) = inl r
refused_at reply e Made (inr out) = inr (cc out)

-- a call of the part that is refused is the step's refusal
pub refuses : {T : Type 0} (s : Scope) (f : Replica → After) (told : Replica → T → Reply) (change : T → ChangeView) (e : Refusal) (part : PartView)
    → TakesPart {T = T} s f told change part (Err e) → ¬ (e ≡ refusal.Store) → Refuses s f part e
refuses {T = T} s f told change e part takes never =
    record { exact = λ a sound from. refused_at {T = T} (f a).reply e (Unit {0}) (takes a sound from); never_store = never }

not_told_at : {T : Type 0} (reply : Reply) (e : Refusal)
    → (Refused (refusal_of e) ≡ reply) ⊎ (◌≡◌ {A = Result T Refusal} (Err e) (Err refusal.OutOfMemory))
    → (Refused (refusal_of e) ≡ reply) ⊎ (e ≡ refusal.OutOfMemory)
not_told_at reply e (inl r) = inl r
not_told_at reply e (inr out) = inr (cc out)

-- a question to the part that is refused is the step's refusal
pub tells_not : {T : Type 0} (s : Scope) (g : Replica → Reply) (told : T → Reply) (e : Refusal) (part : PartView)
    → AnswersPart {T = T} s g told part (Err e) → ¬ (e ≡ refusal.Store) → Refuses s (λ a. leave a (g a)) part e
tells_not {T = T} s g told e part takes never =
    record { exact = λ a sound from. not_told_at {T = T} (g a) e (takes a sound from); never_store = never }

-- ---- commands

does_keeps : (c : Command) (f : Replica → After) (a : Replica) → Does c f → IsReplica a → IsReplica (f a).replica
does_keeps c f a does sound = subst (λ (x : After). IsReplica x.replica) (does a) (step_keeps a c sound)

-- the replica after the step has the moved tables
moved : (c : Command) (f : Replica → After) (s : Scope) (part : PartView) (reply : Reply) (move : Tables → Tables) (t u : Tables) (a : Replica)
    → Does c f → Answers s f part reply move → Stands t a → IsPartOf part s a → u ≡ move t → Stands u (f a).replica
moved c f s part reply move t u a does made h from is = record {
  sound = does_keeps c f a does h.sound;
  are = is ∙ ap move h.are ∙ (made.exact a h.sound from).1;
}

-- an answer is a step of each command that does so
pub answers_step : (c : Command) (f : Replica → After) (s : Scope) (part : PartView) (reply : Reply) (move : Tables → Tables) (t u : Tables)
    → Does c f → IsPartFrom t s part → Answers s f part reply move → u ≡ move t → TakesStep t c reply u
answers_step c f s part reply move t u does from made is = λ a h.
    ((f a).replica, inl (ap (λ r. record { reply = r; replica = (f a).replica }) (made.exact a h.sound (from a h)).0 ∙ sym (does a)), moved c f s part reply move t u a does made h (from a h) is)

-- the moved tables are what each such command reaches
pub answers_reach : (c : Command) (f : Replica → After) (s : Scope) (part : PartView) (reply : Reply) (move : Tables → Tables) (t : Tables)
    → Does c f → IsPartFrom t s part → Answers s f part reply move → Reaches t c (move t)
answers_reach c f s part reply move t does from made = λ a h.
    subst (λ (y : After). Stands (move t) y.replica) (sym (does a)) (moved c f s part reply move t (move t) a does made h (from a h) refl)

-- a refusal that is the step's is a step that leaves the replica
left_step : (c : Command) (e : model.Refusal) (a : Replica) → IsReplica a → Refused e ≡ (step a c).reply → record { reply = Refused e; replica = a } ≡ step a c
left_step c e a sound is = go (step a c) is (sym (refused_leaves a c e sound (sym is)))
  where
    go : (x : After) → Refused e ≡ x.reply → a ≡ x.replica → record { reply = Refused e; replica = a } ≡ x
    go x f g = λ i. record { reply = f i; replica = g i }

refuses_at : (c : Command) (f : Replica → After) (e : Refusal) (t u : Tables) (a : Replica) → Does c f → Stands t a → u ≡ t
    → (Refused (refusal_of e) ≡ (f a).reply) ⊎ (e ≡ refusal.OutOfMemory)
    → (b : Replica) × IsStep a c (Refused (refusal_of e)) b × Stands u b
refuses_at c f e t u a does h same (inl r) =
    (a, inl (left_step c (refusal_of e) a h.sound (r ∙ ap (λ (x : After). x.reply) (sym (does a)))), subst (λ v. Stands v a) (sym same) h)
refuses_at c f e t u a does h same (inr out) =
    (a, inr (subst (λ x. IsOfMachine (Refused (refusal_of x))) (sym out) no_memory, refl), subst (λ v. Stands v a) (sym same) h)

-- a refusal is a step of each command that does so
pub refuses_step : (c : Command) (f : Replica → After) (s : Scope) (part : PartView) (e : Refusal) (t u : Tables)
    → Does c f → IsPartFrom t s part → Refuses s f part e → u ≡ t → TakesStep t c (Refused (refusal_of e)) u
refuses_step c f s part e t u does from made same = λ a h. refuses_at c f e t u a does h same (made.exact a h.sound (from a h))

-- ---- changes in a keeper's tables

-- a call of this keeper that makes the whole change, or nothing
abbrev pub Atomic : {K X : Type 0} → Ghosts K → K → K → ChangeView → Result X Fault → Type 0
Atomic k old new change result = IsAtomic k.tables k.failures k.is_clean k.is_open k.may_leave k.never_fails change old new result

-- what a crash may leave where a change is being made
left_of : {K : Type 0} (k : Ghosts K) (old : K) (c : Command) (t u : Tables) → Reaches (k.tables old) c u
    → k.may_leave old t ⊎ (k.is_open old × (t ≡ u)) → k.may_leave old t ⊎ Reaches (k.tables old) c t
left_of k old c t u reaches (inl before) = inl before
left_of k old c t u reaches (inr (o, after)) = inr (subst (λ v. Reaches (k.tables old) c v) (sym after) reaches)

was_open : {K : Type 0} (k : Ghosts K) (old : K) (t u : Tables) → k.may_leave old t ⊎ (k.is_open old × (t ≡ u)) → k.may_leave old t ⊎ k.is_open old
was_open k old t u (inl before) = inl before
was_open k old t u (inr (o, after)) = inr o

-- a change that is made serves each command whose step is told
pub applied : {K X : Type 0} (k : Ghosts K) (old new : K) (x : X) (c : Command) (reply : Reply) (change : ChangeView)
    → (k.is_clean old → k.is_open old → (u : Tables) → u ≡ changed change (k.tables old) → TakesStep (k.tables old) c reply u)
    → (k.is_clean old → k.is_open old → Reaches (k.tables old) c (changed change (k.tables old)))
    → ((e : model.Refusal) → ¬ (reply ≡ Refused e))
    → Atomic k old new change (Ok x) → IsServed k old new c reply
applied k old new x c reply change steps reaches accepted atomic =
    record {
      clean = atomic.clean;
      opens = atomic.opens;
      step = λ u o. steps (atomic.clean u) (atomic.opens u o) (k.tables new) (atomic.applied u o);
      counts = (let same : k.failures new ≡ k.failures old = atomic.counts in omega arith, λ s. absurd (accepted model.Store s));
      refused = λ u o e told. absurd (accepted e told);
      rise = inl atomic.counts;
      sure = λ s u o a h. atomic.counts;
      lasts = λ u o. inr (atomic.lasts u o);
      answered = λ u. inl (atomic.answered u);
      settled = atomic.settled;
      crash = λ u o t left. left_of k old c t (changed change (k.tables old)) (reaches (atomic.clean u) o) (atomic.crash u t left);
      shut = λ u t left. was_open k old t (changed change (k.tables old)) (atomic.crash u t left);
    }

-- a change that fails serves any of them too, by the refusal that tells of the failure
pub apply_failed : {K X : Type 0} (k : Ghosts K) (old new : K) (c : Command) (change : ChangeView) (e : Fault) (r : Refusal) → r ≡ fault_refusal e
    → (k.is_clean old → k.is_open old → Reaches (k.tables old) c (changed change (k.tables old)))
    → Atomic {X = X} k old new change (Err e) → IsServed k old new c (Refused (refusal_of r))
apply_failed k old new c change e r is reaches atomic =
    record {
      clean = atomic.clean;
      opens = atomic.opens;
      step = λ u o. fault_step e r (k.tables old) (k.tables new) c is (atomic.refused u o);
      counts = fault_counts e r (k.failures old) (k.failures old) (k.failures new) is refl atomic.counts;
      refused = λ u o x told. atomic.refused u o;
      rise = fault_rise e r (k.failures old) (k.failures old) (k.failures new) is refl atomic.counts;
      sure = λ s u o. atomic.sure s;
      lasts = λ u o. inl (of_fault e r is);
      answered = λ u. inr (anywhere_failed c r (of_fault e r is));
      settled = atomic.settled;
      crash = λ u o t left. left_of k old c t (changed change (k.tables old)) (reaches (atomic.clean u) o) (atomic.crash u t left);
      shut = λ u t left. was_open k old t (changed change (k.tables old)) (atomic.crash u t left);
    }

-- ---- commands over a keeper

-- a part that couldn't be loaded: every command is refused so
pub not_loaded : {K : Type 0} (k : Ghosts K) (old new : K) (s : Scope) (e : Refusal) (c : Command) → IsLoaded k old new s (Err e) → IsServed k old new c (Refused (refusal_of e))
not_loaded k old new s e c loaded =
    refused_by k old new e c loaded.read (λ u. inr (anywhere_failed c e loaded.failed)) (λ u o a h. (a, inr (loaded.failed, refl), subst (λ t. Stands t a) (sym (loaded.read.same u o)) h))

-- a part that was loaded is still that of the tables
pub from_loaded : {K : Type 0} (k : Ghosts K) (old new : K) (s : Scope) (part : PartView) → IsLoaded k old new s (Ok part) → k.is_clean new → k.is_open new → IsPartFrom (k.tables new) s part
from_loaded k old new s part loaded u o = λ a h.
    loaded.fits u (loaded.read.opens u o) a (subst (λ t. Stands t a) (loaded.read.same u o) h)

-- a question to the part serves each command that it answers
pub told_by : {K : Type 0} (k : Ghosts K) (old new : K) (s : Scope) (part : PartView) (answer : Result code.Reply Refusal) (c : Command) (f : Replica → After)
    → IsLoaded k old new s (Ok part) → Does c f → Tells s f part answer → IsServed k old new c (reply_in answer)
told_by k old new s part (Ok reply) c f loaded does told =
    answered_by k old new part c (reply_of reply) loaded.read
    (λ u o. answers_step c f s part (reply_of reply) (λ t. t) (k.tables old) (k.tables new) does (loaded.fits u (loaded.read.opens u o)) told (loaded.read.same u o)) (told.accepted model.Store)
told_by k old new s part (Err e) c f loaded does told =
    answered_by k old new part c (Refused (refusal_of e)) loaded.read
    (λ u o. refuses_step c f s part e (k.tables old) (k.tables new) does (loaded.fits u (loaded.read.opens u o)) told (loaded.read.same u o)) (not_store e told.never_store)

-- a call of the part of an open keeper that is refused serves each command whose refusal it is
pub refused_call : {K : Type 0} (k : Ghosts K) (at : K) (s : Scope) (part : PartView) (e : Refusal) (c : Command) (f : Replica → After)
    → Does c f → (k.is_clean at → k.is_open at) → (k.is_clean at → k.is_open at → IsPartFrom (k.tables at) s part) → Refuses s f part e → IsServed k at at c (Refused (refusal_of e))
refused_call k at s part e c f does is_open from told =
    stays k at c e (λ u. inl (is_open u)) (λ u o. refuses_step c f s part e (k.tables at) (k.tables at) does (from u o) told refl) (not_store e told.never_store)

-- a change that a call of the part told serves each command that the call answers, where it is made
pub change_made : {K X : Type 0} (k : Ghosts K) (old new : K) (x : X) (s : Scope) (part : PartView) (reply : Reply) (change : ChangeView) (c : Command) (f : Replica → After)
    → Does c f → (k.is_clean old → k.is_open old → IsPartFrom (k.tables old) s part) → Answers s f part reply (changed change)
    → Atomic k old new change (Ok x) → IsServed k old new c reply
change_made k old new x s part reply change c f does from made atomic =
    applied k old new x c reply change (λ u o t is. answers_step c f s part reply (changed change) (k.tables old) t does (from u o) made is)
    (λ u o. answers_reach c f s part reply (changed change) (k.tables old) does (from u o) made) made.accepted atomic

-- and where the keeper fails to make it
pub change_failed : {K X : Type 0} (k : Ghosts K) (old new : K) (s : Scope) (part : PartView) (reply : Reply) (change : ChangeView) (e : Fault) (r : Refusal) (c : Command) (f : Replica → After)
    → r ≡ fault_refusal e → Does c f → (k.is_clean old → k.is_open old → IsPartFrom (k.tables old) s part) → Answers s f part reply (changed change)
    → Atomic {X = X} k old new change (Err e) → IsServed k old new c (Refused (refusal_of r))
change_failed k old new s part reply change e r c f is does from made atomic =
    apply_failed k old new c change e r is (λ u o. answers_reach c f s part reply (changed change) (k.tables old) does (from u o) made) atomic

-- a command whose part was loaded, and whose call's answer was made
pub made_by : {K : Type 0} (k : Ghosts K) (first middle last : K) (s : Scope) (part : PartView) (answer : Result (code.Reply × ChangeView) Refusal) (reply : Reply) (c : Command) (f : Replica → After)
    → IsLoaded k first middle s (Ok part) → IsMadeFor k middle last answer reply → Does c f → TurnsBy s f part answer → IsServed k first last c reply
made_by k first middle last s part answer reply c f loaded made does turned =
    read_then k first middle last part c reply loaded.read (made c f s part does (λ u. loaded.read.lasts u (loaded.read.answered u)) (λ u o. from_loaded k first middle s part loaded u o) turned)
