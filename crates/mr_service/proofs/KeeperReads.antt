-- Calls of a keeper that leave its tables, as one record, and commands that are served by them.
use Rattle.std.specs.Prelude.{OnOk, IfOk, IfErr}
use Rattle.std.proofs.Common.{◌≡◌, refl, sym, ap, subst, ◌∙◌, ℕ, ◌⊎◌, inl, inr, Result, Ok, Err, le_refl, arith}
use Rattle.mr_model.specs.Replies.{Reply, Refused}
use Rattle.mr_model.specs.Replica.{Replica, IsReplica}
use Rattle.mr_model.specs.Step.{After, Command, step, IsStep, IsOfMachine, no_memory}
use Rattle.mr_model.specs.Refusals as model
use Rattle.mr_model.specs.Tables.{Tables, Stands, tables_of}
use Rattle.mr_model.specs.Serving.{TakesStep, Reaches}
use Rattle.mr_base.specs.RefusalViews.{refusal_of}
use Rattle.mr_base.specs.declared.refusals.Refusal.{Refusal}
use Rattle.mr_base.specs.declared.refusals.Refusal.TheVariants as refusal
use Rattle.mr_store.specs.KeeperCalls.{fault_refusal, IsQuiet}
use Rattle.mr_store.specs.declared.keeper.Fault.{Fault}
use Rattle.mr_store.specs.declared.keeper.Keeper.{Ghosts}
use Rattle.mr_service.specs.Asking.{Counts, NoneFails, TellsRise}
use Rattle.mr_service.specs.Served.{IsRead, IsRefusedAnywhere, IsServed}
use Rattle.mr_service.proofs.DeskSteps.{of_fault, fault_counts, fault_rise, fault_step}
use Rattle.mr_replica.proofs.RefusedSteps.{refused_leaves}

-- ---- one call of the keeper

-- a call of this keeper that leaves its tables
abbrev pub Quiet : {K X : Type 0} → Ghosts K → K → K → Result X Fault → Type 0
Quiet k old new result = IsQuiet k.tables k.failures k.is_clean k.is_open k.may_leave k.never_fails old new result

-- a call that answered
pub read_ok : {K X Y : Type 0} (k : Ghosts K) (old new : K) (x : X) (y : Y) → Quiet k old new (Ok y) → IsRead k old new (Ok x)
read_ok k old new x y quiet =
    record {
      clean = quiet.clean;
      opens = quiet.opens;
      same = quiet.same;
      failures = quiet.counts;
      counts = tt;
      rise = tt;
      sure = λ s c o a h. quiet.counts;
      lasts = quiet.lasts;
      answered = quiet.answered;
      fails = λ c o. tt;
      settled = quiet.settled;
      crash = quiet.crash;
    }

-- a call that failed, and the refusal that tells of it
pub read_err : {K X Y : Type 0} (k : Ghosts K) (old new : K) (e : Fault) (r : Refusal) → r ≡ fault_refusal e → Quiet {X = Y} k old new (Err e) → IsRead {X = X} k old new (Err r)
read_err k old new e r is quiet =
    record {
      clean = quiet.clean;
      opens = quiet.opens;
      same = quiet.same;
      failures = tt;
      counts = fault_counts e r (k.failures old) (k.failures old) (k.failures new) is refl quiet.counts;
      rise = fault_rise e r (k.failures old) (k.failures old) (k.failures new) is refl quiet.counts;
      sure = λ s c o. quiet.sure s;
      lasts = λ c o. tt;
      answered = λ c. tt;
      fails = λ c o. inl (of_fault e r is);
      settled = quiet.settled;
      crash = quiet.crash;
    }

-- no call, of a keeper that is open
pub read_none : {K X : Type 0} (k : Ghosts K) (at : K) (x : X) → (k.is_clean at → k.is_open at) → IsRead k at at (Ok x)
read_none k at x is_open =
    record {
      clean = λ u. u;
      opens = λ u o. o;
      same = λ u o. refl;
      failures = refl;
      counts = tt;
      rise = tt;
      sure = λ s u o a h. refl;
      lasts = λ u o. o;
      answered = is_open;
      fails = λ u o. tt;
      settled = λ u o before. before;
      crash = λ u t left. left;
    }

-- ---- two calls

of_any : {X : Type 0} (r : Result X Refusal) {P : Type 0} → P → OnOk r P
of_any (Ok x) p = p
of_any (Err e) p = tt

none_fails : (t0 t1 : Tables) (n0 n1 n2 : ℕ) → t1 ≡ t0 → n1 ≡ n0 → NoneFails t1 n1 n2 → NoneFails t0 n0 n2
none_fails t0 t1 n0 n1 n2 same first second = λ a h. second a (subst (λ x. Stands x a) (sym same) h) ∙ first

-- two reads, one after the other
pub read_next : {K X Y : Type 0} (k : Ghosts K) (a b z : K) (x : X) (result : Result Y Refusal) → IsRead k a b (Ok x) → IsRead k b z result → IsRead k a z result
read_next k a b z x result first next =
    record {
      clean = λ u. first.clean (next.clean u);
      opens = λ u o. first.opens (next.clean u) (next.opens u o);
      same = λ u o. next.same u o ∙ first.same (next.clean u) (next.opens u o);
      failures = subst (λ n. OnOk result (k.failures z ≡ n)) first.failures next.failures;
      counts = subst (λ n. IfErr result (λ e. Counts (Refused (refusal_of e)) n (k.failures z))) first.failures next.counts;
      rise = subst (λ n. IfErr result (λ e. TellsRise (Refused (refusal_of e)) n (k.failures z))) first.failures next.rise;
      sure = λ s u o. none_fails (k.tables a) (k.tables b) (k.failures a) (k.failures b) (k.failures z) (first.same (next.clean u) (next.opens u o)) first.failures (next.sure s u o);
      lasts = λ u o. next.lasts u (first.lasts (next.clean u) o);
      answered = λ u. of_any result (first.answered (next.clean u));
      fails = λ u o. next.fails u (first.lasts (next.clean u) o);
      settled = λ u o before. next.settled u o (first.settled (next.clean u) (next.opens u o) before);
      crash = λ u t left. first.crash (next.clean u) t (next.crash u t left);
    }

-- what is made of what was read: a refusal of it is none of the store's
pub read_made : {K X Y : Type 0} (k : Ghosts K) (a z : K) (x : X) (result : Result Y Refusal) → IsRead k a z (Ok x)
    → IfErr result (λ e. ¬ (Refused (refusal_of e) ≡ Refused model.Store)) → IsRead k a z result
read_made k a z x (Ok y) read not_store =
    record {
      clean = read.clean;
      opens = read.opens;
      same = read.same;
      failures = read.failures;
      counts = tt;
      rise = tt;
      sure = read.sure;
      lasts = read.lasts;
      answered = read.answered;
      fails = λ u o. tt;
      settled = read.settled;
      crash = read.crash;
    }
read_made k a z x (Err e) read not_store =
    record {
      clean = read.clean;
      opens = read.opens;
      same = read.same;
      failures = tt;
      counts = (let same : k.failures z ≡ k.failures a = read.failures in omega arith, λ s. absurd (not_store s));
      rise = inl read.failures;
      sure = read.sure;
      lasts = λ u o. tt;
      answered = λ u. tt;
      fails = λ u o. inr (read.lasts u o);
      settled = read.settled;
      crash = read.crash;
    }

-- where memory is wanting, it is refused so
pub of_memory : {Y : Type 0} (result : Result Y Refusal) → IfErr result (λ e. e ≡ refusal.OutOfMemory) → IfErr result (λ e. IsOfMachine (Refused (refusal_of e)))
of_memory (Ok y) only = tt
of_memory (Err e) only = subst (λ x. IsOfMachine (Refused (refusal_of x))) (sym only) no_memory

-- what is so of what is made where two things are so of it
pub both_ok : {T : Type 0} (result : Result T Refusal) (P Q R : T → Type 0) → ((x : T) → P x → Q x → R x) → IfOk result P → IfOk result Q → IfOk result R
both_ok (Ok x) P Q R f p q = f x p q
both_ok (Err e) P Q R f p q = tt

-- as is want of memory
pub read_within : {K X Y : Type 0} (k : Ghosts K) (a z : K) (x : X) (result : Result Y Refusal) → IsRead k a z (Ok x) → IfErr result (λ e. e ≡ refusal.OutOfMemory) → IsRead k a z result
read_within k a z x result read only = read_made k a z x result read (go result only)
  where
    go : {Y : Type 0} (r : Result Y Refusal) → IfErr r (λ e. e ≡ refusal.OutOfMemory) → IfErr r (λ e. ¬ (Refused (refusal_of e) ≡ Refused model.Store))
    go (Ok y) o = tt
    go (Err e) o = λ told. absurd (cc (told, ap refusal_of o))

-- a refusal that is a step of any tables is one of every replica
pub anywhere : (c : Command) (e : Refusal) → ((t : Tables) → TakesStep t c (Refused (refusal_of e)) t) → IsRefusedAnywhere c (Refused (refusal_of e))
anywhere c e steps = (refusal_of e, refl, λ a sound. let (b, is, stands) = steps (tables_of a) a (record { sound = sound; are = refl }) in go a b sound is)
  where
    go : (a b : Replica) → IsReplica a → IsStep a c (Refused (refusal_of e)) b → IsStep a c (Refused (refusal_of e)) a
    go a b sound (inr (of_machine, same)) = inr (of_machine, refl)
    go a b sound (inl is) =
        let same : b ≡ a = ap (λ (z : After). z.replica) is ∙ refused_leaves a c (refusal_of e) sound (sym (ap (λ (z : After). z.reply) is)) in
        inl (subst (λ q. ◌≡◌ {A = After} (record { reply = Refused (refusal_of e); replica = q }) (step a c)) same is)

-- as is one of a machine that failed
pub anywhere_failed : (c : Command) (e : Refusal) → IsOfMachine (Refused (refusal_of e)) → IsRefusedAnywhere c (Refused (refusal_of e))
anywhere_failed c e of_machine = (refusal_of e, refl, λ a sound. inr (of_machine, refl))

-- a command that was served after the keeper was read
pub read_then : {K X : Type 0} (k : Ghosts K) (a b z : K) (x : X) (c : Command) (reply : Reply) → IsRead k a b (Ok x) → IsServed k b z c reply → IsServed k a z c reply
read_then k a b z x c reply first next =
    record {
      clean = λ u. first.clean (next.clean u);
      opens = λ u o. first.opens (next.clean u) (next.opens u o);
      step = λ u o. subst (λ t. TakesStep t c reply (k.tables z)) (first.same (next.clean u) (next.opens u o)) (next.step u o);
      counts = subst (λ n. Counts reply n (k.failures z)) first.failures next.counts;
      refused = λ u o e is. next.refused u o e is ∙ first.same (next.clean u) (next.opens u o);
      rise = subst (λ n. TellsRise reply n (k.failures z)) first.failures next.rise;
      sure = λ s u o. none_fails (k.tables a) (k.tables b) (k.failures a) (k.failures b) (k.failures z) (first.same (next.clean u) (next.opens u o)) first.failures (next.sure s u o);
      lasts = λ u o. next.lasts u (first.lasts (next.clean u) o);
      answered = λ u. inl (first.answered (next.clean u));
      settled = λ u o before. next.settled u o (first.settled (next.clean u) (next.opens u o) before);
      crash = λ u o t left. left_of (next.clean u) (first.lasts (next.clean u) o) t (next.crash u (first.lasts (next.clean u) o) t left);
      shut = λ u t left. shut_of (next.clean u) t (next.shut u t left);
    }
  where
    left_of : k.is_clean b → k.is_open b → (t : Tables) → k.may_leave b t ⊎ Reaches (k.tables b) c t → k.may_leave a t ⊎ Reaches (k.tables a) c t
    left_of u p t (inl before) = inl (first.crash u t before)
    left_of u p t (inr after) = inr (subst (λ v. Reaches v c t) (first.same u p) after)

    shut_of : k.is_clean b → (t : Tables) → k.may_leave b t ⊎ k.is_open b → k.may_leave a t ⊎ k.is_open a
    shut_of u t (inl before) = inl (first.crash u t before)
    shut_of u t (inr open_then) = inr (first.opens u open_then)

-- ---- commands that only read

-- a refusal that leaves the keeper as it was
pub stays : {K : Type 0} (k : Ghosts K) (at : K) (c : Command) (e : Refusal) → (k.is_clean at → k.is_open at ⊎ IsRefusedAnywhere c (Refused (refusal_of e)))
    → (k.is_clean at → k.is_open at → TakesStep (k.tables at) c (Refused (refusal_of e)) (k.tables at)) → ¬ (Refused (refusal_of e) ≡ Refused model.Store)
    → IsServed k at at c (Refused (refusal_of e))
stays k at c e answered step not_store =
    record {
      clean = λ u. u;
      opens = λ u o. o;
      step = step;
      counts = (le_refl (k.failures at), λ s. absurd (not_store s));
      refused = λ u o x is. refl;
      rise = inl refl;
      sure = λ s u o a h. refl;
      lasts = λ u o. inr o;
      answered = answered;
      settled = λ u o before. before;
      crash = λ u o t left. inl left;
      shut = λ u t left. inl left;
    }

-- words that are refused before the keeper is read
pub unread : {K : Type 0} (k : Ghosts K) (at : K) (c : Command) (e : Refusal) → ((t : Tables) → TakesStep t c (Refused (refusal_of e)) t) → ¬ (Refused (refusal_of e) ≡ Refused model.Store)
    → IsServed k at at c (Refused (refusal_of e))
unread k at c e step not_store = stays k at c e (λ u. inr (anywhere c e step)) (λ u o. step (k.tables at)) not_store

-- a command that is answered by what was read
pub answered_by : {K X : Type 0} (k : Ghosts K) (old new : K) (x : X) (c : Command) (reply : Reply) → IsRead k old new (Ok x)
    → (k.is_clean new → k.is_open new → TakesStep (k.tables old) c reply (k.tables new)) → ¬ (reply ≡ Refused model.Store)
    → IsServed k old new c reply
answered_by k old new x c reply read step not_store =
    record {
      clean = read.clean;
      opens = read.opens;
      step = step;
      counts = (let same : k.failures new ≡ k.failures old = read.failures in omega arith, λ s. absurd (not_store s));
      refused = λ u o e is. read.same u o;
      rise = inl read.failures;
      sure = read.sure;
      lasts = λ u o. inr (read.lasts u o);
      answered = λ u. inl (read.answered u);
      settled = read.settled;
      crash = λ u o t left. inl (read.crash u t left);
      shut = λ u t left. inl (read.crash u t left);
    }

-- a command that is refused because what was to be read is
pub refused_by : {K X : Type 0} (k : Ghosts K) (old new : K) (e : Refusal) (c : Command) → IsRead {X = X} k old new (Err e)
    → (k.is_clean new → k.is_open old ⊎ IsRefusedAnywhere c (Refused (refusal_of e)))
    → (k.is_clean new → k.is_open new → TakesStep (k.tables old) c (Refused (refusal_of e)) (k.tables new))
    → IsServed k old new c (Refused (refusal_of e))
refused_by k old new e c read answered step =
    record {
      clean = read.clean;
      opens = read.opens;
      step = step;
      counts = read.counts;
      refused = λ u o x is. read.same u o;
      rise = read.rise;
      sure = read.sure;
      lasts = read.fails;
      answered = answered;
      settled = read.settled;
      crash = λ u o t left. inl (read.crash u t left);
      shut = λ u t left. inl (read.crash u t left);
    }

-- a read for which memory or the store failed serves every command
pub failed_by : {K X : Type 0} (k : Ghosts K) (old new : K) (e : Refusal) (c : Command) → IsRead {X = X} k old new (Err e)
    → IsOfMachine (Refused (refusal_of e)) → IsServed k old new c (Refused (refusal_of e))
failed_by k old new e c read machine = refused_by k old new e c read (λ u. inr (anywhere_failed c e machine)) (λ u o a h. (a, inr (machine, refl), subst (λ t. Stands t a) (sym (read.same u o)) h))

-- a read that failed serves every command, by the refusal that tells of the failure
pub fails_all : {K X : Type 0} (k : Ghosts K) (old new : K) (e : Fault) (r : Refusal) → r ≡ fault_refusal e → Quiet {X = X} k old new (Err e)
    → (c : Command) → IsServed k old new c (Refused (refusal_of r))
fails_all k old new e r is quiet c =
    refused_by {X = ℕ} k old new r c (read_err k old new e r is quiet) (λ u. inr (anywhere_failed c r (of_fault e r is))) (λ u o. fault_step e r (k.tables old) (k.tables new) c is (quiet.same u o))
