-- Calls of an exchange over a keeper, put together.
use Rattle.std.proofs.Common.{◌⊎◌, inl, inr, Result, Ok, Err}
use Rattle.std.specs.Prelude.{IfOk}
use Rattle.mr_model.specs.Replica.{Replica}
use Rattle.mr_model.specs.Replies.{Reply}
use Rattle.mr_model.specs.Serving.{Reaches}
use Rattle.mr_model.specs.Step.{Command, IsStep, IsOfMachine}
use Rattle.mr_model.specs.Tables.{Tables, Stands}
use Rattle.mr_store.specs.declared.keeper.Keeper.{Ghosts}
use Rattle.mr_http.specs.declared.faults.WebFault.{WebFault}
use Rattle.mr_service.specs.Served.{IsServed}
use Rattle.mr_service.proofs.ReplyHalves.{replied_by, some_step}
use Rattle.mr_peer.specs.Exchanged.{IsExchanged}

-- a call that failed before the keeper was asked
pub untouched : {K X : Type 0} (k : Ghosts K) (at : K) (e : WebFault) (P : Replica → Result X WebFault → Replica → Type 0) (R : Tables → Type 0)
    → ((a : Replica) → P a (Err e) a) → IsExchanged k at at (Err e) P R
untouched k at e P R stays =
    record {
      clean = λ c. c;
      opens = λ c o. o;
      settled = λ c o s. s;
      stands = λ c o a is. (a, is, stays a);
      answered = λ c o a is. (a, stays a);
      lasts = tt;
      crash = λ c o t left. inl left;
    }

lasts_told : {X : Type 0} (result : Result X WebFault) (machine clean before after : Type 0) → IfOk result (λ _. machine → ⊥)
    → (clean → before → machine ⊎ after) → IfOk result (λ _. clean → before → after)
lasts_told (Ok x) machine clean before after not lasts = λ c o. elim (lasts c o) [ inl m ↦ absurd (not m) | inr still ↦ still ]
lasts_told (Err e) machine clean before after not lasts = tt

-- one command, off whose reply the result is read: where it is no fault the machine hasn't failed, and so the keeper is still open
pub of_served : {K X : Type 0} (k : Ghosts K) (old new : K) (command : Command) (reply : Reply) (result : Result X WebFault)
    (P : Replica → Result X WebFault → Replica → Type 0) (R : Tables → Type 0) → IsServed k old new command reply
    → ((a b : Replica) → IsStep a command reply b → P a result b)
    → IfOk result (λ _. IsOfMachine reply → ⊥)
    → ((t : Tables) → Reaches (k.tables old) command t → R t)
    → IsExchanged k old new result P R
of_served k old new command reply result P R served steps told reached =
    record {
      clean = served.clean;
      opens = served.opens;
      settled = served.settled;
      stands = λ c o a is. let s = served.step c o a is in (s.0, s.2, steps a s.0 s.1);
      answered = λ c o a is. let s = some_step a command reply (replied_by k old new command reply served c o a is) in (s.0, steps a s.0 s.1);
      lasts = lasts_told result (IsOfMachine reply) (k.is_clean new) (k.is_open old) (k.is_open new) told served.lasts;
      crash = λ c o t leaves. elim (served.crash c o t leaves) [ inl left ↦ inl left | inr r ↦ inr (reached t r) ];
    }

-- what is made of the result leaves the keeper as it is
pub onward : {K X Y : Type 0} (k : Ghosts K) (old new : K) (first : Result X WebFault) (result : Result Y WebFault)
    (P : Replica → Result X WebFault → Replica → Type 0) (Q : Replica → Result Y WebFault → Replica → Type 0) (R : Tables → Type 0)
    → IsExchanged k old new first P R
    → ((L : Type 0) → IfOk first (λ _. L) → IfOk result (λ _. L))
    → ((a b : Replica) → P a first b → Q a result b)
    → IsExchanged k old new result Q R
onward k old new first result P Q R call lasts becomes =
    record {
      clean = call.clean;
      opens = call.opens;
      settled = call.settled;
      stands = λ c o a is. let s = call.stands c o a is in (s.0, s.1, becomes a s.0 s.2);
      answered = λ c o a is. let s = call.answered c o a is in (s.0, becomes a s.0 s.1);
      lasts = lasts (k.is_clean new → k.is_open old → k.is_open new) call.lasts;
      crash = call.crash;
    }

-- a crash leaves one of more tables
pub reached : {K X : Type 0} (k : Ghosts K) (old new : K) (result : Result X WebFault) (P : Replica → Result X WebFault → Replica → Type 0)
    (R S : Tables → Type 0) → IsExchanged k old new result P R → ((t : Tables) → R t → S t) → IsExchanged k old new result P S
reached k old new result P R S call more =
    record {
      clean = call.clean;
      opens = call.opens;
      settled = call.settled;
      stands = call.stands;
      answered = call.answered;
      lasts = call.lasts;
      crash = λ c o t leaves. elim (call.crash c o t leaves) [ inl left ↦ inl left | inr r ↦ inr (more t r) ];
    }

lasts_on : {X : Type 0} (result : Result X WebFault) (L M : Type 0) → (L → M) → IfOk result (λ _. L) → IfOk result (λ _. M)
lasts_on (Ok x) L M f l = f l
lasts_on (Err e) L M f u = tt

left_by_both : (L M R S U : Type 0) → (M → L ⊎ R) → (R → U) → (S → U) → M ⊎ S → L ⊎ U
left_by_both L M R S U first of_first of_next (inl m) = elim (first m) [ inl l ↦ inl l | inr r ↦ inr (of_first r) ]
left_by_both L M R S U first of_first of_next (inr s) = inr (of_next s)

-- two calls, of which the first answered
pub both : {K X Y : Type 0} (k : Ghosts K) (old mid new : K) (x : X) (result : Result Y WebFault)
    (P : Replica → Result X WebFault → Replica → Type 0) (Q T : Replica → Result Y WebFault → Replica → Type 0) (R S U : Tables → Type 0)
    → IsExchanged k old mid (Ok x) P R → IsExchanged k mid new result Q S
    → ((a b c : Replica) → P a (Ok x) b → Q b result c → T a result c)
    → ((t : Tables) → R t → U t)
    → (((a : Replica) → Stands (k.tables old) a → (b : Replica) × Stands (k.tables mid) b × P a (Ok x) b) → (t : Tables) → S t → U t)
    → IsExchanged k old new result T U
both k old mid new x result P Q T R S U first next becomes of_first of_next =
    record {
      clean = λ c. first.clean (next.clean c);
      opens = λ c o. first.opens (next.clean c) (next.opens c o);
      settled = λ c o is. next.settled c o (first.settled (next.clean c) (next.opens c o) is);
      stands = λ c o a is.
          let s = first.stands (next.clean c) (next.opens c o) a is in
          let u = next.stands c o s.0 s.1 in
          (u.0, u.1, becomes a s.0 u.0 s.2 u.2);
      answered = λ c o a is.
          let still = first.lasts (next.clean c) o in
          let s = first.stands (next.clean c) still a is in
          let u = next.answered c still s.0 s.1 in
          (u.0, becomes a s.0 u.0 s.2 u.1);
      lasts = lasts_on result (k.is_clean new → k.is_open mid → k.is_open new) (k.is_clean new → k.is_open old → k.is_open new)
          (λ last c o. last c (first.lasts (next.clean c) o)) next.lasts;
      crash = λ c o t leaves.
          let still = first.lasts (next.clean c) o in
          left_by_both (k.may_leave old t) (k.may_leave mid t) (R t) (S t) (U t) (first.crash (next.clean c) o t) (of_first t)
          (of_next (first.stands (next.clean c) still) t) (next.crash c still t leaves);
    }
