-- What a replica over lists answers is what the definitions say: no store fails there.
use Rattle.std.proofs.Common.{◌≡◌, refl, sym, ap, subst, ◌∙◌, ℕ, ◌<◌, ◌⊎◌, inl, inr, arith, Bool, true, false}
use Rattle.std.proofs.lemmas.Bool.{false≢true}
use Rattle.std.specs.Prelude.{Result, Ok, Err, IfOk, IfErr}
use Rattle.mr_model.specs.Replica.{Replica}
use Rattle.mr_model.specs.Texts.{Text}
use Rattle.mr_model.specs.Refusals.{Refusal, OutOfMemory, Store}
use Rattle.mr_model.specs.Exchange.{Batch}
use Rattle.mr_model.specs.Positions.{Position, position_of, position_text, read_position}
use Rattle.mr_model.specs.Replies.{Reply, PositionIs, BatchIs, Refused}
use Rattle.mr_model.specs.Step.{Command, AskPosition, BatchFor, After, step, reply_to_position, IsStep, IsOfMachine, no_memory, no_store}
use Rattle.mr_model.specs.Tables.{Tables, Stands}
use Rattle.mr_model.specs.Serving.{TakesStep}
use Rattle.mr_service.specs.Asking.{Counts, NoneFails}
use Rattle.mr_service.specs.Worlds.{MemberView, StandsForMember, AnswersInMemory, IsPositionText, IsBatchText}
use Rattle.mr_service.proofs.StepServers.{step_same}

-- with its server and its primary
abbrev pub member : ℕ → ℕ → Tables → MemberView
member server primary tables = record { server = server; primary = primary; tables = tables }

pub answers : (server primary : ℕ) (before after : Tables) (c : Command) (reply : Reply) (old new : ℕ) → TakesStep before c reply after → Counts reply old new → NoneFails before old new
    → AnswersInMemory (member server primary before) c reply (member server primary after)
answers server primary before after c reply old new takes counts none r h = go (takes r h.tables)
  where
    never : reply ≡ Refused Store → ⊥
    never e = let rises : old < new = counts.1 e in let same : new ≡ old = none r h.tables in omega (arith, rises, same)

    machine : {said : Reply} → IsOfMachine said → said ≡ reply → reply ≡ Refused OutOfMemory
    machine no_memory e = sym e
    machine no_store e = absurd (never (sym e))

    go : ((b : Replica) × IsStep r c reply b × Stands after b)
        → ((reply ≡ (step r c).reply) × StandsForMember (member server primary after) (step r c).replica) ⊎ ((reply ≡ Refused OutOfMemory) × StandsForMember (member server primary after) r)
    go (b, inl e, stands) =
        let is : b ≡ (step r c).replica = ap (λ (a : After). a.replica) e in
        let same = step_same r c in
        inl (ap (λ (a : After). a.reply) e, record { server = h.server ∙ sym same.server; primary = h.primary ∙ sym same.primary; tables = subst (Stands after) is stands })
    go (b, inr (m, e), stands) = inr (machine m refl, record { server = h.server; primary = h.primary; tables = subst (Stands after) e stands })

-- ---- questions that leave the replica

-- a question leaves the replica that it is asked of
pub question_stays : (m after : MemberView) (c : Command) (reply : Reply) → AnswersInMemory m c reply after → (r : Replica) → (step r c).replica ≡ r → StandsForMember m r → StandsForMember after r
question_stays m after c reply said r same h = go (said r h)
  where
    go : ((reply ≡ (step r c).reply) × StandsForMember after (step r c).replica) ⊎ ((reply ≡ Refused OutOfMemory) × StandsForMember after r) → StandsForMember after r
    go (inl p) = subst (StandsForMember after) same p.1
    go (inr p) = p.1

is_refused : Reply → Bool
is_refused (Refused e) = true
is_refused _ = false

position_not_refused : (p : Position) → PositionIs p ≡ Refused OutOfMemory → ⊥
unfolding is_refused
position_not_refused p e = false≢true (ap is_refused e)

batch_not_refused : (b : Batch) → BatchIs b ≡ Refused OutOfMemory → ⊥
unfolding is_refused
batch_not_refused b e = false≢true (ap is_refused e)

told_position : Reply → Position → Position
told_position (PositionIs p) d = p
told_position _ d = d

-- the position that is replied is the replica's
pub position_told : (m after : MemberView) (reply : Reply) (text : Text) → AnswersInMemory m AskPosition reply after
    → IsPositionText reply text → (r : Replica) → StandsForMember m r → text ≡ position_text (position_of r)
unfolding told_position
position_told m after reply text said (p, is, written) r h = go (said r h)
  where
    go : ((reply ≡ PositionIs (position_of r)) × StandsForMember after r) ⊎ ((reply ≡ Refused OutOfMemory) × StandsForMember after r) → text ≡ position_text (position_of r)
    go (inl q) = written ∙ ap (λ x. position_text (told_position x p)) (sym is ∙ q.0)
    go (inr q) = absurd (position_not_refused p (sym is ∙ q.0))

-- so is the batch
pub batch_told : (m after : MemberView) (reply : Reply) (position text : Text) (n : ℕ) → AnswersInMemory m (BatchFor position n) reply after
    → IsBatchText reply text → (r : Replica) → StandsForMember m r → IsBatchText (reply_to_position r (read_position position) n) text
batch_told m after reply position text n said (b, is, written) r h = go (said r h)
  where
    go : ((reply ≡ reply_to_position r (read_position position) n) × StandsForMember after r) ⊎ ((reply ≡ Refused OutOfMemory) × StandsForMember after r)
        → IsBatchText (reply_to_position r (read_position position) n) text
    go (inl q) = (b, sym q.0 ∙ is, written)
    go (inr q) = absurd (batch_not_refused b (sym is ∙ q.0))

refusal_in : Reply → Refusal → Refusal
refusal_in (Refused x) d = x
refusal_in _ d = d

pub refusal_told : (m after : MemberView) (reply : Reply) (position : Text) (n : ℕ) (e : Refusal)
    → AnswersInMemory m (BatchFor position n) reply after → (reply ≡ Refused e) ⊎ (e ≡ OutOfMemory) → (r : Replica) → StandsForMember m r
    → (reply_to_position r (read_position position) n ≡ Refused e) ⊎ (e ≡ OutOfMemory)
unfolding refusal_in
refusal_told m after reply position n e said (inr none) r h = inr none
refusal_told m after reply position n e said (inl is) r h = go (said r h)
  where
    go : ((reply ≡ reply_to_position r (read_position position) n) × StandsForMember after r) ⊎ ((reply ≡ Refused OutOfMemory) × StandsForMember after r)
        → (reply_to_position r (read_position position) n ≡ Refused e) ⊎ (e ≡ OutOfMemory)
    go (inl q) = inl (sym q.0 ∙ is)
    go (inr q) = inr (ap (λ x. refusal_in x e) (sym is ∙ q.0))

-- ---- the same of what the calls answer

pub position_texts : {V E : Type 0} (m after : MemberView) (reply : Reply) (text : V → Text) (result : Result V E)
    → AnswersInMemory m AskPosition reply after → IfOk result (λ v. IsPositionText reply (text v)) → (r : Replica) → StandsForMember m r
    → IfOk result (λ v. text v ≡ position_text (position_of r))
position_texts m after reply text (Ok v) said told r h = position_told m after reply (text v) said told r h
position_texts m after reply text (Err e) said told r h = tt

pub batch_texts : {V E : Type 0} (m after : MemberView) (reply : Reply) (position : Text) (n : ℕ) (text : V → Text) (result : Result V E)
    → AnswersInMemory m (BatchFor position n) reply after → IfOk result (λ v. IsBatchText reply (text v))
    → (r : Replica) → StandsForMember m r → IfOk result (λ v. IsBatchText (reply_to_position r (read_position position) n) (text v))
batch_texts m after reply position n text (Ok v) said told r h = batch_told m after reply position (text v) n said told r h
batch_texts m after reply position n text (Err e) said told r h = tt

pub batch_refusals : {V E : Type 0} (m after : MemberView) (reply : Reply) (position : Text) (n : ℕ) (refusal : E → Refusal) (result : Result V E) → AnswersInMemory m (BatchFor position n) reply after
    → IfErr result (λ e. (reply ≡ Refused (refusal e)) ⊎ (refusal e ≡ OutOfMemory)) → (r : Replica) → StandsForMember m r
    → IfErr result (λ e. (reply_to_position r (read_position position) n ≡ Refused (refusal e)) ⊎ (refusal e ≡ OutOfMemory))
batch_refusals m after reply position n refusal (Ok v) said told r h = tt
batch_refusals m after reply position n refusal (Err e) said told r h = refusal_told m after reply position n (refusal e) said told r h
