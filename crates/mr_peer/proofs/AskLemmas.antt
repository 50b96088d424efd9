-- What this replica hands out, and what was written of it.
use Rattle.std.proofs.Common.{◌≡◌, inl, inr, ◌∙◌, refl, sym, ap, subst, ℕ, List, Option, Some, None, Result, Ok, Err, true}
use Rattle.std.specs.Prelude.{IfOk, IfErr}
use Rattle.std.proofs.KnownBytes.{Keeps-refl}
use Rattle.mr_model.specs.Texts.{Text}
use Rattle.mr_model.specs.Replica.{Replica}
use Rattle.mr_model.specs.Exchange.{Batch, Ending, batch_text}
use Rattle.mr_model.specs.Refusals.{Refusal}
use Rattle.mr_model.specs.Positions.{Position, position_of, position_text, is_position}
use Rattle.mr_model.specs.Replies.{Reply, Refused, PositionIs, BatchIs}
use Rattle.mr_model.specs.Step.{Command, AskPosition, BatchFor, After, step, IsStep, IsOfMachine, no_memory, no_store, batch_of, batch_unless, reply_to_position}
use Rattle.mr_model.proofs.PositionsReadBack.{read-position_text}
use Rattle.mr_http.specs.declared.faults.WebFault.{WebFault}
use Rattle.mr_http.specs.declared.faults.WebFault.TheVariants as fault
use Rattle.mr_service.specs.Worlds.{IsPositionText}
use Rattle.mr_peer.specs.Rounds.{RunsRequest}
use Rattle.mr_peer.specs.PeerAsking.{IsSendFault, IsAskFault, GivesBatch, GivesWritten, Wrote, OwnRefuses, ReadsOff, HandsOut, IsBatchWith}
use Rattle.mr_peer.specs.PeerTaking.{IsOwnFault}

-- a step of a command that leaves the replica as it is
stayed : (a : Replica) (command : Command) (reply : Reply) (b : Replica) → (step a command).replica ≡ a → IsStep a command reply b → b ≡ a
stayed a command reply b stays (inl e) = ap (λ (x : After). x.replica) e ∙ stays
stayed a command reply b stays (inr m) = m.1

-- what is read off the reply of such a command is handed out
pub handed : {X : Type 0} (command : Command) (reply : Reply) (P Q : X → Type 0) (a b : Replica) (result : Result X WebFault)
    → (step a command).replica ≡ a
    → ((x : X) → P x → reply ≡ (step a command).reply → Q x)
    → ((x : X) → P x → IsOfMachine reply → ⊥)
    → ReadsOff reply P result → IsStep a command reply b → (b ≡ a) × HandsOut a command Q result
handed {X} command reply P Q a b result stays good machine reads taken = (same, go result reads)
  where
    same : b ≡ a
    same = stayed a command reply b stays taken

    value : (x : X) → P x → IsStep a command reply b → Q x
    value x p (inl e) = good x p (ap (λ (y : After). y.reply) e)
    value x p (inr m) = absurd (machine x p m.0)

    go : (r : Result X WebFault) → ReadsOff reply P r → HandsOut a command Q r
    go (Ok x) p = value x p taken
    go (Err (fault.Own e)) is =
        subst (λ (r : Reply). IsStep a command r a) is (subst (λ (c : Replica). IsStep a command reply c) same taken)
    go (Err fault.Memory) u = tt
    go (Err fault.Read) u = absurd u
    go (Err fault.Write) u = absurd u
    go (Err fault.BadReply) u = absurd u
    go (Err (fault.Peer n)) u = absurd u

pub same_position : (p q : Position) → PositionIs p ≡ PositionIs q → p ≡ q
same_position p q e = cc

same_batch : (p q : Batch) → BatchIs p ≡ BatchIs q → p ≡ q
same_batch p q e = cc

pub not_position : (reply : Reply) (p : Position) → reply ≡ PositionIs p → IsOfMachine reply → ⊥
not_position reply p is no_memory = let f : Refused _ ≡ PositionIs p = is in absurd (cc)
not_position reply p is no_store = let f : Refused _ ≡ PositionIs p = is in absurd (cc)

pub not_batch : (reply : Reply) (b : Batch) → reply ≡ BatchIs b → IsOfMachine reply → ⊥
not_batch reply b is no_memory = let f : Refused _ ≡ BatchIs b = is in absurd (cc)
not_batch reply b is no_store = let f : Refused _ ≡ BatchIs b = is in absurd (cc)

-- the text of this replica's position
pub position_handed : {X : Type 0} (text_of : X → Text) (reply : Reply) (result : Result X WebFault)
    → ReadsOff reply (λ x. IsPositionText reply (text_of x)) result → (a b : Replica) → IsStep a AskPosition reply b
    → (b ≡ a) × HandsOut a AskPosition (λ x. text_of x ≡ position_text (position_of a)) result
position_handed text_of reply result reads a b =
    handed AskPosition reply (λ x. IsPositionText reply (text_of x)) (λ x. text_of x ≡ position_text (position_of a)) a b result refl
    (λ x p e. p.2 ∙ ap position_text (same_position p.0 (position_of a) (sym p.1 ∙ e)))
    (λ x p m. not_position reply p.0 p.1 m) reads

-- where a position is read off the reply, the machine hasn't failed
pub position_told : {X : Type 0} (text_of : X → Text) (reply : Reply) (result : Result X WebFault)
    → ReadsOff reply (λ x. IsPositionText reply (text_of x)) result → IfOk result (λ _. IsOfMachine reply → ⊥)
position_told text_of reply (Ok x) reads = not_position reply reads.0 reads.1
position_told text_of reply (Err e) reads = tt

-- the same of a batch
pub batch_told : {X : Type 0} (text_of : X → Text) (ending : X → Ending) (reply : Reply) (result : Result X WebFault)
    → ReadsOff reply (λ x. IsBatchWith reply (text_of x) (ending x)) result → IfOk result (λ _. IsOfMachine reply → ⊥)
batch_told text_of ending reply (Ok x) reads = not_batch reply reads.0 reads.1
batch_told text_of ending reply (Err e) reads = tt

unless_batch : (o : Option Refusal) (made b : Batch) → BatchIs b ≡ batch_unless o made → b ≡ made
unless_batch None made b e = same_batch b made e
unless_batch (Some f) made b e = absurd (let g : BatchIs b ≡ Refused f = e in cc)

-- the text of this replica's batch for a position, and its ending
pub batch_handed : {X : Type 0} (text_of : X → Text) (ending : X → Ending) (reply : Reply) (p : Position) (m : ℕ) (result : Result X WebFault)
    → is_position p ≡ true → ReadsOff reply (λ x. IsBatchWith reply (text_of x) (ending x)) result
    → (a b : Replica) → IsStep a (BatchFor (position_text p) m) reply b
    → (b ≡ a) × HandsOut a (BatchFor (position_text p) m)
    (λ x. (text_of x ≡ batch_text (batch_of a p m)) × (ending x ≡ (batch_of a p m).ending) × ((step a (BatchFor (position_text p) m)).reply ≡ BatchIs (batch_of a p m))) result
batch_handed {X} text_of ending reply p m result ok reads a b =
    handed (BatchFor (position_text p) m) reply (λ x. IsBatchWith reply (text_of x) (ending x))
    (λ x. (text_of x ≡ batch_text (batch_of a p m)) × (ending x ≡ (batch_of a p m).ending) × ((step a (BatchFor (position_text p) m)).reply ≡ BatchIs (batch_of a p m))) a b result refl
    (λ x is e.
    let same = made x is e in
    (is.2 ∙ ap batch_text same, is.3 ∙ ap (λ (b : Batch). b.ending) same, sym e ∙ is.1 ∙ ap BatchIs same))
    (λ x is machine. not_batch reply is.0 is.1 machine) reads
  where
    made : (x : X) → (is : IsBatchWith reply (text_of x) (ending x)) → reply ≡ (step a (BatchFor (position_text p) m)).reply → is.0 ≡ batch_of a p m
    made x is e =
        unless_batch _ (batch_of a p m) is.0
        (sym is.1 ∙ e ∙ ap (λ (o : Option Position). reply_to_position a o m) (read-position_text p ok))

-- ---- whatever the replica is

-- what is read off a reply fails as this replica does
pub reads_faults : {X : Type 0} (reply : Reply) (P : X → Type 0) (result : Result X WebFault) → ReadsOff reply P result → IfErr result IsOwnFault
reads_faults reply P (Ok x) reads = tt
reads_faults reply P (Err (fault.Own e)) reads = tt
reads_faults reply P (Err fault.Memory) reads = tt
reads_faults reply P (Err fault.Read) reads = reads
reads_faults reply P (Err fault.Write) reads = reads
reads_faults reply P (Err fault.BadReply) reads = reads
reads_faults reply P (Err (fault.Peer n)) reads = reads

pub own_asks : (e : WebFault) → IsOwnFault e → IsAskFault e
own_asks fault.Memory is = tt
own_asks (fault.Own e) is = tt
own_asks fault.Read is = is
own_asks fault.Write is = absurd is
own_asks fault.BadReply is = is
own_asks (fault.Peer n) is = is

-- a fault of writing leaves as much written, whatever else would have come
pub wrote_as : (X Y : Type 0) (request : Text) (held holds : Option (List ℕ)) (e : WebFault)
    → Wrote {X = X} request held holds (Err e) → Wrote {X = Y} request held holds (Err e)
wrote_as X Y request held holds fault.Write wrote = wrote
wrote_as X Y request held holds fault.Memory wrote = wrote
wrote_as X Y request held holds fault.Read wrote = wrote
wrote_as X Y request held holds fault.BadReply wrote = wrote
wrote_as X Y request held holds (fault.Peer n) wrote = wrote
wrote_as X Y request held holds (fault.Own e) wrote = wrote

-- ---- writing

-- nothing is written where nothing was handed out
pub unsent : (X Y : Type 0) (a : Replica) (command : Command) (Q : X → Type 0) (request : Text) (held : Option (List ℕ)) (e : WebFault)
    → HandsOut a command Q (Err e) → OwnRefuses {X = Y} a command (Err e) × Wrote {X = Y} request held held (Err e)
unsent X Y a command Q request held (fault.Own e) is = (is, Keeps-refl held)
unsent X Y a command Q request held fault.Memory u = (tt, Keeps-refl held)
unsent X Y a command Q request held fault.Read u = absurd u
unsent X Y a command Q request held fault.Write u = absurd u
unsent X Y a command Q request held fault.BadReply u = absurd u
unsent X Y a command Q request held (fault.Peer n) u = absurd u

-- with a fault of this replica nothing was written
pub unwritten : (X : Type 0) (a : Replica) (position : Position) (e : WebFault) → IsOwnFault e → GivesWritten {X = X} a position (Err e)
unwritten X a position (fault.Own e) u = tt
unwritten X a position fault.Memory u = tt
unwritten X a position fault.Read u = absurd u
unwritten X a position fault.Write u = absurd u
unwritten X a position fault.BadReply u = absurd u
unwritten X a position (fault.Peer n) u = absurd u

-- what was begun to be written is a batch that the step gives
pub begun : (X : Type 0) (a : Replica) (position : Position) (e : WebFault) → GivesBatch a position → GivesWritten {X = X} a position (Err e)
begun X a position (fault.Own e) gives = tt
begun X a position fault.Memory gives = tt
begun X a position fault.Read gives = tt
begun X a position fault.Write gives = gives
begun X a position fault.BadReply gives = tt
begun X a position (fault.Peer n) gives = tt

-- a fault of writing
pub sent_short : (X Y : Type 0) (a : Replica) (command : Command) (request : Text) (held holds : Option (List ℕ)) (e : WebFault)
    → IsSendFault e → Wrote {X = X} request held holds (Err e) → OwnRefuses {X = Y} a command (Err e) × Wrote {X = Y} request held holds (Err e)
sent_short X Y a command request held holds fault.Write u wrote = (tt, wrote)
sent_short X Y a command request held holds fault.Memory u wrote = (tt, wrote)
sent_short X Y a command request held holds fault.Read u wrote = absurd u
sent_short X Y a command request held holds fault.BadReply u wrote = absurd u
sent_short X Y a command request held holds (fault.Peer n) u wrote = absurd u
sent_short X Y a command request held holds (fault.Own e) u wrote = absurd u

-- the same faults, where another value would have come
pub failed_as : (X Y : Type 0) (a : Replica) (command : Command) (request : Text) (held holds : Option (List ℕ)) (e : WebFault)
    → OwnRefuses {X = X} a command (Err e) → Wrote {X = X} request held holds (Err e)
    → OwnRefuses {X = Y} a command (Err e) × Wrote {X = Y} request held holds (Err e)
failed_as X Y a command request held holds fault.Write own wrote = (tt, wrote)
failed_as X Y a command request held holds fault.Memory own wrote = (tt, wrote)
failed_as X Y a command request held holds fault.Read own wrote = (tt, wrote)
failed_as X Y a command request held holds fault.BadReply own wrote = (tt, wrote)
failed_as X Y a command request held holds (fault.Peer n) own wrote = (tt, wrote)
failed_as X Y a command request held holds (fault.Own e) own wrote = (own, wrote)

-- the ask of a round failed
pub ask_failed : (X Y : Type 0) (a : Replica) (command : Command) (request : Text) (held holds : Option (List ℕ)) (e : WebFault) (taken : Type 0)
    → IsAskFault e → OwnRefuses {X = X} a command (Err e) → Wrote {X = X} request held holds (Err e) → RunsRequest {X = Y} a command request held holds (Err e) taken
ask_failed X Y a command request held holds e taken is own wrote =
    let f = failed_as X Y a command request held holds e own wrote in
    inl (is, f.0, f.1)

-- of a fault it is the same, whatever else might have come
pub given_so : (X Y : Type 0) (a : Replica) (position : Position) (e : WebFault)
    → GivesWritten {X = X} a position (Err e) → GivesWritten {X = Y} a position (Err e)
given_so X Y a position (fault.Own e) gives = tt
given_so X Y a position fault.Memory gives = tt
given_so X Y a position fault.Read gives = tt
given_so X Y a position fault.Write gives = gives
given_so X Y a position fault.BadReply gives = tt
given_so X Y a position (fault.Peer n) gives = tt
