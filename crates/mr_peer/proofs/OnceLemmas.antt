-- What was asked once, handed on.
use Rattle.std.proofs.Common.{◌≡◌, inl, inr, refl, sym, ap, subst, ℕ, List, Vec, Global, Option, Result, Ok, Err}
use Rattle.std.proofs.KnownBytes.{Keeps-refl}
use Rattle.std.specs.Prelude.{IfOk, IsErr, IsErrAnd}
use Rattle.mr_model.specs.Texts.{Text}
use Rattle.mr_model.specs.Exchange.{Batch, batch_text}
use Rattle.mr_model.specs.Positions.{Position}
use Rattle.mr_model.specs.Replies.{Reply}
use Rattle.mr_model.proofs.FirstBadLine.{err_inj}
use Rattle.mr_base.specs.Batches.{ending_seen}
use Rattle.mr_base.specs.declared.batches.Ending.{Ending}
use Rattle.mr_store.specs.declared.keeper.Keeper.{Ghosts}
use Rattle.mr_http.specs.Inputs.{OfInput}
use Rattle.mr_http.specs.declared.faults.WebFault.{WebFault}
use Rattle.mr_http.specs.declared.faults.WebFault.TheVariants as fault
use Rattle.mr_service.specs.Asked.{reply_of}
use Rattle.mr_service.specs.declared.replies.Reply as service
use Rattle.mr_service.specs.declared.replies.Reply.TheVariants as code
use Rattle.mr_peer.specs.OnceAsked.{HandsBatchOnce, IsBodyOf, ReceivesOnce, SendsBatch, SendsPosition, TellsBatch, TellsCounts}
use Rattle.mr_peer.specs.PeerAsking.{IsBatchWith, ReadsOff, SendsPull, SendsPush, Wrote}
use Rattle.mr_peer.specs.PeerReplies.{PeerReply, IsReplied, front_body}
use Rattle.mr_peer.specs.PeerRequests.{push_request}
use Rattle.mr_peer.specs.PeerTaking.{IsOwnFault}
use Rattle.mr_peer.specs.Seen.{counts_seen}

-- what is read off the reply tells it
pub counts_once : (reply : service.Reply) → TellsCounts (reply_of reply) (counts_seen reply)
counts_once (code.Took w c) = refl
counts_once (code.Refused e) = refl
counts_once _ = tt

-- with another result, of another body
pub once_more : {K X Y : Type 0} (k : Ghosts K) (old new : K) (P Q : Text → Type 0) (S : Reply → Result X WebFault → Type 0) (T : Reply → Result Y WebFault → Type 0)
    (first : Result X WebFault) (result : Result Y WebFault) → ReceivesOnce k old new P S first
    → (IsErr first → IsErr result) → ((body : Text) → P body → Q body) → ((reply : Reply) → S reply first → T reply result) → ReceivesOnce k old new Q T result
once_more k old new P Q S T first result (inl (fails, same)) failed bodies tells = inl (failed fails, same)
once_more k old new P Q S T first result (inr (body, reply, served, is, told)) failed bodies tells = inr (body, reply, served, bodies body is, tells reply told)

-- a fault is told alike
pub fault_once : (e : WebFault) (reply : Reply) → TellsCounts reply (Err e) → TellsBatch reply (Err e)
fault_once (fault.Own e) reply is = is
fault_once fault.Read reply is = tt
fault_once fault.Write reply is = tt
fault_once fault.Memory reply is = tt
fault_once fault.BadReply reply is = tt
fault_once (fault.Peer n) reply is = tt

pub body_once : (known : Option Text) (reply : Option PeerReply) (body : Text) → OfInput known (λ input. IsReplied input reply) → front_body reply ≡ Ok body → IsBodyOf known body
body_once known reply body (input, is, replied) e = (input, is, (reply, replied, e))

-- ---- what was sent

-- nothing was read off the reply: that is this replica's own fault
none_read : {X : Type 0} (reply : Reply) (result : Result X WebFault) → ReadsOff reply (λ _. ⊥) result → IsErrAnd result IsOwnFault
none_read reply (Ok x) reads = absurd reads
none_read reply (Err (fault.Own e)) reads = tt
none_read reply (Err fault.Memory) reads = tt
none_read reply (Err fault.Read) reads = absurd reads
none_read reply (Err fault.Write) reads = absurd reads
none_read reply (Err fault.BadReply) reads = absurd reads
none_read reply (Err (fault.Peer n)) reads = absurd reads

-- a fault of reading is one of reading nothing
pub fault_read : (X Y : Type 0) (reply : Reply) (P : X → Type 0) (e : WebFault) → ReadsOff reply P (Err e) → ReadsOff {X = Y} reply (λ _. ⊥) (Err e)
fault_read X Y reply P (fault.Own e) reads = reads
fault_read X Y reply P fault.Memory reads = tt
fault_read X Y reply P fault.Read reads = reads
fault_read X Y reply P fault.Write reads = reads
fault_read X Y reply P fault.BadReply reads = reads
fault_read X Y reply P (fault.Peer n) reads = reads

pub position_sent : {K : Type 0} (k : Ghosts K) (old new : K) (host : Text) (held holds : Option (List ℕ)) (result : Result (Unit {0}) WebFault)
    → SendsPosition k old new host held holds result → SendsPull host held holds result
position_sent k old new host held holds result (reply, served, inl (p, is, wrote)) = inl (p, wrote)
position_sent k old new host held holds result (reply, served, inr (reads, keeps)) = inr (none_read reply result reads, keeps)

pub batch_sent : {K : Type 0} (k : Ghosts K) (old new : K) (position : Position) (host : Text) (held holds : Option (List ℕ)) (result : Result Ending WebFault)
    → SendsBatch k old new position host held holds result → SendsPush host held holds result
batch_sent k old new position host held holds result (inl (is, same, keeps)) = inr (subst (λ r. IsErrAnd r IsOwnFault) (sym is) tt, keeps)
batch_sent k old new position host held holds result (inr (reply, served, inl (b, is, wrote, ends))) = inl (b, wrote, ends)
batch_sent k old new position host held holds result (inr (reply, served, inr (reads, keeps))) = inr (none_read reply result reads, keeps)

-- nothing was written, since no batch was handed out
pub unsent_once : {K : Type 0} (k : Ghosts K) (old new : K) (position : Position) (host : Text) (held : Option (List ℕ)) (e : WebFault)
    → HandsBatchOnce k old new position (Err e) → SendsBatch k old new position host held held (Err e)
unsent_once k old new position host held e (inl (is, same)) = inl (memory e is, same, Keeps-refl held)
  where
    memory : (e : WebFault) → ◌≡◌ {A = Result (Vec ℕ Global × Ending) WebFault} (Err e) (Err fault.Memory) → ◌≡◌ {A = Result Ending WebFault} (Err e) (Err fault.Memory)
    memory e is = ap Err (err_inj e fault.Memory is)
unsent_once k old new position host held e (inr (reply, served, reads)) =
    inr (reply, served, inr (fault_read (Vec ℕ Global × Ending) Ending reply (λ x. IsBatchWith reply x.0.items (ending_seen x.1)) e reads, Keeps-refl held))

-- it was handed out, and written as told
pub sent_once : {K : Type 0} (k : Ghosts K) (old new : K) (position : Position) (host : Text) (held holds : Option (List ℕ)) (x : Vec ℕ Global × Ending) (result : Result Ending WebFault)
    → HandsBatchOnce k old new position (Ok x)
    → ((b : Batch) → x.0.items ≡ batch_text b → ending_seen x.1 ≡ b.ending → Wrote (push_request host (batch_text b)) held holds result × IfOk result (λ ending. ending_seen ending ≡ b.ending))
    → SendsBatch k old new position host held holds result
sent_once k old new position host held holds x result (inl (is, same)) sends = absurd (let f : ◌≡◌ {A = Result (Vec ℕ Global × Ending) WebFault} (Ok x) (Err fault.Memory) = is in cc)
sent_once k old new position host held holds x result (inr (reply, served, (b, is, text, ends))) sends =
    let (wrote, ended) = sends b text ends in
    inr (reply, served, inl (b, is, wrote, ended))
