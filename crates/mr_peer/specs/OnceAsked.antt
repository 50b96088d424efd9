-- Which command a call of an exchange gave its replica, once.
use Rattle.std.specs.Prelude.{◌≡◌, ◌⊎◌, ℕ, List, Option, Result, Ok, Err, IsErr, IfOk, Vec}
use Rattle.std.specs.declared.alloc.Global.{Global}
use Rattle.std.specs.Io.KnownBytes.{Keeps}
use Rattle.mr_model.specs.Texts.{Text}
use Rattle.mr_model.specs.Exchange.{Batch, batch_text}
use Rattle.mr_model.specs.Positions.{Position, position_text}
use Rattle.mr_model.specs.Replies.{Reply, PositionIs, BatchIs, Took, Refused}
use Rattle.mr_model.specs.Step.{AskPosition, Receive}
use Rattle.mr_base.specs.Batches.{ending_seen}
use Rattle.mr_base.specs.RefusalViews.{refusal_of}
use Rattle.mr_base.specs.declared.batches.Ending.{Ending}
use Rattle.mr_store.specs.declared.keeper.Keeper.{Ghosts}
use Rattle.mr_http.specs.Inputs.{OfInput}
use Rattle.mr_http.specs.declared.faults.WebFault.{WebFault}
use Rattle.mr_http.specs.declared.faults.WebFault.TheVariants as fault
use Rattle.mr_service.specs.Served.{IsServed}
use Rattle.mr_service.specs.Worlds.{IsPositionText}
use Rattle.mr_peer.specs.PeerAsking.{IsBatchWith, ReadsOff, Wrote, lacking}
use Rattle.mr_peer.specs.PeerReplies.{PeerReply, IsReplied, front_body}
use Rattle.mr_peer.specs.PeerRequests.{pull_request, push_request}

-- The keeper was asked nothing, and there is a fault; or such a body was received, once, and its reply is told so.
abbrev pub ReceivesOnce : {K X : Type 0} → Ghosts K → K → K → (Text → Type 0) → (Reply → Result X WebFault → Type 0) → Result X WebFault → Type 0
ReceivesOnce keeper old new IsBody Tells result =
    (IsErr result × (new ≡ old))
    ⊎ ((body : Text) × (reply : Reply) × IsServed keeper old new (Receive body) reply × IsBody body × Tells reply result)

-- the counts, or this replica's refusal; no other replies come where a batch was handed to it
abbrev pub TellsCounts : Reply → Result (ℕ × ℕ) WebFault → Type 0
TellsCounts reply (Ok n) = reply ≡ Took n.0 n.1
TellsCounts reply (Err (fault.Own e)) = reply ≡ Refused (refusal_of e)
TellsCounts reply (Err _) = Unit {0}

abbrev pub TellsBatch : Reply → Result (ℕ × ℕ × Ending) WebFault → Type 0
TellsBatch reply (Ok took) = reply ≡ Took took.0 took.1
TellsBatch reply (Err (fault.Own e)) = reply ≡ Refused (refusal_of e)
TellsBatch reply (Err _) = Unit {0}

-- the body of the reply that the input is, which may end early
abbrev pub IsBodyOf : Option Text → Text → Type 0
IsBodyOf known body = OfInput known (λ input. (reply : Option PeerReply) × IsReplied input reply × (front_body reply ≡ Ok body))

-- The replica was asked for its position, once. Just that position was sent with a pull, or a prefix of that request was; or it handed out none,
-- and nothing was written.
abbrev pub SendsPosition : {K : Type 0} → Ghosts K → K → K → Text → Option (List ℕ) → Option (List ℕ) → Result (Unit {0}) WebFault → Type 0
SendsPosition keeper old new host held holds result =
    (reply : Reply) × IsServed keeper old new AskPosition reply
    × (((p : Position) × (reply ≡ PositionIs p) × Wrote (pull_request host (position_text p)) held holds result)
    ⊎ (ReadsOff reply (λ _. ⊥) result × Keeps held holds))

-- The replica was asked nothing, since memory ran out; or for its batch for the position, once. Just that batch was sent with a push, or a prefix of
-- that request was; or it gave none, and nothing was written.
abbrev pub SendsBatch : {K : Type 0} → Ghosts K → K → K → Position → Text → Option (List ℕ) → Option (List ℕ) → Result Ending WebFault → Type 0
SendsBatch keeper old new position host held holds result =
    ((result ≡ Err fault.Memory) × (new ≡ old) × Keeps held holds)
    ⊎ ((reply : Reply) × IsServed keeper old new (lacking position) reply
    × (((b : Batch) × (reply ≡ BatchIs b) × Wrote (push_request host (batch_text b)) held holds result × IfOk result (λ ending. ending_seen ending ≡ b.ending))
    ⊎ (ReadsOff reply (λ _. ⊥) result × Keeps held holds)))

-- ---- on the way

-- the position was asked for, once, and is read off the reply
abbrev pub HandsPositionOnce : {K : Type 0} → Ghosts K → K → K → Result (Vec ℕ Global) WebFault → Type 0
HandsPositionOnce keeper old new result =
    (reply : Reply) × IsServed keeper old new AskPosition reply × ReadsOff reply (λ text. IsPositionText reply text.items) result

-- the batch was asked for, once, and is read off the reply; or memory ran out before
abbrev pub HandsBatchOnce : {K : Type 0} → Ghosts K → K → K → Position → Result (Vec ℕ Global × Ending) WebFault → Type 0
HandsBatchOnce keeper old new position result =
    ((result ≡ Err fault.Memory) × (new ≡ old))
    ⊎ ((reply : Reply) × IsServed keeper old new (lacking position) reply × ReadsOff reply (λ x. IsBatchWith reply x.0.items (ending_seen x.1)) result)
