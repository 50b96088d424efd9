-- How the asking of a peer ends.
use Rattle.std.specs.Prelude.{◌≡◌, ◌≤◌, ◌⊎◌, ℕ, List, length, take, Option, Result, Ok, Err, IfOk, IsErrAnd, Vec}
use Rattle.std.specs.declared.alloc.Global.{Global}
use Rattle.std.specs.Io.KnownBytes.{Appends, Keeps}
use Rattle.mr_model.specs.Texts.{Text}
use Rattle.mr_model.specs.Replica.{Replica}
use Rattle.mr_model.specs.Exchange.{Batch, Ending, batch_text}
use Rattle.mr_model.specs.Http.{lines_over_http}
use Rattle.mr_model.specs.Positions.{Position, position_of, position_text}
use Rattle.mr_model.specs.Step.{Command, AskPosition, BatchFor, IsStep, batch_of, step}
use Rattle.mr_model.specs.Replies.{Reply, Refused, BatchIs}
use Rattle.mr_base.specs.Batches.{ending_seen}
use Rattle.mr_base.specs.RefusalViews.{refusal_of}
use Rattle.mr_base.specs.declared.batches.Ending.{Ending as BatchEnding}
use Rattle.mr_http.specs.declared.faults.WebFault.{WebFault}
use Rattle.mr_http.specs.declared.faults.WebFault.TheVariants as fault
use Rattle.mr_peer.specs.PeerRequests.{pull_request, push_request}
use Rattle.mr_peer.specs.PeerTaking.{IsOwnFault}

-- a fault of writing a request
abbrev pub IsSendFault : WebFault → Type 0
IsSendFault fault.Write = Unit {0}
IsSendFault fault.Memory = Unit {0}
IsSendFault _ = ⊥

-- a fault of asking: of writing a request, or of this replica
abbrev pub IsAskFault : WebFault → Type 0
IsAskFault fault.Write = Unit {0}
IsAskFault fault.Memory = Unit {0}
IsAskFault (fault.Own e) = Unit {0}
IsAskFault _ = ⊥

-- the request was written, or a front of it where a write failed, or nothing; between what a writer held and holds, where known
abbrev pub Wrote : {X : Type 0} → Text → Option (List ℕ) → Option (List ℕ) → Result X WebFault → Type 0
Wrote request held holds (Ok _) = Appends held holds request
Wrote request held holds (Err fault.Write) = (n : ℕ) × (n ≤ length request) × Appends held holds (take n request)
Wrote request held holds (Err _) = Keeps held holds

-- some position is sent with a pull, or a front of that request is; or this replica handed out none, and nothing is written
abbrev pub SendsPull : Text → Option (List ℕ) → Option (List ℕ) → Result (Unit {0}) WebFault → Type 0
SendsPull host held holds result =
    ((p : Position) × Wrote (pull_request host (position_text p)) held holds result) ⊎ (IsErrAnd result IsOwnFault × Keeps held holds)

-- the same of some batch, which ends so
abbrev pub SendsPush : Text → Option (List ℕ) → Option (List ℕ) → Result BatchEnding WebFault → Type 0
SendsPush host held holds result =
    ((b : Batch) × Wrote (push_request host (batch_text b)) held holds result × IfOk result (λ ending. ending_seen ending ≡ b.ending))
    ⊎ (IsErrAnd result IsOwnFault × Keeps held holds)

-- a fault of this replica is the refusal of its step
abbrev pub OwnRefuses : {X : Type 0} → Replica → Command → Result X WebFault → Type 0
OwnRefuses a command (Err (fault.Own e)) = IsStep a command (Refused (refusal_of e)) a
OwnRefuses a command _ = Unit {0}

-- a peer is asked for what this replica lacks, which stays as it was
abbrev pub AsksPull : Text → Option (List ℕ) → Option (List ℕ) → Replica → Result (Unit {0}) WebFault → Replica → Type 0
AsksPull host held holds a result b =
    (b ≡ a) × OwnRefuses a AskPosition result × Wrote (pull_request host (position_text (position_of a))) held holds result

-- the command for the batch that a peer at the position lacks
abbrev pub lacking : Position → Command
lacking position = BatchFor (position_text position) lines_over_http

-- the step of this replica replies its batch for the position, and doesn't refuse it
abbrev pub GivesBatch : Replica → Position → Type 0
GivesBatch a position = (step a (lacking position)).reply ≡ BatchIs (batch_of a position lines_over_http)

-- where anything was written, or may have been, the batch is one that the step gives
abbrev pub GivesWritten : {X : Type 0} → Replica → Position → Result X WebFault → Type 0
GivesWritten a position (Ok _) = GivesBatch a position
GivesWritten a position (Err fault.Write) = GivesBatch a position
GivesWritten a position (Err _) = Unit {0}

-- a peer at the position is handed what it lacks of this replica, which stays as it was
abbrev pub AsksPush : Position → Text → Option (List ℕ) → Option (List ℕ) → Replica → Result BatchEnding WebFault → Replica → Type 0
AsksPush position host held holds a result b =
    (b ≡ a) × OwnRefuses a (lacking position) result
    × Wrote (push_request host (batch_text (batch_of a position lines_over_http))) held holds result
    × IfOk result (λ ending. ending_seen ending ≡ (batch_of a position lines_over_http).ending)
    × GivesWritten a position result

-- ---- on the way

-- what is read off a reply of this replica: something of it, or that it refused, unless memory ran out
abbrev pub ReadsOff : {X : Type 0} → Reply → (X → Type 0) → Result X WebFault → Type 0
ReadsOff reply P (Ok x) = P x
ReadsOff reply P (Err (fault.Own e)) = reply ≡ Refused (refusal_of e)
ReadsOff reply P (Err fault.Memory) = Unit {0}
ReadsOff reply P (Err _) = ⊥

-- what this replica hands out for a command: something, or its refusal, unless memory ran out
abbrev pub HandsOut : {X : Type 0} → Replica → Command → (X → Type 0) → Result X WebFault → Type 0
HandsOut a command P (Ok x) = P x
HandsOut a command P (Err (fault.Own e)) = IsStep a command (Refused (refusal_of e)) a
HandsOut a command P (Err fault.Memory) = Unit {0}
HandsOut a command P (Err _) = ⊥

-- the text of the batch that is replied, and how it ends
abbrev pub IsBatchWith : Reply → Text → Ending → Type 0
IsBatchWith reply text ending = (b : Batch) × (reply ≡ BatchIs b) × (text ≡ batch_text b) × (ending ≡ b.ending)

-- the text of this replica's position
abbrev pub HandsPosition : Replica → Result (Vec ℕ Global) WebFault → Replica → Type 0
HandsPosition a result b = (b ≡ a) × HandsOut a AskPosition (λ text. text.items ≡ position_text (position_of a)) result

-- the text of this replica's batch for a position, and how it ends
abbrev pub HandsBatch : Position → Replica → Result (Vec ℕ Global × BatchEnding) WebFault → Replica → Type 0
HandsBatch position a result b =
    (b ≡ a)
    × HandsOut a (lacking position)
    (λ x. (x.0.items ≡ batch_text (batch_of a position lines_over_http)) × (ending_seen x.1 ≡ (batch_of a position lines_over_http).ending)
    × GivesBatch a position) result
