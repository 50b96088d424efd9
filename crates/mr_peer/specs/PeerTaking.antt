-- How the taking of a peer's reply ends.
use Rattle.std.specs.Prelude.{◌≡◌, ℕ, Option, Result, Ok, Err}
use Rattle.mr_model.specs.Texts.{Text}
use Rattle.mr_model.specs.Refusals.{Refusal}
use Rattle.mr_model.specs.Replica.{Replica}
use Rattle.mr_model.specs.Exchange as exchange
use Rattle.mr_model.specs.Step.{Receive, IsStep}
use Rattle.mr_model.specs.Replies.{Took, Refused}
use Rattle.mr_base.specs.RefusalViews.{refusal_of}
use Rattle.mr_base.specs.Batches.{ending_seen}
use Rattle.mr_base.specs.declared.batches.Ending.{Ending}
use Rattle.mr_http.specs.Inputs.{OfInput}
use Rattle.mr_http.specs.declared.faults.WebFault.{WebFault}
use Rattle.mr_http.specs.declared.faults.WebFault.TheVariants as fault
use Rattle.mr_peer.specs.PeerReplies.{PeerReply, IsReplied, front_body}

-- the answer is this one, unless memory ran out
abbrev pub Says : {X : Type 0} → Result X WebFault → Result X WebFault → Type 0
Says told (Err fault.Memory) = Unit {0}
Says told result = result ≡ told

-- the answer is what is told of the reply that the input is, unless a read failed or memory ran out
abbrev pub TellsAsRead : {X : Type 0} → (Option PeerReply → Result X WebFault) → Option Text → Result X WebFault → Type 0
TellsAsRead told known (Err fault.Read) = Unit {0}
TellsAsRead told known (Err fault.Memory) = Unit {0}
TellsAsRead told known result = OfInput known (λ input. (reply : Option PeerReply) × IsReplied input reply × (result ≡ told reply))

-- a fault of taking a reply: of reading it, or of what it is
abbrev pub IsReplyFault : WebFault → Type 0
IsReplyFault fault.Read = Unit {0}
IsReplyFault fault.Memory = Unit {0}
IsReplyFault fault.BadReply = Unit {0}
IsReplyFault (fault.Peer status) = Unit {0}
IsReplyFault _ = ⊥

-- ---- a batch

-- a fault of this replica: it refused, or memory ran out
abbrev pub IsOwnFault : WebFault → Type 0
IsOwnFault fault.Memory = Unit {0}
IsOwnFault (fault.Own e) = Unit {0}
IsOwnFault _ = ⊥

-- a fault of taking a batch: of the reply, or of this replica
abbrev pub IsTakeFault : WebFault → Type 0
IsTakeFault fault.Read = Unit {0}
IsTakeFault fault.Memory = Unit {0}
IsTakeFault fault.BadReply = Unit {0}
IsTakeFault (fault.Peer status) = Unit {0}
IsTakeFault (fault.Own e) = Unit {0}
IsTakeFault _ = ⊥

-- the ending that bytes are read with; those that are refused have none
abbrev pub ending_read : Result exchange.Batch Refusal → exchange.Ending
ending_read (Ok b) = b.ending
ending_read (Err e) = exchange.Cut

abbrev pub ending_in : Text → exchange.Ending
ending_in bytes = ending_read (exchange.read_batch bytes)

-- the ending of the batch that the bytes read as, or the refusal of what they read as, unless memory ran out
abbrev pub EndsAsBatch : Text → Result Ending WebFault → Type 0
EndsAsBatch bytes (Ok ending) = ending_seen ending ≡ ending_in bytes
EndsAsBatch bytes (Err (fault.Own e)) = exchange.read_batch bytes ≡ Err (refusal_of e)
EndsAsBatch bytes (Err fault.Memory) = Unit {0}
EndsAsBatch bytes (Err _) = ⊥

-- this replica takes so many writes and commits from the body, or refuses it, or memory ran out before it was asked
abbrev pub CountsTaken : Text → Replica → Result (ℕ × ℕ) WebFault → Replica → Type 0
CountsTaken body a (Ok n) b = IsStep a (Receive body) (Took n.0 n.1) b
CountsTaken body a (Err (fault.Own e)) b = IsStep a (Receive body) (Refused (refusal_of e)) b × (b ≡ a)
CountsTaken body a (Err fault.Memory) b = b ≡ a
CountsTaken body a (Err _) b = ⊥

-- the same, with the ending of the batch
abbrev pub Receives : Text → Replica → Result (ℕ × ℕ × Ending) WebFault → Replica → Type 0
Receives body a (Ok took) b = IsStep a (Receive body) (Took took.0 took.1) b × (ending_seen took.2 ≡ ending_in body)
Receives body a (Err (fault.Own e)) b = IsStep a (Receive body) (Refused (refusal_of e)) b × (b ≡ a)
Receives body a (Err fault.Memory) b = b ≡ a
Receives body a (Err _) b = ⊥

-- what is at fault with the reply is told, and else its body is taken
abbrev pub TakesBodyOrFault : Result Text WebFault → Replica → Result (ℕ × ℕ × Ending) WebFault → Replica → Type 0
TakesBodyOrFault (Err f) a result b = (result ≡ Err f) × (b ≡ a)
TakesBodyOrFault (Ok body) a result b = Receives body a result b

-- the same of the reply that the input is, unless a read failed or memory ran out
abbrev pub TakesReply : Option Text → Replica → Result (ℕ × ℕ × Ending) WebFault → Replica → Type 0
TakesReply known a (Err fault.Read) b = b ≡ a
TakesReply known a (Err fault.Memory) b = b ≡ a
TakesReply known a result b =
    OfInput known (λ input. (reply : Option PeerReply) × IsReplied input reply × TakesBodyOrFault (front_body reply) a result b)

-- ---- the same, whatever this replica makes of the body

-- what is at fault with the reply is told; and else how the batch in its body ends, or a fault of this replica
abbrev pub TellsTaken : Result Text WebFault → Result (ℕ × ℕ × Ending) WebFault → Type 0
TellsTaken (Err f) result = result ≡ Err f
TellsTaken (Ok body) (Ok took) = ending_seen took.2 ≡ ending_in body
TellsTaken (Ok body) (Err e) = IsOwnFault e

-- the same of the reply that the input is, unless a read failed or memory ran out
abbrev pub TellsPulled : Option Text → Result (ℕ × ℕ × Ending) WebFault → Type 0
TellsPulled known (Err fault.Read) = Unit {0}
TellsPulled known (Err fault.Memory) = Unit {0}
TellsPulled known result = OfInput known (λ input. (reply : Option PeerReply) × IsReplied input reply × TellsTaken (front_body reply) result)
