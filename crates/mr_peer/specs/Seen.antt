-- What is kept of a reply, as the definitions see it.
use Rattle.std.specs.Prelude.{ℕ, ◌≤◌, List, drop, Option, Some, None, Result, Ok, Err}
use Rattle.std.specs.Borrow.{Bor}
use Rattle.mr_model.specs.Texts.{Text}
use Rattle.mr_base.specs.declared.refusals.Refusal.{Refusal}
use Rattle.mr_base.specs.declared.refusals.Refusal.TheVariants.{OutOfMemory}
use Rattle.mr_http.specs.declared.faults.WebFault.{WebFault}
use Rattle.mr_http.specs.declared.faults.WebFault.TheVariants.{Memory, BadReply, Own}
use Rattle.mr_service.specs.declared.replies.Reply as service
use Rattle.mr_service.specs.declared.replies.Reply.TheVariants.{Took, Refused}
use Rattle.mr_peer.specs.PeerReplies.{PeerReply, reply_cut}
use Rattle.mr_peer.specs.declared.replies.Replied.{Replied}

-- the reply that this is, with the body among these bytes
abbrev pub reply_cut_from : List ℕ → Replied → PeerReply
reply_cut_from bytes r = reply_cut r.status (drop r.start bytes) r.length

abbrev pub reply_seen : List ℕ → Option Replied → Option PeerReply
reply_seen bytes None = None
reply_seen bytes (Some r) = Some (reply_cut_from bytes r)

-- the body begins within so many bytes
abbrev pub IsInside : ℕ → Option Replied → Type 0
IsInside n None = Unit {0}
IsInside n (Some r) = r.start ≤ n

abbrev pub reply_body_seen : Result (Bor (List ℕ)) WebFault → Result Text WebFault
reply_body_seen (Ok body) = Ok body.now
reply_body_seen (Err e) = Err e

-- what is at fault with a body that is refused as a position
abbrev pub unread : Refusal → WebFault
unread OutOfMemory = Memory
unread _ = BadReply

-- how many writes and commits were taken, as this replica replies; no other replies come where a batch was handed to it
abbrev pub counts_seen : service.Reply → Result (ℕ × ℕ) WebFault
counts_seen (Took writes commits) = Ok (writes, commits)
counts_seen (Refused e) = Err (Own e)
counts_seen _ = Err Memory
