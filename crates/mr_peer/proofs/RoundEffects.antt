-- What an exchange does to the tables, whatever is known of the reply.
use Rattle.std.proofs.Common.{◌≡◌, inr, refl, sym, subst, ℕ, List, Option, Result, Ok, Err}
use Rattle.std.specs.Io.KnownBytes.{Appends}
use Rattle.std.specs.Prelude.{IfErr}
use Rattle.mr_model.specs.Texts.{Text}
use Rattle.mr_model.specs.Positions.{position_of, position_text}
use Rattle.mr_model.specs.Replica.{Replica}
use Rattle.mr_model.specs.Serving.{Reaches}
use Rattle.mr_model.specs.Step.{Receive}
use Rattle.mr_model.specs.Tables.{Tables, Stands}
use Rattle.mr_base.specs.declared.batches.Ending.{Ending}
use Rattle.mr_http.specs.Faults.{web_fault}
use Rattle.mr_http.specs.declared.faults.ReadFault.{ReadFault}
use Rattle.mr_http.specs.declared.faults.ReadFault.TheVariants as read
use Rattle.mr_http.specs.declared.faults.WebFault.{WebFault}
use Rattle.mr_http.specs.declared.faults.WebFault.TheVariants as fault
use Rattle.mr_peer.specs.PeerRequests.{pull_request}
use Rattle.mr_peer.specs.Rounds.{Pulls}
use Rattle.mr_peer.specs.ExchangeSteps.{ReceivesSome, TakesPulled}
use Rattle.mr_peer.specs.PeerTaking.{Receives, TakesBodyOrFault, IsReplyFault}

receives_some : (body : Text) (a : Replica) (result : Result (ℕ × ℕ × Ending) WebFault) (b : Replica) → Receives body a result b → ReceivesSome a result b
receives_some body a (Ok took) b h = (body, h)
receives_some body a (Err (fault.Own e)) b h = (body, h)
receives_some body a (Err fault.Memory) b h = h
receives_some body a (Err fault.Read) b h = absurd h
receives_some body a (Err fault.Write) b h = absurd h
receives_some body a (Err fault.BadReply) b h = absurd h
receives_some body a (Err (fault.Peer n)) b h = absurd h

fault_stays : (a : Replica) (e : WebFault) (b : Replica) → IsReplyFault e → b ≡ a → ReceivesSome a (Err e) b
fault_stays a fault.Read b is same = same
fault_stays a fault.Memory b is same = same
fault_stays a fault.BadReply b is same = same
fault_stays a (fault.Peer n) b is same = same
fault_stays a fault.Write b is same = absurd is
fault_stays a (fault.Own e) b is same = absurd is

-- what is taken of a reply is some body
pub takes_some : (told : Result Text WebFault) (a : Replica) (result : Result (ℕ × ℕ × Ending) WebFault) (b : Replica)
    → IfErr told IsReplyFault → TakesBodyOrFault told a result b → ReceivesSome a result b
takes_some (Ok body) a result b is takes = receives_some body a result b takes
takes_some (Err e) a result b is takes =
    subst (λ (r : Result (ℕ × ℕ × Ending) WebFault). ReceivesSome a r b) (sym takes.0) (fault_stays a e b is takes.1)

-- where no reply was read the replica stays
pub unread_stays : (a : Replica) (f : ReadFault) → ReceivesSome a (Err (web_fault f)) a
unread_stays a read.Read = refl
unread_stays a read.Memory = refl

-- ---- behind an ask

-- an ask leaves the tables to stand for the same replicas, so that a body does to them what it does to those before
pub body_behind : (before between t : Tables) (body : Text) → ((a : Replica) → Stands before a → Stands between a)
    → Reaches between (Receive body) t → Reaches before (Receive body) t
body_behind before between t body stays reaches a stands = reaches a (stays a stands)

-- the request was written, and the reply is taken of the replica as it was
pub pulls_behind : (host : Text) (held holds : Option (List ℕ)) (known : Option Text) (a b c : Replica) (result : Result (ℕ × ℕ × Ending) WebFault)
    → b ≡ a → Appends held holds (pull_request host (position_text (position_of a))) → TakesPulled known b result c → Pulls host held holds known a result c
pulls_behind host held holds known a b c result same wrote taken =
    let t = subst (λ (r : Replica). TakesPulled known r result c) same taken in
    (t.0, inr (wrote, t.1), inr t.2)
