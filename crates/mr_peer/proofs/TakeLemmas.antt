-- What this replica makes of a reply.
use Rattle.std.proofs.Common.{◌≡◌, inl, inr, refl, sym, ap, subst, ℕ, List, Option, Some, None, Result, Ok, Err}
use Rattle.std.specs.Prelude.{◌==◌, not, IfOk, OnErr}
use Rattle.mr_model.specs.Texts.{Text, only_if}
use Rattle.mr_model.specs.Replica.{Replica}
use Rattle.mr_model.specs.Exchange.{Batch, Header, Item, read_batch}
use Rattle.mr_model.specs.Refusals as model
use Rattle.mr_model.specs.Taking.{Progress, take_items}
use Rattle.mr_model.specs.Replies.{Reply, Took, Refused}
use Rattle.mr_model.specs.Step.{Receive, After, IsStep, IsOfMachine, no_memory, no_store, receive_read, receive_under, step_unless, after_items}
use Rattle.mr_base.specs.declared.batches.Ending.{Ending}
use Rattle.mr_http.specs.Faults.{web_fault}
use Rattle.mr_http.specs.Inputs.{OfInput}
use Rattle.mr_http.specs.declared.faults.ReadFault.{ReadFault}
use Rattle.mr_http.specs.declared.faults.ReadFault.TheVariants as read
use Rattle.mr_http.specs.declared.faults.WebFault.{WebFault}
use Rattle.mr_http.specs.declared.faults.WebFault.TheVariants as fault
use Rattle.mr_http.proofs.Known.{of_input_map}
use Rattle.mr_service.specs.Asked.{reply_of}
use Rattle.mr_service.specs.declared.replies.Reply as service
use Rattle.mr_service.specs.declared.replies.Reply.TheVariants as code
use Rattle.mr_peer.specs.PeerReplies as peer
use Rattle.mr_peer.specs.Seen.{counts_seen}
use Rattle.mr_peer.specs.PeerTaking.{EndsAsBatch, CountsTaken, Receives, TakesBodyOrFault, TakesReply, TellsTaken, TellsPulled}

-- a batch is answered by counts, or refused, which changes nothing
abbrev IsCounted : Replica → Reply → Replica → Type 0
IsCounted a (Took w c) b = Unit {0}
IsCounted a (Refused e) b = b ≡ a
IsCounted a _ b = ⊥

items_counted : (a : Replica) (r : Result Progress model.Refusal) → IsCounted a (after_items a r).reply (after_items a r).replica
items_counted a (Ok p) = tt
items_counted a (Err e) = refl

unless_counted : (a : Replica) (o : Option model.Refusal) (x : After) → IsCounted a x.reply x.replica → IsCounted a (step_unless a o x).reply (step_unless a o x).replica
unless_counted a None x h = h
unless_counted a (Some e) x h = refl

under_counted : (a : Replica) (h : Option Header) (items : List Item) → IsCounted a (receive_under a h items).reply (receive_under a h items).replica
under_counted a None items = tt
under_counted a (Some h) items =
    let taken = take_items items 2 (Ok (record { replica = a; writes = 0; commits = 0 })) in
    unless_counted a (only_if (not (h.primary == a.primary)) model.WrongPrimary) (after_items a taken) (items_counted a taken)

read_counted : (a : Replica) (r : Result Batch model.Refusal) → IsCounted a (receive_read a r).reply (receive_read a r).replica
read_counted a (Ok b) = under_counted a b.header b.items
read_counted a (Err e) = refl

machine_counted : (a : Replica) (reply : Reply) (b : Replica) → IsOfMachine reply → b ≡ a → IsCounted a reply b
machine_counted a _ b no_memory e = e
machine_counted a _ b no_store e = e

counted : (a : Replica) (body : Text) (reply : Reply) (b : Replica) → IsStep a (Receive body) reply b → IsCounted a reply b
counted a body reply b (inl e) =
    subst (λ (x : After). IsCounted a x.reply x.replica) (sym e) (read_counted a (read_batch body))
counted a body reply b (inr m) = machine_counted a reply b m.0 m.1

-- what is read off the reply
pub counts : (a : Replica) (body : Text) (reply : service.Reply) (b : Replica) → IsStep a (Receive body) (reply_of reply) b → CountsTaken body a (counts_seen reply) b
counts a body (code.Took w c) b is = is
counts a body (code.Refused e) b is = (is, counted a body _ b is)
counts a body code.RoomAdded b is = absurd (counted a body _ b is)
counts a body (code.Outcome o) b is = absurd (counted a body _ b is)
counts a body (code.Committed n) b is = absurd (counted a body _ b is)
counts a body (code.Dropped n) b is = absurd (counted a body _ b is)
counts a body (code.Position p) b is = absurd (counted a body _ b is)
counts a body (code.Batch x) b is = absurd (counted a body _ b is)
counts a body (code.Sheet room day rows) b is = absurd (counted a body _ b is)
counts a body (code.Calendar room part rows) b is = absurd (counted a body _ b is)
counts a body (code.Errors room rows) b is = absurd (counted a body _ b is)

not_took : (reply : Reply) (w c : ℕ) → reply ≡ Took w c → IsOfMachine reply → ⊥
not_took reply w c is no_memory = let f : Refused _ ≡ Took w c = is in absurd (cc)
not_took reply w c is no_store = let f : Refused _ ≡ Took w c = is in absurd (cc)

-- where counts are read off the reply, the machine hasn't failed
pub counts_told : (reply : service.Reply) → IfOk (counts_seen reply) (λ _. IsOfMachine (reply_of reply) → ⊥)
counts_told (code.Took w c) = not_took (Took w c) w c refl
counts_told _ = tt

-- a batch that reads as none is refused by each replica
pub ends_receives : (body : Text) (a : Replica) (e : WebFault) → EndsAsBatch body (Err e) → Receives body a (Err e) a
ends_receives body a (fault.Own e) is = (inl (sym (ap (receive_read a) is)), refl)
ends_receives body a fault.Memory u = refl
ends_receives body a fault.Read u = absurd u
ends_receives body a fault.Write u = absurd u
ends_receives body a fault.BadReply u = absurd u
ends_receives body a (fault.Peer n) u = absurd u

pub counts_receives : (body : Text) (a : Replica) (e : WebFault) (b : Replica) → CountsTaken body a (Err e) b → Receives body a (Err e) b
counts_receives body a (fault.Own e) b h = h
counts_receives body a fault.Memory b h = h
counts_receives body a fault.Read b h = absurd h
counts_receives body a fault.Write b h = absurd h
counts_receives body a fault.BadReply b h = absurd h
counts_receives body a (fault.Peer n) b h = absurd h

-- with every fault the replica stays
receives_stays : (body : Text) (a : Replica) (e : WebFault) (b : Replica) → Receives body a (Err e) b → b ≡ a
receives_stays body a (fault.Own e) b h = h.1
receives_stays body a fault.Memory b h = h
receives_stays body a fault.Read b h = absurd h
receives_stays body a fault.Write b h = absurd h
receives_stays body a fault.BadReply b h = absurd h
receives_stays body a (fault.Peer n) b h = absurd h

takes_stays : (told : Result Text WebFault) (a : Replica) (e : WebFault) (b : Replica) → TakesBodyOrFault told a (Err e) b → b ≡ a
takes_stays (Ok body) a e b h = receives_stays body a e b h
takes_stays (Err f) a e b h = h.1

pub takes_left : (told : Result Text WebFault) (a : Replica) (result : Result (ℕ × ℕ × Ending) WebFault) (b : Replica) → TakesBodyOrFault told a result b → OnErr result (b ≡ a)
takes_left told a (Ok x) b h = tt
takes_left told a (Err e) b h = takes_stays told a e b h

-- what is taken of a reply is taken of the input that it is
pub takes_reply : (known : Option Text) (reply : Option peer.PeerReply) (a : Replica) (result : Result (ℕ × ℕ × Ending) WebFault) (b : Replica)
    → OfInput known (λ input. peer.IsReplied input reply) → TakesBodyOrFault (peer.front_body reply) a result b → TakesReply known a result b
takes_reply known reply a (Err fault.Read) b is h = takes_stays (peer.front_body reply) a fault.Read b h
takes_reply known reply a (Err fault.Memory) b is h = takes_stays (peer.front_body reply) a fault.Memory b h
takes_reply known reply a (Ok x) b is h = of_input_map known (λ input. peer.IsReplied input reply) _ (λ input r. (reply, r, h)) is
takes_reply known reply a (Err fault.Write) b is h = of_input_map known (λ input. peer.IsReplied input reply) _ (λ input r. (reply, r, h)) is
takes_reply known reply a (Err fault.BadReply) b is h = of_input_map known (λ input. peer.IsReplied input reply) _ (λ input r. (reply, r, h)) is
takes_reply known reply a (Err (fault.Peer n)) b is h = of_input_map known (λ input. peer.IsReplied input reply) _ (λ input r. (reply, r, h)) is
takes_reply known reply a (Err (fault.Own e)) b is h = of_input_map known (λ input. peer.IsReplied input reply) _ (λ input r. (reply, r, h)) is

-- nothing is claimed of the answer where a read failed or memory ran out
pub lost_reply : (known : Option Text) (a : Replica) (f : ReadFault) → TakesReply known a (Err (web_fault f)) a
lost_reply known a read.Read = refl
lost_reply known a read.Memory = refl

-- ---- whatever this replica makes of the body

-- what is told of a reply is told of the input that it is
pub tells_pulled : (known : Option Text) (reply : Option peer.PeerReply) (result : Result (ℕ × ℕ × Ending) WebFault)
    → OfInput known (λ input. peer.IsReplied input reply) → TellsTaken (peer.front_body reply) result → TellsPulled known result
tells_pulled known reply (Err fault.Read) is tells = tt
tells_pulled known reply (Err fault.Memory) is tells = tt
tells_pulled known reply (Ok x) is tells = of_input_map known (λ input. peer.IsReplied input reply) _ (λ input r. (reply, r, tells)) is
tells_pulled known reply (Err fault.Write) is tells = of_input_map known (λ input. peer.IsReplied input reply) _ (λ input r. (reply, r, tells)) is
tells_pulled known reply (Err fault.BadReply) is tells = of_input_map known (λ input. peer.IsReplied input reply) _ (λ input r. (reply, r, tells)) is
tells_pulled known reply (Err (fault.Peer n)) is tells = of_input_map known (λ input. peer.IsReplied input reply) _ (λ input r. (reply, r, tells)) is
tells_pulled known reply (Err (fault.Own e)) is tells = of_input_map known (λ input. peer.IsReplied input reply) _ (λ input r. (reply, r, tells)) is

pub lost_pulled : (known : Option Text) (f : ReadFault) → TellsPulled known (Err (web_fault f))
lost_pulled known read.Read = tt
lost_pulled known read.Memory = tt
