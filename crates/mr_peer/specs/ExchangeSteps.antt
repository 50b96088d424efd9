-- What an exchange does to the replica, whatever is known of the reply.
use Rattle.std.specs.Prelude.{◌≡◌, ◌≢◌, ◌⊎◌, ℕ, Option, Result, Ok, Err, OnErr}
use Rattle.mr_model.specs.Texts.{Text}
use Rattle.mr_model.specs.Replica.{Replica}
use Rattle.mr_model.specs.Serving.{Reaches}
use Rattle.mr_model.specs.Step.{AskPosition, Receive}
use Rattle.mr_model.specs.Tables.{Tables}
use Rattle.mr_base.specs.declared.batches.Ending.{Ending}
use Rattle.mr_store.specs.declared.keeper.Keeper.{Ghosts}
use Rattle.mr_http.specs.declared.faults.WebFault.{WebFault}
use Rattle.mr_http.specs.declared.faults.WebFault.TheVariants as fault
use Rattle.mr_peer.specs.PeerTaking.{Receives, TakesReply}

-- some body is received so, or this replica refuses some body; with any other fault it stays as it was
abbrev pub ReceivesSome : Replica → Result (ℕ × ℕ × Ending) WebFault → Replica → Type 0
ReceivesSome a (Ok took) b = (body : Text) × Receives body a (Ok took) b
ReceivesSome a (Err (fault.Own e)) b = (body : Text) × Receives body a (Err (fault.Own e)) b
ReceivesSome a (Err _) b = b ≡ a

-- a reply is taken, of which this much is known
abbrev pub TakesPulled : Option Text → Replica → Result (ℕ × ℕ × Ending) WebFault → Replica → Type 0
TakesPulled known a result b = OnErr result (b ≡ a) × TakesReply known a result b × ReceivesSome a result b

-- with this fault the tables are as they were, whatever they stand for, unless memory ran out
abbrev pub KeepsTables : {K : Type 0} → Ghosts K → K → K → WebFault → Type 0
KeepsTables keeper old new f = f ≢ fault.Memory → keeper.is_clean new → keeper.is_open new → keeper.tables new ≡ keeper.tables old

-- ---- after a crash

-- what some body makes of the tables
abbrev pub TakesBody : Tables → Tables → Type 0
TakesBody before t = (body : Text) × Reaches before (Receive body) t

-- the same, or tables that stand for the replica as it was
abbrev pub ReachesByPull : Tables → Tables → Type 0
ReachesByPull before t = Reaches before AskPosition t ⊎ TakesBody before t
