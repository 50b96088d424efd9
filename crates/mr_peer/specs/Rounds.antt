-- An ask and its take over one connection.
use Rattle.std.specs.Prelude.{◌≡◌, ◌⊎◌, ℕ, List, Option, Result, Ok, Err, IsErr, IsErrAnd, OnErr}
use Rattle.std.specs.Io.KnownBytes.{Appends}
use Rattle.mr_model.specs.Texts.{Text}
use Rattle.mr_model.specs.Replica.{Replica}
use Rattle.mr_model.specs.Exchange as exchange
use Rattle.mr_model.specs.Http.{lines_over_http}
use Rattle.mr_model.specs.Positions.{Position, position_of, position_text}
use Rattle.mr_model.specs.Step.{Command, AskPosition, batch_of}
use Rattle.mr_base.specs.Batches.{ending_seen}
use Rattle.mr_base.specs.declared.batches.Ending.{Ending}
use Rattle.mr_http.specs.declared.faults.WebFault.{WebFault}
use Rattle.mr_peer.specs.PeerAsking.{GivesBatch, GivesWritten, IsAskFault, Wrote, OwnRefuses, SendsPull, SendsPush, lacking}
use Rattle.mr_peer.specs.PeerReplies.{told_took}
use Rattle.mr_peer.specs.PeerRequests.{pull_request, push_request}
use Rattle.mr_peer.specs.ExchangeSteps.{ReceivesSome}
use Rattle.mr_peer.specs.PeerTaking.{TellsAsRead, TakesReply, TellsPulled}

-- the ask failed, and the reply wasn't read; or the request was written, and the reply was taken so
abbrev pub RunsRequest : {X : Type 0} → Replica → Command → Text → Option (List ℕ) → Option (List ℕ) → Result X WebFault → Type 0 → Type 0
RunsRequest a command request held holds result taken =
    (IsErrAnd result IsAskFault × OwnRefuses a command result × Wrote request held holds result) ⊎ (Appends held holds request × taken)

-- the counts with an ending, or the fault
abbrev pub Joins : Result (ℕ × ℕ) WebFault → exchange.Ending → Result (ℕ × ℕ × Ending) WebFault → Type 0
Joins (Ok n) ending (Ok x) = (x.0 ≡ n.0) × (x.1 ≡ n.1) × (ending_seen x.2 ≡ ending)
Joins (Ok n) ending (Err e) = ⊥
Joins (Err f) ending (Ok x) = ⊥
Joins (Err f) ending (Err e) = e ≡ f

-- the counts that are told of the reply, with the ending of the batch that was handed over
abbrev pub TellsTook : Option Text → exchange.Ending → Result (ℕ × ℕ × Ending) WebFault → Type 0
TellsTook known ending result = (counts : Result (ℕ × ℕ) WebFault) × TellsAsRead told_took known counts × Joins counts ending result

-- a peer is asked for what this replica lacks, and its reply is taken; the ask may have failed, which changes nothing
abbrev pub Pulls : Text → Option (List ℕ) → Option (List ℕ) → Option Text → Replica → Result (ℕ × ℕ × Ending) WebFault → Replica → Type 0
Pulls host held holds known a result b =
    OnErr result (b ≡ a)
    × RunsRequest a AskPosition (pull_request host (position_text (position_of a))) held holds result (TakesReply known a result b)
    × ((IsErr result × OwnRefuses a AskPosition result × (b ≡ a)) ⊎ ReceivesSome a result b)

-- a peer at the position is handed what it lacks of this replica, which stays as it was, and its reply is taken
abbrev pub Pushes : Position → Text → Option (List ℕ) → Option (List ℕ) → Option Text → Replica → Result (ℕ × ℕ × Ending) WebFault → Replica → Type 0
Pushes position host held holds known a result b =
    (b ≡ a)
    × RunsRequest a (lacking position) (push_request host (exchange.batch_text (batch_of a position lines_over_http))) held holds result
    (TellsTook known (batch_of a position lines_over_http).ending result × GivesBatch a position)
    × GivesWritten a position result

-- ---- whatever this replica is

-- the fault of the ask, or what the take makes of what the ask answered
abbrev pub Then : {X Y : Type 0} → Result X WebFault → (X → Result Y WebFault → Type 0) → Result Y WebFault → Type 0
Then (Ok x) Takes result = Takes x result
Then (Err e) Takes result = result ≡ Err e

-- a pull is sent, and the reply to it is told
abbrev pub PullsSome : Text → Option (List ℕ) → Option (List ℕ) → Option Text → Result (ℕ × ℕ × Ending) WebFault → Type 0
PullsSome host held holds known result =
    (asked : Result (Unit {0}) WebFault) × SendsPull host held holds asked × Then asked (λ _. TellsPulled known) result

-- a push is sent, and the reply to it is told, with the ending of what was handed over
abbrev pub PushesSome : Text → Option (List ℕ) → Option (List ℕ) → Option Text → Result (ℕ × ℕ × Ending) WebFault → Type 0
PushesSome host held holds known result =
    (asked : Result Ending WebFault) × SendsPush host held holds asked × Then asked (λ ending. TellsTook known (ending_seen ending)) result
