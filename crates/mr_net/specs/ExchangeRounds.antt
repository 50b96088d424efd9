-- What the rounds of an exchange ask of the replicas.
use Rattle.std.specs.Prelude.{◌≡◌, ◌⊎◌, ℕ, ◌≤◌, List, length, Option, Result, Ok, Err, IsErr, IfOk}
use Rattle.std.specs.Io.KnownBytes.{Appends}
use Rattle.mr_model.specs.Texts.{Text}
use Rattle.mr_model.specs.Exchange.{Batch, batch_text}
use Rattle.mr_model.specs.Positions.{Position, position_text}
use Rattle.mr_model.specs.Replies.{Reply, PositionIs, BatchIs}
use Rattle.mr_model.specs.Serving.{Reaches}
use Rattle.mr_model.specs.Step.{AskPosition}
use Rattle.mr_base.specs.declared.batches.Ending.{Ending}
use Rattle.mr_store.specs.declared.keeper.Keeper.{Ghosts}
use Rattle.mr_http.specs.declared.faults.WebFault.{WebFault}
use Rattle.mr_service.specs.Served.{IsServed}
use Rattle.mr_peer.specs.PeerAsking.{AsksPull, AsksPush, lacking}
use Rattle.mr_peer.specs.PeerRequests.{pull_request, push_request}
use Rattle.mr_peer.specs.Exchanged.{IsExchanged}
use Rattle.mr_peer.specs.OnceAsked.{IsBodyOf, ReceivesOnce, SendsBatch, SendsPosition, TellsBatch}
use Rattle.mr_peer.specs.Rounds.{Pulls, Pushes}
use Rattle.mr_peer.specs.ExchangeSteps.{ReachesByPull, TakesBody, TakesPulled}
use Rattle.mr_net.specs.declared.ways.Way.{Way}
use Rattle.mr_net.specs.declared.ways.Way.TheVariants.{Pull, Push}
use Rattle.mr_net.specs.declared.ways.Round.{Round}
use Rattle.mr_net.specs.Connections.{AreConnections}

-- the round comes to what a call answered
abbrev pub ComesTo : Result (ℕ × ℕ × Ending) WebFault → Result Round WebFault → Type 0
ComesTo (Ok parts) result = result ≡ Ok (record { writes = parts.0; commits = parts.1; ending = parts.2 })
ComesTo (Err fault) result = result ≡ Err fault

-- the counts that a peer told make a round whose batch ended so
abbrev pub Brings : Result (ℕ × ℕ) WebFault → Ending → Result Round WebFault → Type 0
Brings (Ok counts) ending result = result ≡ Ok (record { writes = counts.0; commits = counts.1; ending = ending })
Brings (Err fault) ending result = result ≡ Err fault

-- the round fails, and nothing was asked of the replica
abbrev pub FailsUnasked : {K : Type 0} → K → Result Round WebFault → K → Type 0
FailsUnasked old result new = IsErr result × (new ≡ old)

-- ---- with a peer elsewhere

-- The replica was asked for its position, once. Then there is a fault, and it was asked nothing more; or just that position was sent with a pull, and the body
-- of the reply was received, once.
abbrev pub PullsOnce : {K : Type 0} → Ghosts K → K → K → Text → Option Text → Option Text → Option Text → Result (ℕ × ℕ × Ending) WebFault → Type 0
PullsOnce {K} keeper old new host held holds known called =
    (m : K) × (said : Reply) × IsServed keeper old m AskPosition said
    × ((IsErr called × (new ≡ m))
    ⊎ ((p : Position) × (said ≡ PositionIs p) × Appends held holds (pull_request host (position_text p))
    × ReceivesOnce keeper m new (IsBodyOf known) TellsBatch called))

-- The replica was asked nothing, and there is a fault; or for its batch for the position, once, and there is a fault, or just that batch was sent with a push.
abbrev pub PushesOnce : {K : Type 0} → Ghosts K → K → K → Position → Text → Option Text → Option Text → Result (ℕ × ℕ × Ending) WebFault → Type 0
PushesOnce keeper old new position host held holds called =
    (IsErr called × (new ≡ old))
    ⊎ ((said : Reply) × IsServed keeper old new (lacking position) said
    × (IsErr called ⊎ ((b : Batch) × (said ≡ BatchIs b) × Appends held holds (push_request host (batch_text b)))))

-- one pull of the replica here, or one push of it
abbrev pub RunsRound : {K : Type 0} → Ghosts K → Way → K → Result Round WebFault → K → Type 0
RunsRound keeper Pull old result new =
    FailsUnasked old result new
    ⊎ ((host : Text) × (held holds known : Option Text) × (called : Result (ℕ × ℕ × Ending) WebFault)
    × IsExchanged keeper old new called (Pulls host held holds known) (ReachesByPull (keeper.tables old)) × ComesTo called result
    × PullsOnce keeper old new host held holds known called)
RunsRound keeper Push old result new =
    FailsUnasked old result new
    ⊎ ((position : Position) × (host : Text) × (held holds known : Option Text) × (called : Result (ℕ × ℕ × Ending) WebFault)
    × IsExchanged keeper old new called (Pushes position host held holds known) (Reaches (keeper.tables old) (lacking position)) × ComesTo called result
    × PushesOnce keeper old new position host held holds called)

-- ---- with another database of this machine

-- the client's replica is asked for its position, and takes one reply at most; or it hands out one batch
abbrev pub IsClient : {K : Type 0} → Ghosts K → Way → K → Result Round WebFault → K → Type 0
IsClient {K} keeper Pull old result new =
    FailsUnasked old result new
    ⊎ ((m : K) × (host : Text) × (held holds : Option Text) × (asked : Result (Unit {0}) WebFault)
    × IsExchanged keeper old m asked (AsksPull host held holds) (Reaches (keeper.tables old) AskPosition) × SendsPosition keeper old m host held holds asked
    × (FailsUnasked m result new
    ⊎ ((asked ≡ Ok tt) × (known : Option Text) × (called : Result (ℕ × ℕ × Ending) WebFault)
    × IsExchanged keeper m new called (TakesPulled known) (TakesBody (keeper.tables m)) × ComesTo called result
    × ReceivesOnce keeper m new (IsBodyOf known) TellsBatch called)))
IsClient keeper Push old result new =
    FailsUnasked old result new
    ⊎ ((position : Position) × (host : Text) × (held holds : Option Text) × (asked : Result Ending WebFault)
    × IsExchanged keeper old new asked (AsksPush position host held holds) (Reaches (keeper.tables old) (lacking position))
    × IfOk result (λ round. asked ≡ Ok round.ending) × SendsBatch keeper old new position host held holds asked)

-- how many connections a round of a way has
abbrev pub connections_of : Way → ℕ
connections_of Pull = 1
connections_of Push = 2

-- the server's replica is asked over so many connections at most
abbrev pub IsServer : {K : Type 0} → Ghosts K → Way → K → K → Type 0
IsServer keeper way old new = (served : List (Option ℕ)) × (length served ≤ connections_of way) × AreConnections keeper old served new

-- one round of a bridge
abbrev pub RunsBridged : {C S : Type 0} → Ghosts C → Ghosts S → Way → C × S → Result Round WebFault → C × S → Type 0
RunsBridged client server way old result new = IsClient client way old.0 result new.0 × IsServer server way old.1 new.1
