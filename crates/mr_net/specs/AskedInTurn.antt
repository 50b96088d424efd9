-- Which commands the replicas of an exchange and of a bridge were asked, one after the other.
use Rattle.std.specs.Prelude.{◌≡◌, ◌⊎◌, ℕ, List, [], ◌∷◌, Option}
use Rattle.std.specs.List.{AllByRecursion}
use Rattle.mr_model.specs.Texts.{Text}
use Rattle.mr_model.specs.Http.{lines_over_http}
use Rattle.mr_model.specs.Replies.{Reply}
use Rattle.mr_model.specs.Step.{Command, AskPosition, BatchFor, IsOfMachine, Receive}
use Rattle.mr_store.specs.declared.keeper.Keeper.{Ghosts}
use Rattle.mr_service.specs.Served.{IsServed}
use Rattle.mr_net.specs.Bridged.{TellsBridge}
use Rattle.mr_net.specs.Connections.{AreConnections}
use Rattle.mr_net.specs.ExchangeRounds.{RunsRound}
use Rattle.mr_net.specs.Printed.{TellsBoth}

-- the replica was asked these, each with its reply; with 24 or 25 it was asked nothing more
abbrev pub InTurn : {K : Type 0} → Ghosts K → K → List (Command × Reply) → K → Type 0
InTurn keeper old [] new = new ≡ old
InTurn {K} keeper old (c ∷ cs) new =
    (m : K) × IsServed keeper old m c.0 c.1 × ((IsOfMachine c.1 → ⊥) ⊎ (cs ≡ [])) × InTurn keeper m cs new

-- an exchange asks for the position, for batches of 64 lines, and hands over what it received
abbrev pub IsOfExchange : Command → Type 0
IsOfExchange AskPosition = Unit {0}
IsOfExchange (BatchFor position max_lines) = max_lines ≡ lines_over_http
IsOfExchange (Receive bytes) = Unit {0}
IsOfExchange _ = ⊥

abbrev pub AreOfExchange : List (Command × Reply) → Type 0
AreOfExchange calls = AllByRecursion (λ c. IsOfExchange c.0) calls

-- an exchange asked the replica here such commands, in turn
abbrev pub ExchangesAsk : {K : Type 0} → Ghosts K → Type 0
ExchangesAsk {K} keeper =
    (old new : K) (held holds : Option Text) (status : ℕ) → TellsBoth (RunsRound keeper) old new held holds status
    → (calls : List (Command × Reply)) × AreOfExchange calls × InTurn keeper old calls new

-- a bridge asked its client's replica such commands, and its server's what some connections asked
abbrev pub BridgesAsk : {C S : Type 0} → Ghosts C → Ghosts S → Type 0
BridgesAsk {C} {S} client server =
    (old new : C × S) (held holds : Option Text) (status : ℕ) → TellsBridge client server old new held holds status
    → ((calls : List (Command × Reply)) × AreOfExchange calls × InTurn client old.0 calls new.0)
    × ((served : List (Option ℕ)) × AreConnections server old.1 served new.1)
