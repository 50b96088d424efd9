-- What the commands that have sockets ask of a database, as calls of it.
use Rattle.std.specs.Prelude.{◌≡◌, ◌⊎◌, ℕ, List, [], ◌∷◌, Option}
use Rattle.mr_model.specs.Texts.{Text}
use Rattle.mr_model.specs.Replies.{Reply}
use Rattle.mr_model.specs.Step.{Command, IsOfMachine}
use Rattle.mr_store.specs.declared.keeper.Keeper.{Ghosts}
use Rattle.mr_branches.specs.Sights.{sight_of}
use Rattle.mr_net.specs.AskedInTurn.{AreOfExchange}
use Rattle.mr_net.specs.Bridged.{TellsBridge}
use Rattle.mr_net.specs.Connections.{ServesAt}
use Rattle.mr_net.specs.ExchangeRounds.{RunsRound}
use Rattle.mr_net.specs.Printed.{TellsBoth}
use Rattle.mr_calls.specs.Calls.{AreCalls}

-- none but the last of them has 24 or 25 for a reply
abbrev pub StopsAtFailure : List (Command × Reply) → Type 0
StopsAtFailure [] = Unit {0}
StopsAtFailure (c ∷ cs) = ((IsOfMachine c.1 → ⊥) ⊎ (cs ≡ [])) × StopsAtFailure cs

-- the database was asked commands of an exchange, in turn, which stops behind 24 and 25
abbrev pub AsksInTurn : {K : Type 0} → Ghosts K → K → K → Type 0
AsksInTurn keeper old new =
    (calls : List (Command × Reply)) × AreOfExchange calls × StopsAtFailure calls × AreCalls (sight_of keeper) old calls new

-- The database was asked what its connections asked, in turn, to the end: also behind 24 and 25, which over HTTP are a 503.
abbrev pub ServesInTurn : {K : Type 0} → Ghosts K → K → K → Type 0
ServesInTurn keeper old new = (calls : List (Command × Reply)) × AreCalls (sight_of keeper) old calls new

abbrev pub ExchangesAreCalls : {K : Type 0} → Ghosts K → Type 0
ExchangesAreCalls {K} keeper =
    (old new : K) (held holds : Option Text) (status : ℕ)
    → TellsBoth (RunsRound keeper) old new held holds status → keeper.is_clean new → AsksInTurn keeper old new

abbrev pub ServingsAreCalls : {K : Type 0} → Ghosts K → Type 0
ServingsAreCalls {K} keeper =
    (old new : K) (port count : ℕ) (held holds : Option Text) (status : ℕ)
    → ServesAt keeper old new port count held holds status → keeper.is_clean new → ServesInTurn keeper old new

-- a bridge, at its client and at its server
abbrev pub ClientsAreCalls : {C S : Type 0} → Ghosts C → Ghosts S → Type 0
ClientsAreCalls {C} {S} client server =
    (old new : C × S) (held holds : Option Text) (status : ℕ)
    → TellsBridge client server old new held holds status → client.is_clean new.0 → AsksInTurn client old.0 new.0

abbrev pub ServersAreCalls : {C S : Type 0} → Ghosts C → Ghosts S → Type 0
ServersAreCalls {C} {S} client server =
    (old new : C × S) (held holds : Option Text) (status : ℕ)
    → TellsBridge client server old new held holds status → server.is_clean new.1 → ServesInTurn server old.1 new.1
