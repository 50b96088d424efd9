-- What commands that have sockets asked of a database, as calls of it.
use Rattle.std.proofs.Common.{◌≡◌, refl, sym, subst, ℕ, List, [], ◌∷◌, ◌++◌, inl, inr, Option, Some, None}
use Rattle.mr_model.specs.Texts.{Text}
use Rattle.mr_model.specs.Replies.{Reply}
use Rattle.mr_model.specs.Step.{Command}
use Rattle.mr_store.specs.declared.keeper.Keeper.{Ghosts}
use Rattle.mr_web.specs.RequestServed.{AsksOnce}
use Rattle.mr_web.specs.RepliesWritten.{Writes}
use Rattle.mr_net.specs.Connections.{AreConnections, TellsServed}
use Rattle.mr_net.proofs.WayAsks.{bridge_asks, exchange_asks}
use Rattle.mr_branches.proofs.Served.{served_is_called}
use Rattle.mr_calls.specs.CommandCalls.{ClientsAreCalls, ExchangesAreCalls, ServersAreCalls, ServesInTurn, ServingsAreCalls}
use Rattle.mr_calls.proofs.CallChains.{in_turn_calls, in_turn_stops}

-- an exchange
pub exchange_calls : {K : Type 0} (k : Ghosts K) → ExchangesAreCalls k
exchange_calls k old new held holds status told clean =
    let (calls, of, turn) = exchange_asks k old new held holds status told in (calls, of, in_turn_stops k old new calls turn, in_turn_calls k old new calls turn clean)

-- a bridge, at its client
pub client_calls : {C S : Type 0} (client : Ghosts C) (server : Ghosts S) → ClientsAreCalls client server
client_calls client server old new held holds status told clean =
    let (calls, of, turn) = (bridge_asks client server old new held holds status told).0 in
    (calls, of, in_turn_stops client old.0 new.0 calls turn, in_turn_calls client old.0 new.0 calls turn clean)

-- ---- serving

-- a keeper that is clean behind some connections was so before them
connections_clean : {K : Type 0} (k : Ghosts K) (served : List (Option ℕ)) (old new : K) → AreConnections k old served new → k.is_clean new → k.is_clean old
connections_clean k [] old new same clean = subst (λ x. k.is_clean x) (sym same) clean
connections_clean k (s ∷ served) old new (m, (known, held, holds, (result, is, status)), rest) clean = is.clean (connections_clean k served m new rest clean)

-- connections
serves_in_turn : {K : Type 0} (k : Ghosts K) (served : List (Option ℕ)) (old new : K) → AreConnections k old served new → k.is_clean new → ServesInTurn k old new
serves_in_turn k [] old new same clean = ([], sym same)
serves_in_turn {K} k (s ∷ served) old new (m, (known, held, holds, (result, is, status)), rest) clean = asked (serves_in_turn k served m new rest clean) is.once
  where
    asked : ServesInTurn k m new → AsksOnce k old m known (Writes held holds) result → ServesInTurn k old new
    asked next (inl (same, given)) = subst (λ x. ServesInTurn k x new) same next
    asked (calls, are) (inr (c, reply, one, asks, given)) =
        ((c, reply) ∷ calls, (m, served_is_called k old m c reply one (connections_clean k served m new rest clean), are))

-- what is served are connections
served_connected : {K : Type 0} (k : Ghosts K) (old new : K) (count : ℕ) (held holds : Option Text) (status : ℕ) → TellsServed k old new count held holds status
    → (served : List (Option ℕ)) × AreConnections k old served new
served_connected k old new count held holds status (inl told) = (told.1, told.2)
served_connected k old new count held holds status (inr (inl stops)) = (stops.0 ++ stops.1 ∷ [], stops.2)
served_connected k old new count held holds status (inr (inr late)) = (late.1, late.3)

-- a serving
pub serving_calls : {K : Type 0} (k : Ghosts K) → ServingsAreCalls k
serving_calls k old new port count held holds status (inl (between, line, told)) clean =
    let (served, are) = served_connected k old new count between holds status told in serves_in_turn k served old new are clean
serving_calls k old new port count held holds status (inr (same, stops)) clean = ([], same)

-- a bridge, at its server
pub server_calls : {C S : Type 0} (client : Ghosts C) (server : Ghosts S) → ServersAreCalls client server
server_calls client server old new held holds status told clean =
    let (served, are) = (bridge_asks client server old new held holds status told).1 in serves_in_turn server served old.1 new.1 are clean
