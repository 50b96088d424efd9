-- What whole exchanges and bridges asked of the replicas here, in turn.
use Rattle.std.proofs.Common.{◌≡◌, sym, ap, subst, ℕ, List, [], ◌∷◌, ◌++◌, inl, inr, Option, Result, Ok, Err}
use Rattle.mr_model.specs.Texts.{Text}
use Rattle.mr_store.specs.declared.keeper.Keeper.{Ghosts}
use Rattle.mr_http.specs.declared.faults.WebFault.{WebFault}
use Rattle.mr_net.specs.declared.ways.Way.{Way}
use Rattle.mr_net.specs.declared.ways.Way.TheVariants.{Pull, Push}
use Rattle.mr_net.specs.declared.ways.Round.{Round}
use Rattle.mr_net.specs.declared.ways.Taken.{Taken}
use Rattle.mr_net.specs.AskedInTurn.{BridgesAsk, ExchangesAsk}
use Rattle.mr_net.specs.Connections.{AreConnections}
use Rattle.mr_net.specs.ExchangeRounds.{RunsBridged, RunsRound}
use Rattle.mr_net.specs.Printed.{IsStopOf, TellsBoth, TellsWay}
use Rattle.mr_net.specs.Ways.{IsWay, Leads}
use Rattle.mr_net.proofs.PrintedLines.{never_stops}
use Rattle.mr_net.proofs.RoundAsks.{Asked, Heard, asked_on, client_asked, client_heard, heard_asked, heard_on, none_heard, round_asked, round_heard}

-- ---- the rounds of both ways, with any peer

-- what whole rounds come to, and what they come to if the last one fails
module _ {P : Type 0} (runs : Way → P → Result Round WebFault → P → Type 0) (Whole Part : P → P → Type 0)
    (nil : (p q : P) → p ≡ q → Whole p q)
    (whole : (way : Way) (p q : P) (r : Round) → runs way p (Ok r) q → Whole p q)
    (part : (way : Way) (p q : P) (result : Result Round WebFault) → runs way p result q → Part p q)
    (joins : (p m q : P) → Whole p m → Whole m q → Whole p q)
    (follows : (p m q : P) → Whole p m → Part m q → Part p q)
    (weaker : (p q : P) → Whole p q → Part p q) where
  -- rounds, one after the other
  led : (way : Way) (p q : P) (rounds : List Round) → Leads (runs way) p rounds q → Whole p q
  led way p q [] same = nil p q same
  led way p q (r ∷ rounds) (m, step, rest) = joins p m q (whole way p m r step) (led way m q rounds rest)

  -- all rounds of a way
  way_part : (way : Way) (p q : P) (result : Result Taken WebFault) → IsWay (runs way) p result q → Part p q
  way_part way p q (Ok taken) is = weaker p q (led way p q is.0 is.1)
  way_part way p q (Err f) (rounds, m, leads, goes, last) = follows p m q (led way p m rounds leads) (part way m q (Err f) last)

  -- a way that was told as gone
  told_whole : (way : Way) (p q : P) (held holds : Option Text) → TellsWay runs way p q held holds 0 → Whole p q
  told_whole way p q held holds (inl (zero, taken, is, appends)) = led way p q is.0 is.1
  told_whole way p q held holds (inr (result, is, stops)) = absurd (never_stops (IsStopOf result) held holds stops)

  -- a way however it was told
  told_part : (way : Way) (p q : P) (held holds : Option Text) (status : ℕ) → TellsWay runs way p q held holds status → Part p q
  told_part way p q held holds status (inl (zero, taken, is, appends)) = way_part way p q (Ok taken) is
  told_part way p q held holds status (inr (result, is, stops)) = way_part way p q result is

  -- both ways
  both_told : (p q : P) (held holds : Option Text) (status : ℕ) → TellsBoth runs p q held holds status → Part p q
  both_told p q held holds status (inl (m, between, first, second)) = follows p m q (told_whole Pull p m held between first) (told_part Push m q between holds status second)
  both_told p q held holds status (inr (undone, first)) = told_part Pull p q held holds status first

-- an exchange
pub exchange_asks : {K : Type 0} (k : Ghosts K) → ExchangesAsk k
exchange_asks k old new held holds status told =
    both_told (RunsRound k) (Heard k) (Asked k) (λ p q same. none_heard k p q (sym same)) (λ way p q r run. round_heard k way p q r run)
    (λ way p q result run. round_asked k way p q result run) (heard_on k) (asked_on k) (heard_asked k) old new held holds status told

-- ---- a bridge

-- some connections were served
abbrev Connected : {K : Type 0} → Ghosts K → K → K → Type 0
Connected k old new = (served : List (Option ℕ)) × AreConnections k old served new

-- others follow on them
connections_on : {K : Type 0} (k : Ghosts K) (a b c : K) (first more : List (Option ℕ)) → AreConnections k a first b → AreConnections k b more c → AreConnections k a (first ++ more) c
connections_on k a b c [] more same next = subst (λ x. AreConnections k x more c) (sym same) next
connections_on k a b c (s ∷ first) more (m, is, rest) next = (m, is, connections_on k m b c first more rest next)

-- the same, whichever they are
connected_on : {K : Type 0} (k : Ghosts K) (a b c : K) → Connected k a b → Connected k b c → Connected k a c
connected_on k a b c (first, one) (more, two) = (first ++ more, connections_on k a b c first more one two)

-- both ends of a bridge
pub bridge_asks : {C S : Type 0} (client : Ghosts C) (server : Ghosts S) → BridgesAsk client server
bridge_asks client server old new held holds status (inr (same, stops)) =
    (heard_asked client old.0 new.0 (none_heard client old.0 new.0 (ap (λ x. x.0) same)), ([], ap (λ x. x.1) (sym same)))
bridge_asks client server old new held holds status (inl told) = (
  both_told (RunsBridged client server) (λ p q. Heard client p.0 q.0) (λ p q. Asked client p.0 q.0)
      (λ p q same. none_heard client p.0 q.0 (ap (λ x. x.0) (sym same))) (λ way p q r run. client_heard client way p.0 q.0 r run.0)
      (λ way p q result run. client_asked client way p.0 q.0 result run.0) (λ p m q. heard_on client p.0 m.0 q.0) (λ p m q. asked_on client p.0 m.0 q.0)
      (λ p q. heard_asked client p.0 q.0) old new held holds status told,
  both_told (RunsBridged client server) (λ p q. Connected server p.1 q.1) (λ p q. Connected server p.1 q.1) (λ p q same. ([], ap (λ x. x.1) same))
      (λ way p q r run. (run.1.0, run.1.2)) (λ way p q result run. (run.1.0, run.1.2)) (λ p m q. connected_on server p.1 m.1 q.1)
      (λ p m q. connected_on server p.1 m.1 q.1) (λ p q is. is) old new held holds status told,
)
