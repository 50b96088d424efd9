-- What a round of an exchange asked of the replica here, in turn.
use Rattle.std.proofs.Common.{◌≡◌, refl, sym, ◌∙◌, subst, ℕ, List, [], ◌∷◌, ◌++◌, inl, inr, true, false, Option, Result, Ok, Err}
use Rattle.std.specs.Prelude.{IsErr}
use Rattle.std.specs.List.{AllByRecursion}
use Rattle.mr_model.specs.Texts.{Text}
use Rattle.mr_model.specs.Positions.{Position}
use Rattle.mr_model.specs.Refusals.{Refusal, OutOfMemory, Store}
use Rattle.mr_model.specs.Replies.{Reply, Took, Refused}
use Rattle.mr_model.specs.Step.{Command, AskPosition, IsOfMachine, Receive, no_memory, no_store}
use Rattle.mr_base.specs.declared.batches.Ending.{Ending}
use Rattle.mr_store.specs.declared.keeper.Keeper.{Ghosts}
use Rattle.mr_http.specs.declared.faults.WebFault.{WebFault}
use Rattle.mr_http.specs.declared.faults.WebFault.TheVariants as fault
use Rattle.mr_service.specs.Served.{IsServed}
use Rattle.mr_peer.specs.OnceAsked.{IsBodyOf, ReceivesOnce, SendsBatch, SendsPosition, TellsBatch}
use Rattle.mr_peer.specs.PeerAsking.{lacking}
use Rattle.mr_net.specs.declared.ways.Way.{Way}
use Rattle.mr_net.specs.declared.ways.Way.TheVariants.{Pull, Push}
use Rattle.mr_net.specs.declared.ways.Round.{Round}
use Rattle.mr_net.specs.ExchangeRounds.{ComesTo, IsClient, PullsOnce, PushesOnce, RunsRound}
use Rattle.mr_net.specs.AskedInTurn.{AreOfExchange, InTurn, IsOfExchange}
use Rattle.mr_peer.proofs.AskLemmas.{not_batch, not_position}

-- ---- commands of an exchange, in turn

-- neither 24 nor 25 came, of any
abbrev pub AreHeard : List (Command × Reply) → Type 0
AreHeard calls = AllByRecursion (λ c. IsOfMachine c.1 → ⊥) calls

-- some follow on those of which a reply was heard
in_turn_on : {K : Type 0} (k : Ghosts K) (a b c : K) (first more : List (Command × Reply)) → InTurn k a first b → AreHeard first → InTurn k b more c
    → InTurn k a (first ++ more) c
in_turn_on k a b c [] more same heard next = subst (λ x. InTurn k x more c) same next
in_turn_on k a b c (x ∷ first) more (m, served, known, rest) heard next = (m, served, inl heard.0, in_turn_on k m b c first more rest heard.1 next)

-- these were asked; of the last one no reply may have been heard
abbrev pub Asked : {K : Type 0} → Ghosts K → K → K → Type 0
Asked keeper old new = (calls : List (Command × Reply)) × AreOfExchange calls × InTurn keeper old calls new

-- of each one a reply was heard
abbrev pub Heard : {K : Type 0} → Ghosts K → K → K → Type 0
Heard keeper old new = (calls : List (Command × Reply)) × AreOfExchange calls × InTurn keeper old calls new × AreHeard calls

-- what was heard was asked
pub heard_asked : {K : Type 0} (k : Ghosts K) (a b : K) → Heard k a b → Asked k a b
heard_asked k a b (calls, of, turn, heard) = (calls, of, turn)

-- all of some calls, and of others behind them
all_on : (first more : List (Command × Reply)) (P : Command × Reply → Type 0) → AllByRecursion P first → AllByRecursion P more → AllByRecursion P (first ++ more)
all_on [] more P one two = two
all_on (c ∷ first) more P one two = (one.0, all_on first more P one.1 two)

-- others follow
pub heard_on : {K : Type 0} (k : Ghosts K) (a b c : K) → Heard k a b → Heard k b c → Heard k a c
heard_on k a b c (first, of, turn, heard) (more, of_more, turn_more, heard_more) = (
  first ++ more,
  all_on first more (λ x. IsOfExchange x.0) of of_more,
  in_turn_on k a b c first more turn heard turn_more,
  all_on first more (λ x. IsOfMachine x.1 → ⊥) heard heard_more,
)

-- and so may one of which no reply was heard
pub asked_on : {K : Type 0} (k : Ghosts K) (a b c : K) → Heard k a b → Asked k b c → Asked k a c
asked_on k a b c (first, of, turn, heard) (more, of_more, turn_more) =
    (first ++ more, all_on first more (λ x. IsOfExchange x.0) of of_more, in_turn_on k a b c first more turn heard turn_more)

-- none was asked
pub none_heard : {K : Type 0} (k : Ghosts K) (a b : K) → b ≡ a → Heard k a b
none_heard k a b same = ([], tt, same, tt)

-- ---- one command

-- one was asked, and maybe no reply heard
one_asked : {K : Type 0} (k : Ghosts K) (a b : K) (c : Command) (reply : Reply) → IsOfExchange c → IsServed k a b c reply → Asked k a b
one_asked k a b c reply of served = ((c, reply) ∷ [], (of, tt), (b, served, inr refl, refl))

-- 24 and 25 are refusals, and so neither a position, nor a batch, nor counts
refused_then : (reply : Reply) → IsOfMachine reply → (e : Refusal) × (reply ≡ Refused e)
refused_then reply no_memory = (OutOfMemory, refl)
refused_then reply no_store = (Store, refl)

-- counts are one
took_heard : (reply : Reply) (writes commits : ℕ) → reply ≡ Took writes commits → IsOfMachine reply → ⊥
took_heard reply writes commits is machine = let (e, refused) = refused_then reply machine in let z : Refused e ≡ Took writes commits = sym refused ∙ is in cc

-- one was asked, and its reply heard
one_heard : {K : Type 0} (k : Ghosts K) (a b : K) (c : Command) (reply : Reply) → IsOfExchange c → IsServed k a b c reply → (IsOfMachine reply → ⊥) → Heard k a b
one_heard k a b c reply of served heard = ((c, reply) ∷ [], (of, tt), (b, served, inl heard, refl), (heard, tt))

-- what went well is no fault
no_err : {X : Type 0} (x : X) → IsErr {E = WebFault} (Ok x) → ⊥
no_err x is = let never : false ≡ true = is in cc

-- a body was received, or nothing
received_asked : {K X : Type 0} (k : Ghosts K) (a b : K) (P : Text → Type 0) (T : Reply → Result X WebFault → Type 0) (result : Result X WebFault)
    → ReceivesOnce k a b P T result → Asked k a b
received_asked k a b P T result (inl (fails, same)) = heard_asked k a b (none_heard k a b same)
received_asked k a b P T result (inr (body, reply, served, is, tells)) = one_asked k a b (Receive body) reply tt served

-- with counts a body was received, and its reply heard
received_heard : {K : Type 0} (k : Ghosts K) (a b : K) (P : Text → Type 0) (took : ℕ × ℕ × Ending) → ReceivesOnce k a b P TellsBatch (Ok took) → Heard k a b
received_heard k a b P took (inl (fails, same)) = absurd (no_err took fails)
received_heard k a b P took (inr (body, reply, served, is, tells)) = one_heard k a b (Receive body) reply tt served (took_heard reply took.0 took.1 tells)

-- ---- a round with a peer elsewhere

-- a pull
pulled_asked : {K : Type 0} (k : Ghosts K) (a b : K) (host : Text) (held holds known : Option Text) (called : Result (ℕ × ℕ × Ending) WebFault)
    → PullsOnce k a b host held holds known called → Asked k a b
pulled_asked k a b host held holds known called (m, said, served, inl (fails, same)) = subst (λ x. Asked k a x) (sym same) (one_asked k a m AskPosition said tt served)
pulled_asked k a b host held holds known called (m, said, served, inr (p, is, sent, took)) =
    asked_on k a m b (one_heard k a m AskPosition said tt served (not_position said p is)) (received_asked k m b (IsBodyOf known) TellsBatch called took)

-- one that went well
pulled_heard : {K : Type 0} (k : Ghosts K) (a b : K) (host : Text) (held holds known : Option Text) (took : ℕ × ℕ × Ending)
    → PullsOnce k a b host held holds known (Ok took) → Heard k a b
pulled_heard k a b host held holds known took (m, said, served, inl (fails, same)) = absurd (no_err took fails)
pulled_heard k a b host held holds known took (m, said, served, inr (p, is, sent, received)) =
    heard_on k a m b (one_heard k a m AskPosition said tt served (not_position said p is)) (received_heard k m b (IsBodyOf known) took received)

-- a push
pushed_asked : {K : Type 0} (k : Ghosts K) (a b : K) (position : Position) (host : Text) (held holds : Option Text) (called : Result (ℕ × ℕ × Ending) WebFault)
    → PushesOnce k a b position host held holds called → Asked k a b
pushed_asked k a b position host held holds called (inl (fails, same)) = heard_asked k a b (none_heard k a b same)
pushed_asked k a b position host held holds called (inr (said, served, sent)) = one_asked k a b (lacking position) said refl served

-- one that went well
pushed_heard : {K : Type 0} (k : Ghosts K) (a b : K) (position : Position) (host : Text) (held holds : Option Text) (took : ℕ × ℕ × Ending)
    → PushesOnce k a b position host held holds (Ok took) → Heard k a b
pushed_heard k a b position host held holds took (inl (fails, same)) = absurd (no_err took fails)
pushed_heard k a b position host held holds took (inr (said, served, inl fails)) = absurd (no_err took fails)
pushed_heard k a b position host held holds took (inr (said, served, inr (batch, is, sent))) =
    one_heard k a b (lacking position) said refl served (not_batch said batch is)

-- a round of either way
pub round_asked : {K : Type 0} (k : Ghosts K) (way : Way) (a b : K) (result : Result Round WebFault) → RunsRound k way a result b → Asked k a b
round_asked k Pull a b result (inl (fails, same)) = heard_asked k a b (none_heard k a b same)
round_asked k Pull a b result (inr (host, held, holds, known, called, exchanged, comes, once)) = pulled_asked k a b host held holds known called once
round_asked k Push a b result (inl (fails, same)) = heard_asked k a b (none_heard k a b same)
round_asked k Push a b result (inr (position, host, held, holds, known, called, exchanged, comes, once)) = pushed_asked k a b position host held holds called once

-- one that went well
pub round_heard : {K : Type 0} (k : Ghosts K) (way : Way) (a b : K) (r : Round) → RunsRound k way a (Ok r) b → Heard k a b
round_heard k Pull a b r (inl (fails, same)) = absurd (no_err r fails)
round_heard {K} k Pull a b r (inr (host, held, holds, known, called, exchanged, comes, once)) = go called comes once
  where
    go : (called : Result (ℕ × ℕ × Ending) WebFault) → ComesTo called (Ok r) → PullsOnce k a b host held holds known called → Heard k a b
    go (Ok took) comes once = pulled_heard k a b host held holds known took once
    go (Err e) comes once = absurd (let z : ◌≡◌ {A = Result Round WebFault} (Ok r) (Err e) = comes in cc)
round_heard k Push a b r (inl (fails, same)) = absurd (no_err r fails)
round_heard {K} k Push a b r (inr (position, host, held, holds, known, called, exchanged, comes, once)) = go called comes once
  where
    go : (called : Result (ℕ × ℕ × Ending) WebFault) → ComesTo called (Ok r) → PushesOnce k a b position host held holds called → Heard k a b
    go (Ok took) comes once = pushed_heard k a b position host held holds took once
    go (Err e) comes once = absurd (let z : ◌≡◌ {A = Result Round WebFault} (Ok r) (Err e) = comes in cc)

-- ---- a round with another database of this machine

-- a position that was sent
sent_heard : {K : Type 0} (k : Ghosts K) (a m : K) (host : Text) (held holds : Option Text) → SendsPosition k a m host held holds (Ok tt) → Heard k a m
sent_heard k a m host held holds (said, served, inl (p, is, wrote)) = one_heard k a m AskPosition said tt served (not_position said p is)
sent_heard k a m host held holds (said, served, inr (nothing, keeps)) = absurd nothing

-- a batch that was asked for
gave_asked : {K : Type 0} (k : Ghosts K) (a b : K) (position : Position) (host : Text) (held holds : Option Text) (asked : Result Ending WebFault)
    → SendsBatch k a b position host held holds asked → Asked k a b
gave_asked k a b position host held holds asked (inl (fails, same, keeps)) = heard_asked k a b (none_heard k a b same)
gave_asked k a b position host held holds asked (inr (said, served, sent)) = one_asked k a b (lacking position) said refl served

-- one that was sent
gave_heard : {K : Type 0} (k : Ghosts K) (a b : K) (position : Position) (host : Text) (held holds : Option Text) (ending : Ending)
    → SendsBatch k a b position host held holds (Ok ending) → Heard k a b
gave_heard k a b position host held holds ending (inl (fails, same, keeps)) = absurd (let z : ◌≡◌ {A = Result Ending WebFault} (Ok ending) (Err fault.Memory) = fails in cc)
gave_heard k a b position host held holds ending (inr (said, served, inl (batch, is, wrote, ends))) =
    one_heard k a b (lacking position) said refl served (not_batch said batch is)
gave_heard k a b position host held holds ending (inr (said, served, inr (nothing, keeps))) = absurd nothing

-- a round of either way
pub client_asked : {K : Type 0} (k : Ghosts K) (way : Way) (a b : K) (result : Result Round WebFault) → IsClient k way a result b → Asked k a b
client_asked k Pull a b result (inl (fails, same)) = heard_asked k a b (none_heard k a b same)
client_asked k Pull a b result (inr (m, host, held, holds, asked, told, (said, served, sent), inl (fails, same))) =
    subst (λ x. Asked k a x) (sym same) (one_asked k a m AskPosition said tt served)
client_asked k Pull a b result (inr (m, host, held, holds, asked, told, once, inr (ok, known, called, took, comes, took_once))) =
    asked_on k a m b (sent_heard k a m host held holds (subst (λ x. SendsPosition k a m host held holds x) ok once)) (received_asked k m b (IsBodyOf known) TellsBatch called took_once)
client_asked k Push a b result (inl (fails, same)) = heard_asked k a b (none_heard k a b same)
client_asked k Push a b result (inr (position, host, held, holds, asked, gave, ends, once)) = gave_asked k a b position host held holds asked once

-- one that went well
pub client_heard : {K : Type 0} (k : Ghosts K) (way : Way) (a b : K) (r : Round) → IsClient k way a (Ok r) b → Heard k a b
client_heard k Pull a b r (inl (fails, same)) = absurd (no_err r fails)
client_heard k Pull a b r (inr (m, host, held, holds, asked, told, once, inl (fails, same))) = absurd (no_err r fails)
client_heard {K} k Pull a b r (inr (m, host, held, holds, asked, told, once, inr (ok, known, called, took, comes, took_once))) =
    heard_on k a m b (sent_heard k a m host held holds (subst (λ x. SendsPosition k a m host held holds x) ok once)) (go called comes took_once)
  where
    go : (called : Result (ℕ × ℕ × Ending) WebFault) → ComesTo called (Ok r) → ReceivesOnce k m b (IsBodyOf known) TellsBatch called → Heard k m b
    go (Ok took) comes once = received_heard k m b (IsBodyOf known) took once
    go (Err e) comes once = absurd (let z : ◌≡◌ {A = Result Round WebFault} (Ok r) (Err e) = comes in cc)
client_heard k Push a b r (inl (fails, same)) = absurd (no_err r fails)
client_heard k Push a b r (inr (position, host, held, holds, asked, gave, ends, once)) =
    gave_heard k a b position host held holds r.ending (subst (λ x. SendsBatch k a b position host held holds x) ends once)
