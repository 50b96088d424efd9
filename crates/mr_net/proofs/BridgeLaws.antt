-- What a round of a bridge asks of the two replicas.
use Rattle.std.proofs.Common.{◌≡◌, ℕ, List, [], ◌∷◌, ◌++◌, Option, Result, Ok, Err, inl, inr, true, false, refl, sym, subst, arith, length-append}
use Rattle.std.specs.Prelude.{IfOk, IsErr, IsErrAnd}
use Rattle.mr_model.specs.Texts.{Text}
use Rattle.mr_model.specs.Positions.{Position}
use Rattle.mr_model.specs.Serving.{Reaches}
use Rattle.mr_model.specs.Step.{AskPosition}
use Rattle.mr_base.specs.declared.batches.Ending.{Ending}
use Rattle.mr_store.specs.declared.keeper.Keeper.{Ghosts}
use Rattle.mr_http.specs.declared.faults.WebFault.{WebFault}
use Rattle.mr_peer.specs.PeerAsking.{AsksPull, AsksPush, lacking}
use Rattle.mr_peer.specs.Exchanged.{IsExchanged}
use Rattle.mr_peer.specs.ExchangeSteps.{TakesBody, TakesPulled}
use Rattle.mr_peer.specs.OnceAsked.{IsBodyOf, ReceivesOnce, SendsBatch, SendsPosition, TellsBatch}
use Rattle.mr_net.specs.declared.ways.Way.{Way}
use Rattle.mr_net.specs.declared.ways.Way.TheVariants.{Pull, Push}
use Rattle.mr_net.specs.declared.ways.Round.{Round}
use Rattle.mr_net.specs.Connections.{IsConnection, AreConnections}
use Rattle.mr_net.specs.ExchangeRounds.{Brings, ComesTo, IsClient, IsServer}

-- ---- the server's

-- connections follow on others
led_on : {K : Type 0} (keeper : Ghosts K) (a b c : K) (first second : List (Option ℕ)) → AreConnections keeper a first b → AreConnections keeper b second c
    → AreConnections keeper a (first ++ second) c
led_on keeper a b c [] second same more = subst (λ x. AreConnections keeper x second c) (sym same) more
led_on keeper a b c (s ∷ first) second led more = (led.0, led.1, led_on keeper led.0 b c first second led.2 more)

-- it was not asked
pub unasked : {K : Type 0} (keeper : Ghosts K) (way : Way) (a : K) → IsServer keeper way a a
unasked keeper way a = ([], omega arith, refl)

-- one connection was served
pub one_served : {K : Type 0} (keeper : Ghosts K) (a b : K) (served : Option ℕ) → IsConnection keeper a served b → IsServer keeper Pull a b
one_served keeper a b served is = (served ∷ [], omega arith, (b, is, refl))

-- a push may ask it over one connection alone
pub asked_once : {K : Type 0} (keeper : Ghosts K) (a b : K) → IsServer keeper Pull a b → IsServer keeper Push a b
asked_once keeper a b (served, few, led) = (served, omega arith, led)

-- or over two
pub asked_twice : {K : Type 0} (keeper : Ghosts K) (a b c : K) → IsServer keeper Pull a b → IsServer keeper Pull b c → IsServer keeper Push a c
asked_twice keeper a b c (first, few, led) (second, few_more, more) =
    (first ++ second, omega (arith, few, few_more, length-append first second), led_on keeper a b c first second led more)

-- ---- the client's

pub is_err : {X : Type 0} (P : WebFault → Type 0) (result : Result X WebFault) → IsErrAnd result P → IsErr result
is_err P (Ok x) is = absurd is
is_err P (Err e) is = refl

pub no_round : (P : Round → Type 0) (result : Result Round WebFault) → IsErr result → IfOk result P
no_round P (Ok round) is = absurd (let never : false ≡ true = is in cc)
no_round P (Err e) is = tt

-- a round that some counts make has the ending of its batch
pub ends_so : (counts : Result (ℕ × ℕ) WebFault) (ending : Ending) (result : Result Round WebFault) → Brings counts ending result
    → IfOk result (λ round. ◌≡◌ {A = Result Ending WebFault} (Ok ending) (Ok round.ending))
ends_so (Ok counts) ending result made = subst (λ r. IfOk r (λ round. ◌≡◌ {A = Result Ending WebFault} (Ok ending) (Ok round.ending))) (sym made) refl
ends_so (Err fault) ending result made = subst (λ r. IfOk r (λ round. ◌≡◌ {A = Result Ending WebFault} (Ok ending) (Ok round.ending))) (sym made) tt

-- it told its position, and no reply was taken
pub untaken : {K : Type 0} (keeper : Ghosts K) (a m d : K) (host : Text) (held holds : Option Text) (asked : Result (Unit {0}) WebFault) (result : Result Round WebFault)
    → IsExchanged keeper a m asked (AsksPull host held holds) (Reaches (keeper.tables a) AskPosition) → SendsPosition keeper a m host held holds asked
    → IsErr result → d ≡ m → IsClient keeper Pull a result d
untaken keeper a m d host held holds asked result told once err still = inr (m, host, held, holds, asked, told, once, inl (err, still))

-- it told its position, and took the reply
pub taken : {K : Type 0} (keeper : Ghosts K) (a m b d : K) (host : Text) (held holds known : Option Text)
    (called : Result (ℕ × ℕ × Ending) WebFault) (result : Result Round WebFault)
    → IsExchanged keeper a m (Ok tt) (AsksPull host held holds) (Reaches (keeper.tables a) AskPosition) → SendsPosition keeper a m host held holds (Ok tt) → b ≡ m
    → IsExchanged keeper b d called (TakesPulled known) (TakesBody (keeper.tables b)) → ComesTo called result
    → ReceivesOnce keeper b d (IsBodyOf known) TellsBatch called → IsClient keeper Pull a result d
taken keeper a m b d host held holds known called result told once still took comes took_once =
    let from_there = subst (λ x. IsExchanged keeper x d called (TakesPulled known) (TakesBody (keeper.tables x))) still took in
    let once_there = subst (λ x. ReceivesOnce keeper x d (IsBodyOf known) TellsBatch called) still took_once in
    inr (m, host, held, holds, Ok tt, told, once, inr (refl, known, called, from_there, comes, once_there))

-- it handed out a batch, and was left alone before and after
pub handed : {K : Type 0} (keeper : Ghosts K) (a b c d : K) (position : Position) (host : Text) (held holds : Option Text) (asked : Result Ending WebFault)
    (result : Result Round WebFault) → b ≡ a
    → IsExchanged keeper b c asked (AsksPush position host held holds) (Reaches (keeper.tables b) (lacking position))
    → SendsBatch keeper b c position host held holds asked → d ≡ c
    → IfOk result (λ round. asked ≡ Ok round.ending) → IsClient keeper Push a result d
handed keeper a b c d position host held holds asked result before gave once after comes =
    let to_the_end = subst (λ y. IsExchanged keeper b y asked (AsksPush position host held holds) (Reaches (keeper.tables b) (lacking position))) (sym after) gave in
    let whole = subst (λ x. IsExchanged keeper x d asked (AsksPush position host held holds) (Reaches (keeper.tables x) (lacking position))) before to_the_end in
    let once_to_the_end = subst (λ y. SendsBatch keeper b y position host held holds asked) (sym after) once in
    inr (position, host, held, holds, asked, whole, comes, subst (λ x. SendsBatch keeper x d position host held holds asked) before once_to_the_end)
