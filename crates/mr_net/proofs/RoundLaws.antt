-- What a round with a peer elsewhere asks of the replica here.
use Rattle.std.proofs.Common.{◌≡◌, ◌∙◌, ◌≤◌, ◌++◌, ℕ, [], length, take, Option, Some, None, Result, Ok, Err, inl, inr, refl, sym, ap, subst}
use Rattle.std.specs.Prelude.{IsErr}
use Rattle.std.specs.Io.KnownBytes.{Appends}
use Rattle.mr_model.specs.Texts.{Text}
use Rattle.mr_model.specs.Exchange.{batch_text}
use Rattle.mr_model.specs.Http.{lines_over_http}
use Rattle.mr_model.specs.Positions.{Position, position_of, position_text}
use Rattle.mr_model.specs.Replica.{Replica}
use Rattle.mr_model.specs.Serving.{Reaches}
use Rattle.mr_model.specs.Step.{AskPosition, batch_of}
use Rattle.mr_model.specs.Tables.{Stands}
use Rattle.mr_base.specs.declared.batches.Ending.{Ending}
use Rattle.mr_store.specs.declared.keeper.Keeper.{Ghosts}
use Rattle.mr_http.specs.declared.faults.WebFault.{WebFault}
use Rattle.mr_http.specs.declared.faults.WebFault.TheVariants as fault
use Rattle.mr_peer.specs.PeerAsking.{AsksPull, AsksPush, GivesBatch, IsAskFault, lacking}
use Rattle.mr_peer.specs.PeerRequests.{pull_request, push_request}
use Rattle.mr_peer.specs.PeerReplies.{told_took}
use Rattle.mr_peer.specs.PeerTaking.{TakesReply, TellsAsRead}
use Rattle.mr_peer.specs.Exchanged.{IsExchanged}
use Rattle.mr_peer.specs.OnceAsked.{IsBodyOf, ReceivesOnce, SendsBatch, SendsPosition, TellsBatch}
use Rattle.mr_peer.specs.ExchangeSteps.{ReachesByPull, TakesBody, TakesPulled}
use Rattle.mr_peer.specs.Rounds.{Pulls, Pushes, TellsTook}
use Rattle.mr_peer.proofs.AskLemmas.{ask_failed, begun, failed_as, given_so}
use Rattle.mr_peer.proofs.Exchanges.{both, onward, reached}
use Rattle.mr_peer.proofs.RoundEffects.{body_behind, pulls_behind}
use Rattle.mr_net.specs.declared.ways.Way.TheVariants.{Pull, Push}
use Rattle.mr_net.specs.declared.ways.Round.{Round}
use Rattle.mr_net.specs.ExchangeRounds.{Brings, PullsOnce, PushesOnce, RunsRound}
use Rattle.mr_net.specs.SentRequests.{PullsOver, PushesOver}

-- a request that was made where nothing stood before, sent whole
sent_whole : (none made request : Text) (held holds : Option Text) → none ≡ [] → made ≡ none ++ request → Appends held holds made → Appends held holds request
sent_whole none made request held holds empty same sent = subst (λ t. Appends held holds t) (same ∙ ap (λ t. t ++ request) empty) sent

-- the same, sent in part
sent_part : (none made request : Text) (held holds : Option Text) (n : ℕ) → none ≡ [] → made ≡ none ++ request → n ≤ length made
    → Appends held holds (take n made) → (n : ℕ) × (n ≤ length request) × Appends held holds (take n request)
sent_part none made request held holds n empty same few sent =
    subst (λ t. (n : ℕ) × (n ≤ length t) × Appends held holds (take n t)) (same ∙ ap (λ t. t ++ request) empty) (n, few, sent)

-- ---- just once

-- a position was asked for, and nothing was received
unreceived : {K : Type 0} (keeper : Ghosts K) (a b : K) (host : Text) (was will held holds known : Option Text) (asked : Result (Unit {0}) WebFault)
    (called : Result (ℕ × ℕ × Ending) WebFault) → SendsPosition keeper a b host was will asked → IsErr called → PullsOnce keeper a b host held holds known called
unreceived keeper a b host was will held holds known asked called (said, served, sent) err = (b, said, served, inl (err, refl))

-- the request with it was sent whole, and the reply taken
received : {K : Type 0} (keeper : Ghosts K) (a m b : K) (host none made : Text) (held holds known : Option Text) (called : Result (ℕ × ℕ × Ending) WebFault)
    → none ≡ [] → SendsPosition keeper a m host (Some none) (Some made) (Ok tt) → Appends held holds made
    → ReceivesOnce keeper m b (IsBodyOf known) TellsBatch called → PullsOnce keeper a b host held holds known called
received keeper a m b host none made held holds known called empty (said, served, inl (p, is, wrote)) sent took =
    (m, said, served, inr (p, is, sent_whole none made (pull_request host (position_text p)) held holds empty wrote sent, took))
received keeper a m b host none made held holds known called empty (said, served, inr (nothing, keeps)) sent took = absurd nothing

-- a batch was asked for, or nothing was, and there is a fault
ungiven : {K : Type 0} (keeper : Ghosts K) (a b : K) (position : Position) (host : Text) (was will held holds : Option Text) (asked : Result Ending WebFault)
    (called : Result (ℕ × ℕ × Ending) WebFault) → SendsBatch keeper a b position host was will asked → IsErr called
    → PushesOnce keeper a b position host held holds called
ungiven keeper a b position host was will held holds asked called (inl (fails, same, keeps)) err = inl (err, same)
ungiven keeper a b position host was will held holds asked called (inr (said, served, sent)) err = inr (said, served, inl err)

-- the request with it was sent whole
given : {K : Type 0} (keeper : Ghosts K) (a b : K) (position : Position) (host none made : Text) (held holds : Option Text) (ending : Ending)
    (called : Result (ℕ × ℕ × Ending) WebFault)
    → none ≡ [] → SendsBatch keeper a b position host (Some none) (Some made) (Ok ending) → Appends held holds made
    → PushesOnce keeper a b position host held holds called
given keeper a b position host none made held holds ending called empty (inl (fails, same, keeps)) sent =
    absurd (let z : ◌≡◌ {A = Result Ending WebFault} (Ok ending) (Err fault.Memory) = fails in cc)
given keeper a b position host none made held holds ending called empty (inr (said, served, inl (batch, is, wrote, ends))) sent =
    inr (said, served, inr (batch, is, sent_whole none made (push_request host (batch_text batch)) held holds empty wrote sent))
given keeper a b position host none made held holds ending called empty (inr (said, served, inr (nothing, keeps))) sent = absurd nothing

-- ---- a pull

-- the replica was asked for its position, and the call fails with no other change
pull_fails : {K : Type 0} (keeper : Ghosts K) (a b : K) (host : Text) (was will held holds : Option Text) (asked : Result (Unit {0}) WebFault) (e : WebFault)
    (result : Result Round WebFault) (Asks : Replica → Result (Unit {0}) WebFault → Replica → Type 0)
    → IsExchanged keeper a b asked Asks (Reaches (keeper.tables a) AskPosition) → SendsPosition keeper a b host was will asked
    → ((x y : Replica) → Asks x asked y → Pulls host held holds None x (Err e) y) → result ≡ Err e → RunsRound keeper Pull a result b
pull_fails keeper a b host was will held holds asked e result Asks gave once fails told =
    let before = keeper.tables a in
    let Q = Pulls host held holds None in
    let failed = onward keeper a b asked (Err e) Asks Q (Reaches before AskPosition) gave (λ L l. tt) fails in
    inr (
      host,
      held,
      holds,
      None,
      Err e,
      reached keeper a b (Err e) Q (Reaches before AskPosition) (ReachesByPull before) failed (λ t r. inl r),
      told,
      unreceived keeper a b host was will held holds None asked (Err e) once refl,
    )

-- no request was made
pub pull_unmade : {K : Type 0} (keeper : Ghosts K) (a b : K) (host : Text) (held holds : Option Text) (e : WebFault) (result : Result Round WebFault)
    → IsExchanged keeper a b (Err e) (AsksPull host held holds) (Reaches (keeper.tables a) AskPosition) → SendsPosition keeper a b host held holds (Err e)
    → IsAskFault e → result ≡ Err e → RunsRound keeper Pull a result b
pull_unmade keeper a b host held holds e result gave once is told =
    pull_fails keeper a b host held holds held holds (Err e) e result (AsksPull host held holds) gave once
    (λ x y h.
    let request = pull_request host (position_text (position_of x)) in
    let f = failed_as (Unit {0}) (ℕ × ℕ × Ending) x AskPosition request held holds e h.1 h.2 in (
      h.0,
      ask_failed (Unit {0}) (ℕ × ℕ × Ending) x AskPosition request held holds e (TakesReply None x (Err e) y) is h.1 h.2,
      inl (refl, f.0, h.0),
    ))
    told

-- a request was made, and there is no connection
pub pull_unsent : {K : Type 0} (keeper : Ghosts K) (a b : K) (host : Text) (held holds : Option Text) (result : Result Round WebFault)
    → IsExchanged keeper a b (Ok tt) (AsksPull host held holds) (Reaches (keeper.tables a) AskPosition) → SendsPosition keeper a b host held holds (Ok tt)
    → result ≡ Err fault.Read → RunsRound keeper Pull a result b
pull_unsent keeper a b host held holds result gave once told =
    pull_fails keeper a b host held holds held holds (Ok tt) fault.Read result (AsksPull host held holds) gave once
    (λ x y h. (h.0, inr (h.2, h.0), inl (refl, tt, h.0))) told

-- a request was made and sent, and the reply to it was taken
pub pull_sent : {K : Type 0} (keeper : Ghosts K) (a m b : K) (host none made : Text) (held holds known : Option Text) (result : Result Round WebFault)
    → none ≡ [] → IsExchanged keeper a m (Ok tt) (AsksPull host (Some none) (Some made)) (Reaches (keeper.tables a) AskPosition)
    → SendsPosition keeper a m host (Some none) (Some made) (Ok tt) → PullsOver keeper m b made held holds known result → RunsRound keeper Pull a result b
pull_sent keeper a m b host none made held holds known result empty gave once (inl ((told, n, few, sent), same)) =
    let R = Reaches (keeper.tables a) AskPosition in
    pull_fails keeper a b host (Some none) (Some made) held holds (Ok tt) fault.Write result (AsksPull host (Some none) (Some made))
    (subst (λ x. IsExchanged keeper a x (Ok tt) (AsksPull host (Some none) (Some made)) R) (sym same) gave)
    (subst (λ x. SendsPosition keeper a x host (Some none) (Some made) (Ok tt)) (sym same) once)
    (λ x y h.
    let request = pull_request host (position_text (position_of x)) in
    (h.0, inl (tt, tt, sent_part none made request held holds n empty h.2 few sent), inl (refl, tt, h.0)))
    told
pull_sent keeper a m b host none made held holds known result empty gave once (inr (sent, called, took, comes, received_once)) =
    let before = keeper.tables a in
    let between = keeper.tables m in
    inr (
      host,
      held,
      holds,
      known,
      called,
      both keeper a m b tt called (AsksPull host (Some none) (Some made)) (TakesPulled known) (Pulls host held holds known)
          (Reaches before AskPosition) (TakesBody between) (ReachesByPull before) gave took
          (λ x y z h t.
          let whole = sent_whole none made (pull_request host (position_text (position_of x))) held holds empty h.2 sent in
          pulls_behind host held holds known x y z called h.0 whole t)
          (λ t r. inl r)
          (λ stands t r. inr (r.0, body_behind before between t r.0 (λ x is. let s = stands x is in subst (Stands between) s.2.0 s.1) r.1)),
      comes,
      received keeper a m b host none made held holds known called empty once sent received_once,
    )

-- ---- a push

-- no request was made
pub push_unmade : {K : Type 0} (keeper : Ghosts K) (a b : K) (position : Position) (host : Text) (held holds : Option Text) (e : WebFault)
    (result : Result Round WebFault)
    → IsExchanged keeper a b (Err e) (AsksPush position host held holds) (Reaches (keeper.tables a) (lacking position))
    → SendsBatch keeper a b position host held holds (Err e) → IsAskFault e → result ≡ Err e → RunsRound keeper Push a result b
push_unmade keeper a b position host held holds e result gave once is told =
    let R = Reaches (keeper.tables a) (lacking position) in
    inr (
      position,
      host,
      held,
      holds,
      None,
      Err e,
      onward keeper a b (Err e) (Err e) (AsksPush position host held holds) (Pushes position host held holds None) R gave (λ L l. tt)
          (λ x y h.
          let made = batch_of x position lines_over_http in (
            h.0,
            ask_failed Ending (ℕ × ℕ × Ending) x (lacking position) (push_request host (batch_text made)) held holds e
                (TellsTook None made.ending (Err e) × GivesBatch x position) is h.1 h.2,
            given_so Ending (ℕ × ℕ × Ending) x position e h.4,
          )),
      told,
      ungiven keeper a b position host held holds held holds (Err e) (Err e) once refl,
    )

-- a request was made and sent, and these counts were told
push_told : {K : Type 0} (keeper : Ghosts K) (a b : K) (position : Position) (host none made : Text) (held holds known : Option Text) (ending : Ending)
    (counts : Result (ℕ × ℕ) WebFault) (result : Result Round WebFault)
    → none ≡ [] → IsExchanged keeper a b (Ok ending) (AsksPush position host (Some none) (Some made)) (Reaches (keeper.tables a) (lacking position))
    → SendsBatch keeper a b position host (Some none) (Some made) (Ok ending)
    → Appends held holds made → TellsAsRead told_took known counts → Brings counts ending result → RunsRound keeper Push a result b
push_told keeper a b position host none made held holds known ending (Ok counts) result empty gave once sent told brings =
    let took : ℕ × ℕ × Ending = (counts.0, counts.1, ending) in
    inr (
      position,
      host,
      held,
      holds,
      known,
      Ok took,
      onward keeper a b (Ok ending) (Ok took) (AsksPush position host (Some none) (Some made)) (Pushes position host held holds known)
          (Reaches (keeper.tables a) (lacking position)) gave (λ L l. l)
          (λ x y h.
          let request = push_request host (batch_text (batch_of x position lines_over_http)) in
          (h.0, inr (sent_whole none made request held holds empty h.2 sent, ((Ok counts, told, (refl, refl, h.3)), h.4)), h.4)),
      brings,
      given keeper a b position host none made held holds ending (Ok took) empty once sent,
    )
push_told keeper a b position host none made held holds known ending (Err e) result empty gave once sent told brings =
    inr (
      position,
      host,
      held,
      holds,
      known,
      Err e,
      onward keeper a b (Ok ending) (Err e) (AsksPush position host (Some none) (Some made)) (Pushes position host held holds known)
          (Reaches (keeper.tables a) (lacking position)) gave (λ L l. tt)
          (λ x y h.
          let request = push_request host (batch_text (batch_of x position lines_over_http)) in
          (h.0, inr (sent_whole none made request held holds empty h.2 sent, ((Err e, told, refl), h.4)), begun (ℕ × ℕ × Ending) x position e h.4)),
      brings,
      given keeper a b position host none made held holds ending (Err e) empty once sent,
    )

-- a request was made, and there is no connection
pub push_unsent : {K : Type 0} (keeper : Ghosts K) (a b : K) (position : Position) (host none made : Text) (ending : Ending) (result : Result Round WebFault)
    → none ≡ [] → IsExchanged keeper a b (Ok ending) (AsksPush position host (Some none) (Some made)) (Reaches (keeper.tables a) (lacking position))
    → SendsBatch keeper a b position host (Some none) (Some made) (Ok ending) → result ≡ Err fault.Read → RunsRound keeper Push a result b
push_unsent keeper a b position host none made ending result empty gave once told =
    push_told keeper a b position host none made (Some []) (Some made) None ending (Err fault.Read) result empty gave once refl tt told

-- a request was made and sent, and the reply to it was taken
pub push_sent : {K : Type 0} (keeper : Ghosts K) (a b : K) (position : Position) (host none made : Text) (held holds known : Option Text) (ending : Ending)
    (result : Result Round WebFault)
    → none ≡ [] → IsExchanged keeper a b (Ok ending) (AsksPush position host (Some none) (Some made)) (Reaches (keeper.tables a) (lacking position))
    → SendsBatch keeper a b position host (Some none) (Some made) (Ok ending) → PushesOver made ending held holds known result → RunsRound keeper Push a result b
push_sent keeper a b position host none made held holds known ending result empty gave once (inl (told, n, few, sent)) =
    inr (
      position,
      host,
      held,
      holds,
      None,
      Err fault.Write,
      onward keeper a b (Ok ending) (Err fault.Write) (AsksPush position host (Some none) (Some made)) (Pushes position host held holds None)
          (Reaches (keeper.tables a) (lacking position)) gave (λ L l. tt)
          (λ x y h.
          let request = push_request host (batch_text (batch_of x position lines_over_http)) in
          (h.0, inl (tt, tt, sent_part none made request held holds n empty h.2 few sent), h.4)),
      told,
      ungiven keeper a b position host (Some none) (Some made) held holds (Ok ending) (Err fault.Write) once refl,
    )
push_sent keeper a b position host none made held holds known ending result empty gave once (inr (sent, counts, told, brings)) =
    push_told keeper a b position host none made held holds known ending counts result empty gave once sent told brings
