use Rattle.std.proofs.Common.{inl, inr, ℕ, List, refl, sym, subst, Result}
use Rattle.mr_peer.specs.OnceAsked.{TellsCounts}
use Rattle.mr_peer.proofs.OnceLemmas.{counts_once}
use Rattle.std.specs.Prelude.{IfErr}
use Rattle.mr_model.specs.Step.{Receive, IsStep}
use Rattle.mr_http.specs.declared.faults.WebFault.{WebFault}
use Rattle.mr_http.specs.declared.faults.WebFault.TheVariants.{Memory}
use Rattle.mr_service.specs.Asked.{reply_of}
use Rattle.mr_peer.specs.Exchanged.{IsExchanged}
use Rattle.mr_peer.specs.Seen.{counts_seen}
use Rattle.mr_peer.specs.ExchangeSteps.{KeepsTables, TakesBody}
use Rattle.mr_peer.specs.PeerTaking.{CountsTaken, IsOwnFault}
use Rattle.mr_peer.proofs.Exchanges.{of_served, untouched}
use Rattle.mr_peer.proofs.FaultLemmas.{counts_faults, counts_leave}
use Rattle.mr_peer.proofs.TakeLemmas.{counts, counts_told}
use Rattle.mr_peer.proofs.pulls.receive.Goals as goal

pub returns-in_default-clause-exchanged : goal.returns-in_default-clause-exchanged
returns-in_default-clause-exchanged g c =
    let old = c.args.service.now in
    untouched g.K.Keeper old Memory (CountsTaken c.args.body.now) (TakesBody (g.K.Keeper.tables old)) (λ a. refl)

pub returns-clause-exchanged : goal.returns-clause-exchanged
returns-clause-exchanged g c =
    let body = c.args.body.now in
    let old = c.args.service.now in
    let new = c.reply_to-reply.new.service in
    let bytes = c.in-Ok.bytes.items in
    let reply = c.reply_to-reply.result in
    let R = TakesBody (g.K.Keeper.tables old) in
    let P : Result (ℕ × ℕ) WebFault → Type 0 = λ r. IsExchanged g.K.Keeper old new r (CountsTaken body) R in
    subst P (sym c.counts_in.ensures)
    (of_served g.K.Keeper old new (Receive bytes) (reply_of reply) (counts_seen reply) (CountsTaken body) R c.reply_to-reply.ensures
    (λ a b is. counts a body reply b (subst (λ (l : List ℕ). IsStep a (Receive l) (reply_of reply) b) c.in-Ok.ensures.items is))
    (counts_told reply) (λ t r. (bytes, r)))

pub returns-clause-fault : goal.returns-clause-fault
returns-clause-fault g c =
    subst (λ (r : Result (ℕ × ℕ) WebFault). IfErr r IsOwnFault) (sym c.counts_in.ensures) (counts_faults c.reply_to-reply.result)

pub returns-clause-leaves : goal.returns-clause-leaves
returns-clause-leaves g c =
    let old = c.args.service.now in
    let new = c.reply_to-reply.new.service in
    subst (λ (r : Result (ℕ × ℕ) WebFault). IfErr r (KeepsTables g.K.Keeper old new)) (sym c.counts_in.ensures)
    (counts_leave g.K.Keeper old new c.reply_to-reply.result c.reply_to-reply.ensures.refused)

pub returns-in_default-clause-once : goal.returns-in_default-clause-once
returns-in_default-clause-once g c = inl (refl, refl)

pub returns-clause-once : goal.returns-clause-once
returns-clause-once g c =
    let reply = c.reply_to-reply.result in
    inr (
      c.in-Ok.bytes.items,
      reply_of reply,
      c.reply_to-reply.ensures,
      c.in-Ok.ensures.items,
      subst (λ (r : Result (ℕ × ℕ) WebFault). TellsCounts (reply_of reply) r) (sym c.counts_in.ensures) (counts_once reply),
    )
