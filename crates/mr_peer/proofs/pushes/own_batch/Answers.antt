use Rattle.std.proofs.Common.{◌≡◌, inl, inr, ◌∙◌, ℕ, Vec, Global, refl, sym, ap, subst}
use Rattle.mr_model.specs.Texts.{Text}
use Rattle.mr_model.specs.Http.{lines_over_http}
use Rattle.mr_model.specs.Positions.{position_text}
use Rattle.mr_model.specs.Serving.{Reaches}
use Rattle.mr_model.specs.Step.{Command, BatchFor}
use Rattle.mr_model.proofs.BatchesReadBack.{ok_inj}
use Rattle.mr_base.specs.Batches.{ending_seen}
use Rattle.mr_base.specs.declared.batches.Ending.{Ending}
use Rattle.mr_http.specs.declared.faults.WebFault.TheVariants.{Memory}
use Rattle.mr_service.specs.Asked.{reply_of}
use Rattle.mr_service.specs.Served.{IsServed}
use Rattle.mr_peer.specs.PeerAsking.{HandsBatch, IsBatchWith, lacking}
use Rattle.mr_peer.proofs.AskLemmas.{batch_handed, batch_told, reads_faults}
use Rattle.mr_peer.proofs.Exchanges.{of_served, untouched}
use Rattle.mr_peer.proofs.pushes.own_batch.Goals as goal

pub returns-in_default-clause-exchanged : goal.returns-in_default-clause-exchanged
returns-in_default-clause-exchanged g c =
    let old = c.args.service.now in
    let position = c.args.position.now in
    untouched g.K.Keeper old Memory (HandsBatch position) (Reaches (g.K.Keeper.tables old) (lacking position)) (λ a. (refl, tt))

pub returns-clause-exchanged : goal.returns-clause-exchanged
returns-clause-exchanged g c =
    let old = c.args.service.now in
    let new = c.reply_to-reply.new.service in
    let reply = reply_of c.reply_to-reply.result in
    let position = c.args.position.now in
    let result = c.batch_in.result in
    let text_of : Vec ℕ Global × Ending → Text = λ x. x.0.items in
    let text : c.in-Ok.text.items ≡ position_text position = sym (ok_inj (position_text position) c.in-Ok.text.items c.in-Ok.ensures.exact) in
    let P : Command → Type 0 = λ command. IsServed g.K.Keeper old new command reply in
    let served = subst P (c.batch_for.ensures ∙ ap (λ (t : Text). BatchFor t lines_over_http) text) c.reply_to-reply.ensures in
    of_served g.K.Keeper old new (lacking position) reply result (HandsBatch position) (Reaches (g.K.Keeper.tables old) (lacking position)) served
    (batch_handed text_of (λ x. ending_seen x.1) reply position lines_over_http result c.is_within_limits.ensures c.batch_in.ensures)
    (batch_told text_of (λ x. ending_seen x.1) reply result c.batch_in.ensures) (λ t r. r)

pub returns-clause-fault : goal.returns-clause-fault
returns-clause-fault g c =
    let reply = reply_of c.reply_to-reply.result in
    let P : Vec ℕ Global × Ending → Type 0 = λ x. IsBatchWith reply x.0.items (ending_seen x.1) in
    reads_faults reply P c.batch_in.result c.batch_in.ensures

-- ---- what was asked, once

pub returns-in_default-clause-once : goal.returns-in_default-clause-once
returns-in_default-clause-once g c = inl (refl, refl)

pub returns-clause-once : goal.returns-clause-once
returns-clause-once g c =
    let old = c.args.service.now in
    let new = c.reply_to-reply.new.service in
    let reply = reply_of c.reply_to-reply.result in
    let position = c.args.position.now in
    let text : c.in-Ok.text.items ≡ position_text position = sym (ok_inj (position_text position) c.in-Ok.text.items c.in-Ok.ensures.exact) in
    let P : Command → Type 0 = λ command. IsServed g.K.Keeper old new command reply in
    let served = subst P (c.batch_for.ensures ∙ ap (λ (t : Text). BatchFor t lines_over_http) text) c.reply_to-reply.ensures in
    inr (reply, served, c.batch_in.ensures)
