use Rattle.std.proofs.Common.{◌≡◌, ◌∙◌, ℕ, Vec, Global, sym, ap, subst, Result, Ok, Err}
use Rattle.std.specs.Io.KnownBytes.{Appends}
use Rattle.std.proofs.lemmas.Result.{err_from_is_err_and}
use Rattle.mr_model.specs.Texts.{Text}
use Rattle.mr_model.specs.Exchange.{batch_text}
use Rattle.mr_model.specs.Http.{lines_over_http}
use Rattle.mr_model.specs.Serving.{Reaches}
use Rattle.mr_model.specs.Step.{batch_of}
use Rattle.mr_base.specs.Batches.{ending_seen}
use Rattle.mr_base.specs.declared.batches.Ending.{Ending}
use Rattle.mr_http.specs.declared.faults.WebFault.{WebFault}
use Rattle.mr_peer.specs.PeerAsking.{GivesBatch, Wrote, AsksPush, HandsBatch, IsAskFault, lacking}
use Rattle.mr_peer.specs.Exchanged.{IsExchanged}
use Rattle.mr_peer.specs.OnceAsked.{SendsBatch}
use Rattle.mr_peer.specs.PeerRequests.{push_request}
use Rattle.mr_peer.proofs.AskLemmas.{begun, own_asks, unsent, unwritten, sent_short, wrote_as}
use Rattle.mr_peer.proofs.Exchanges.{onward}
use Rattle.mr_peer.proofs.FaultLemmas.{handed_on}
use Rattle.mr_peer.proofs.OnceLemmas.{sent_once, unsent_once}
use Rattle.mr_peer.proofs.pushes.push_ask.Goals as goal

-- this replica handed out no batch
pub returns-in_err-text-clause-exchanged : goal.returns-in_err-text-clause-exchanged
returns-in_err-text-clause-exchanged g c =
    let host = c.args.host.now in
    let position = c.args.position.now in
    let old = c.args.service.now in
    let new = c.own_batch.new.service in
    let held = g.W.Write.contents c.args.writer.now in
    let e = c.in_err-text.field-0.0 in
    let p = err_from_is_err_and c.from_residual.result c.from_residual.ensures.1 in
    let R = Reaches (g.K.Keeper.tables old) (lacking position) in
    let P : Result Ending WebFault → Type 0 = λ r. IsExchanged g.K.Keeper old new r (AsksPush position host held held) R in
    subst P (sym (p.1 ∙ ap Err p.2))
    (onward g.K.Keeper old new (Err e) (Err e) (HandsBatch position) (AsksPush position host held held) R c.in_err-text.ensures.exchanged (λ L u. u)
    (λ a b h.
    let made = batch_of a position lines_over_http in
    let n = unsent (Vec ℕ Global × Ending) Ending a (lacking position) (λ x. (x.0.items ≡ batch_text made) × (ending_seen x.1 ≡ made.ending) × GivesBatch a position)
    (push_request host (batch_text made)) held e h.1 in
    (h.0, n.0, n.1, tt, unwritten Ending a position e c.in_err-text.ensures.fault)))

-- a write failed, or memory ran out before it
pub returns-in_err-ask_full-clause-exchanged : goal.returns-in_err-ask_full-clause-exchanged
returns-in_err-ask_full-clause-exchanged g c =
    let host = c.args.host.now in
    let position = c.args.position.now in
    let old = c.args.service.now in
    let new = c.own_batch.new.service in
    let held = g.W.Write.contents c.args.writer.now in
    let holds = g.W.Write.contents c.ask_full.new.writer in
    let e = c.in_err-ask_full.field-0.0 in
    let p = err_from_is_err_and c.from_residual-in_err-ask_full.result c.from_residual-in_err-ask_full.ensures.1 in
    let R = Reaches (g.K.Keeper.tables old) (lacking position) in
    let P : Result Ending WebFault → Type 0 = λ r. IsExchanged g.K.Keeper old new r (AsksPush position host held holds) R in
    let W : Text → Type 0 = λ body. Wrote {X = Unit {0}} (push_request host body) held holds (Err e) in
    subst P (sym (p.1 ∙ ap Err p.2))
    (onward g.K.Keeper old new (Ok (c.in_ok-text.text, c.in_ok-text.ending)) (Err e) (HandsBatch position) (AsksPush position host held holds) R
    c.in_ok-text.ensures.exchanged (λ L l. tt)
    (λ a b h.
    let n = sent_short (Unit {0}) Ending a (lacking position) (push_request host (batch_text (batch_of a position lines_over_http))) held holds e
    c.in_err-ask_full.ensures.fault (subst W (c.as_slice.ensures.value ∙ h.1.0) c.in_err-ask_full.ensures.wrote) in
    (h.0, n.0, n.1, tt, begun Ending a position e h.1.2)))

pub returns-clause-exchanged : goal.returns-clause-exchanged
returns-clause-exchanged g c =
    let host = c.args.host.now in
    let position = c.args.position.now in
    let old = c.args.service.now in
    let held = g.W.Write.contents c.args.writer.now in
    let holds = g.W.Write.contents c.ask_full.new.writer in
    let W : Text → Type 0 = λ body. Appends held holds (push_request host body) in
    onward g.K.Keeper old c.own_batch.new.service (Ok (c.in_ok-text.text, c.in_ok-text.ending)) (Ok c.in_ok-text.ending) (HandsBatch position)
    (AsksPush position host held holds) (Reaches (g.K.Keeper.tables old) (lacking position)) c.in_ok-text.ensures.exchanged (λ L l. l)
    (λ a b h. (h.0, tt, subst W (c.as_slice.ensures.value ∙ h.1.0) c.in_ok-ask_full.ensures.wrote, h.1.1, h.1.2))

pub returns-in_err-text-clause-fault : goal.returns-in_err-text-clause-fault
returns-in_err-text-clause-fault g c =
    let e = c.in_err-text.field-0.0 in
    handed_on IsAskFault e c.from_residual.result (own_asks e c.in_err-text.ensures.fault) c.from_residual.ensures.1

-- ---- what was asked, once

pub returns-in_err-text-clause-once : goal.returns-in_err-text-clause-once
returns-in_err-text-clause-once g c =
    let old = c.args.service.now in
    let new = c.own_batch.new.service in
    let position = c.args.position.now in
    let held = g.W.Write.contents c.args.writer.now in
    let e = c.in_err-text.field-0.0 in
    let p = err_from_is_err_and c.from_residual.result c.from_residual.ensures.1 in
    let P : Result Ending WebFault → Type 0 = λ r. SendsBatch g.K.Keeper old new position c.args.host.now held held r in
    subst P (sym (p.1 ∙ ap Err p.2)) (unsent_once g.K.Keeper old new position c.args.host.now held e c.in_err-text.ensures.once)

pub returns-in_err-ask_full-clause-once : goal.returns-in_err-ask_full-clause-once
returns-in_err-ask_full-clause-once g c =
    let host = c.args.host.now in
    let old = c.args.service.now in
    let new = c.own_batch.new.service in
    let position = c.args.position.now in
    let held = g.W.Write.contents c.args.writer.now in
    let holds = g.W.Write.contents c.ask_full.new.writer in
    let e = c.in_err-ask_full.field-0.0 in
    let p = err_from_is_err_and c.from_residual-in_err-ask_full.result c.from_residual-in_err-ask_full.ensures.1 in
    let W : Text → Type 0 = λ body. Wrote {X = Unit {0}} (push_request host body) held holds (Err e) in
    let P : Result Ending WebFault → Type 0 = λ r. SendsBatch g.K.Keeper old new position host held holds r in
    subst P (sym (p.1 ∙ ap Err p.2))
    (sent_once g.K.Keeper old new position host held holds (c.in_ok-text.text, c.in_ok-text.ending) (Err e) c.in_ok-text.ensures.once
    (λ b is ends. (wrote_as (Unit {0}) Ending (push_request host (batch_text b)) held holds e (subst W (c.as_slice.ensures.value ∙ is) c.in_err-ask_full.ensures.wrote), tt)))

pub returns-clause-once : goal.returns-clause-once
returns-clause-once g c =
    let host = c.args.host.now in
    let held = g.W.Write.contents c.args.writer.now in
    let holds = g.W.Write.contents c.ask_full.new.writer in
    let W : Text → Type 0 = λ body. Appends held holds (push_request host body) in
    sent_once g.K.Keeper c.args.service.now c.own_batch.new.service c.args.position.now host held holds (c.in_ok-text.text, c.in_ok-text.ending) (Ok c.in_ok-text.ending)
    c.in_ok-text.ensures.once (λ b is ends. (subst W (c.as_slice.ensures.value ∙ is) c.in_ok-ask_full.ensures.wrote, ends))
