use Rattle.std.proofs.Common.{◌≡◌, ◌∙◌, inl, inr, ℕ, Vec, Global, sym, ap, subst, Result, Ok, Err}
use Rattle.std.proofs.KnownBytes.{Keeps-refl}
use Rattle.std.specs.Io.KnownBytes.{Appends}
use Rattle.std.proofs.lemmas.Result.{err_from_is_err_and}
use Rattle.mr_model.specs.Texts.{Text}
use Rattle.mr_model.specs.Positions.{position_of, position_text}
use Rattle.mr_model.specs.Serving.{Reaches}
use Rattle.mr_model.specs.Step.{AskPosition}
use Rattle.mr_http.specs.declared.faults.WebFault.{WebFault}
use Rattle.mr_peer.specs.PeerAsking.{Wrote, AsksPull, HandsPosition, IsAskFault}
use Rattle.mr_peer.specs.Exchanged.{IsExchanged}
use Rattle.mr_service.specs.Worlds.{IsPositionText}
use Rattle.mr_peer.specs.OnceAsked.{SendsPosition}
use Rattle.mr_peer.specs.PeerRequests.{pull_request}
use Rattle.mr_peer.proofs.AskLemmas.{own_asks, unsent, sent_short}
use Rattle.mr_peer.proofs.Exchanges.{onward}
use Rattle.mr_peer.proofs.FaultLemmas.{handed_on}
use Rattle.mr_peer.proofs.OnceLemmas.{fault_read}
use Rattle.mr_peer.proofs.pulls.pull_ask.Goals as goal

-- this replica handed out no position
pub returns-in_err-position-clause-exchanged : goal.returns-in_err-position-clause-exchanged
returns-in_err-position-clause-exchanged g c =
    let host = c.args.host.now in
    let old = c.args.service.now in
    let new = c.own_position.new.service in
    let held = g.W.Write.contents c.args.writer.now in
    let e = c.in_err-position.field-0.0 in
    let p = err_from_is_err_and c.from_residual.result c.from_residual.ensures.1 in
    let R = Reaches (g.K.Keeper.tables old) AskPosition in
    let P : Result (Unit {0}) WebFault → Type 0 = λ r. IsExchanged g.K.Keeper old new r (AsksPull host held held) R in
    subst P (sym (p.1 ∙ ap Err p.2))
    (onward g.K.Keeper old new (Err e) (Err e) HandsPosition (AsksPull host held held) R c.in_err-position.ensures.exchanged (λ L u. u)
    (λ a b h.
    let request = pull_request host (position_text (position_of a)) in
    let n = unsent (Vec ℕ Global) (Unit {0}) a AskPosition (λ v. v.items ≡ position_text (position_of a)) request held e h.1 in
    (h.0, n.0, n.1)))

-- a write failed, or memory ran out before it
pub returns-in_err-ask_full-clause-exchanged : goal.returns-in_err-ask_full-clause-exchanged
returns-in_err-ask_full-clause-exchanged g c =
    let host = c.args.host.now in
    let old = c.args.service.now in
    let new = c.own_position.new.service in
    let held = g.W.Write.contents c.args.writer.now in
    let holds = g.W.Write.contents c.ask_full.new.writer in
    let e = c.in_err-ask_full.field-0.0 in
    let p = err_from_is_err_and c.from_residual-in_err-ask_full.result c.from_residual-in_err-ask_full.ensures.1 in
    let R = Reaches (g.K.Keeper.tables old) AskPosition in
    let P : Result (Unit {0}) WebFault → Type 0 = λ r. IsExchanged g.K.Keeper old new r (AsksPull host held holds) R in
    let W : Text → Type 0 = λ body. Wrote {X = Unit {0}} (pull_request host body) held holds (Err e) in
    subst P (sym (p.1 ∙ ap Err p.2))
    (onward g.K.Keeper old new (Ok c.in_ok-position.position) (Err e) HandsPosition (AsksPull host held holds) R c.in_ok-position.ensures.exchanged (λ L u. tt)
    (λ a b h.
    let request = pull_request host (position_text (position_of a)) in
    let n = sent_short (Unit {0}) (Unit {0}) a AskPosition request held holds e c.in_err-ask_full.ensures.fault
    (subst W (c.as_slice.ensures.value ∙ h.1) c.in_err-ask_full.ensures.wrote) in
    (h.0, n.0, n.1)))

pub returns-clause-exchanged : goal.returns-clause-exchanged
returns-clause-exchanged g c =
    let host = c.args.host.now in
    let old = c.args.service.now in
    let held = g.W.Write.contents c.args.writer.now in
    let holds = g.W.Write.contents c.ask_full.new.writer in
    let W : Text → Type 0 = λ body. Appends held holds (pull_request host body) in
    onward g.K.Keeper old c.own_position.new.service (Ok c.in_ok-position.position) (Ok tt) HandsPosition (AsksPull host held holds)
    (Reaches (g.K.Keeper.tables old) AskPosition) c.in_ok-position.ensures.exchanged (λ L l. l)
    (λ a b h. (h.0, tt, subst W (c.as_slice.ensures.value ∙ h.1) c.in_ok-ask_full.ensures.wrote))

pub returns-in_err-position-clause-fault : goal.returns-in_err-position-clause-fault
returns-in_err-position-clause-fault g c =
    let e = c.in_err-position.field-0.0 in
    handed_on IsAskFault e c.from_residual.result (own_asks e c.in_err-position.ensures.fault) c.from_residual.ensures.1

-- ---- what was asked, once

pub returns-in_err-position-clause-once : goal.returns-in_err-position-clause-once
returns-in_err-position-clause-once g c =
    let held = g.W.Write.contents c.args.writer.now in
    let e = c.in_err-position.field-0.0 in
    let p = err_from_is_err_and c.from_residual.result c.from_residual.ensures.1 in
    let P : Result (Unit {0}) WebFault → Type 0 = λ r. SendsPosition g.K.Keeper c.args.service.now c.own_position.new.service c.args.host.now held held r in
    let (reply, served, reads) = c.in_err-position.ensures.once in
    subst P (sym (p.1 ∙ ap Err p.2))
    (reply, served, inr (fault_read (Vec ℕ Global) (Unit {0}) reply (λ v. IsPositionText reply v.items) e reads, Keeps-refl held))

pub returns-in_err-ask_full-clause-once : goal.returns-in_err-ask_full-clause-once
returns-in_err-ask_full-clause-once g c =
    let host = c.args.host.now in
    let held = g.W.Write.contents c.args.writer.now in
    let holds = g.W.Write.contents c.ask_full.new.writer in
    let e = c.in_err-ask_full.field-0.0 in
    let p = err_from_is_err_and c.from_residual-in_err-ask_full.result c.from_residual-in_err-ask_full.ensures.1 in
    let W : Text → Type 0 = λ body. Wrote {X = Unit {0}} (pull_request host body) held holds (Err e) in
    let P : Result (Unit {0}) WebFault → Type 0 = λ r. SendsPosition g.K.Keeper c.args.service.now c.own_position.new.service host held holds r in
    let (reply, served, (position, is, text)) = c.in_ok-position.ensures.once in
    subst P (sym (p.1 ∙ ap Err p.2)) (reply, served, inl (position, is, subst W (c.as_slice.ensures.value ∙ text) c.in_err-ask_full.ensures.wrote))

pub returns-clause-once : goal.returns-clause-once
returns-clause-once g c =
    let held = g.W.Write.contents c.args.writer.now in
    let holds = g.W.Write.contents c.ask_full.new.writer in
    let W : Text → Type 0 = λ body. Appends held holds (pull_request c.args.host.now body) in
    let (reply, served, (position, is, text)) = c.in_ok-position.ensures.once in
    (reply, served, inl (position, is, subst W (c.as_slice.ensures.value ∙ text) c.in_ok-ask_full.ensures.wrote))
