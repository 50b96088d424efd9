use Rattle.std.proofs.Common.{◌∙◌, inr, ℕ, refl, sym, ap, subst, Result, Ok, Err}
use Rattle.std.proofs.lemmas.Result.{err_from_is_err_and}
use Rattle.mr_model.specs.Exchange.{batch_text}
use Rattle.mr_model.specs.Http.{lines_over_http}
use Rattle.mr_model.specs.Serving.{Reaches}
use Rattle.mr_model.specs.Step.{batch_of}
use Rattle.mr_base.specs.Batches.{ending_seen}
use Rattle.mr_base.specs.declared.batches.Ending.{Ending}
use Rattle.mr_http.specs.declared.faults.WebFault.{WebFault}
use Rattle.mr_peer.specs.PeerAsking.{GivesBatch, AsksPush, lacking}
use Rattle.mr_peer.specs.Exchanged.{IsExchanged}
use Rattle.mr_peer.specs.PeerRequests.{push_request}
use Rattle.mr_peer.specs.Rounds.{Pushes, TellsTook}
use Rattle.mr_peer.proofs.AskLemmas.{ask_failed, begun, given_so}
use Rattle.mr_peer.proofs.Exchanges.{onward}
use Rattle.mr_peer.proofs.OnceLemmas.{batch_sent}
use Rattle.mr_peer.proofs.rounds.push.Goals as goal

-- the ask failed
pub returns-in_err-ending-clause-exchanged : goal.returns-in_err-ending-clause-exchanged
returns-in_err-ending-clause-exchanged g c =
    let host = c.args.host.now in
    let position = c.args.position.now in
    let old = c.args.service.now in
    let new = c.push_ask.new.service in
    let held = g.W.Write.contents c.args.writer.now in
    let holds = g.W.Write.contents c.push_ask.new.writer in
    let known = g.R.Read.remaining c.args.reader.now in
    let e = c.in_err-ending.field-0.0 in
    let p = err_from_is_err_and c.from_residual.result c.from_residual.ensures.1 in
    let Q = Pushes position host held holds known in
    let R = Reaches (g.K.Keeper.tables old) (lacking position) in
    let P : Result (ℕ × ℕ × Ending) WebFault → Type 0 = λ r. IsExchanged g.K.Keeper old new r Q R in
    subst P (sym (p.1 ∙ ap Err p.2))
    (onward g.K.Keeper old new (Err e) (Err e) (AsksPush position host held holds) Q R c.in_err-ending.ensures.exchanged (λ L u. u)
    (λ a b h.
    let made = batch_of a position lines_over_http in (
      h.0,
      ask_failed Ending (ℕ × ℕ × Ending) a (lacking position) (push_request host (batch_text made)) held holds e
          (TellsTook known made.ending (Err e) × GivesBatch a position) c.in_err-ending.ensures.fault h.1 h.2,
      given_so Ending (ℕ × ℕ × Ending) a position e h.4,
    )))

-- the peer's reply was not taken
pub returns-in_err-writes-clause-exchanged : goal.returns-in_err-writes-clause-exchanged
returns-in_err-writes-clause-exchanged g c =
    let host = c.args.host.now in
    let position = c.args.position.now in
    let old = c.args.service.now in
    let new = c.push_ask.new.service in
    let held = g.W.Write.contents c.args.writer.now in
    let holds = g.W.Write.contents c.push_ask.new.writer in
    let known = g.R.Read.remaining c.args.reader.now in
    let e = c.in_err-writes.field-0.0 in
    let p = err_from_is_err_and c.from_residual-in_err-writes.result c.from_residual-in_err-writes.ensures.1 in
    let Q = Pushes position host held holds known in
    let R = Reaches (g.K.Keeper.tables old) (lacking position) in
    let P : Result (ℕ × ℕ × Ending) WebFault → Type 0 = λ r. IsExchanged g.K.Keeper old new r Q R in
    subst P (sym (p.1 ∙ ap Err p.2))
    (onward g.K.Keeper old new (Ok c.in_ok-ending.ending) (Err e) (AsksPush position host held holds) Q R c.in_ok-ending.ensures.exchanged (λ L l. tt)
    (λ a b h. (h.0, inr (h.2, ((Err e, c.in_err-writes.ensures.tells, refl), h.4)), begun (ℕ × ℕ × Ending) a position e h.4)))

pub returns-clause-exchanged : goal.returns-clause-exchanged
returns-clause-exchanged g c =
    let host = c.args.host.now in
    let position = c.args.position.now in
    let old = c.args.service.now in
    let held = g.W.Write.contents c.args.writer.now in
    let holds = g.W.Write.contents c.push_ask.new.writer in
    let known = g.R.Read.remaining c.args.reader.now in
    let counts : ℕ × ℕ = (c.in_ok-writes.writes, c.in_ok-writes.commits) in
    let took : ℕ × ℕ × Ending = (c.in_ok-writes.writes, c.in_ok-writes.commits, c.in_ok-ending.ending) in
    onward g.K.Keeper old c.push_ask.new.service (Ok c.in_ok-ending.ending) (Ok took) (AsksPush position host held holds)
    (Pushes position host held holds known) (Reaches (g.K.Keeper.tables old) (lacking position)) c.in_ok-ending.ensures.exchanged (λ L l. l)
    (λ a b h. (h.0, inr (h.2, ((Ok counts, c.in_ok-writes.ensures.tells, (refl, refl, h.3)), h.4)), h.4))

-- ---- whatever this replica is

pub returns-in_err-ending-clause-tells : goal.returns-in_err-ending-clause-tells
returns-in_err-ending-clause-tells g c =
    let p = err_from_is_err_and c.from_residual.result c.from_residual.ensures.1 in
    let e = c.in_err-ending.field-0.0 in
    let held = g.W.Write.contents c.args.writer.now in
    let holds = g.W.Write.contents c.push_ask.new.writer in
    let sends = batch_sent g.K.Keeper c.args.service.now c.push_ask.new.service c.args.position.now c.args.host.now held holds (Err e) c.in_err-ending.ensures.once in
    (Err e, sends, p.1 ∙ ap Err p.2)

pub returns-in_err-writes-clause-tells : goal.returns-in_err-writes-clause-tells
returns-in_err-writes-clause-tells g c =
    let known = g.R.Read.remaining c.args.reader.now in
    let e = c.in_err-writes.field-0.0 in
    let p = err_from_is_err_and c.from_residual-in_err-writes.result c.from_residual-in_err-writes.ensures.1 in
    let T : Result (ℕ × ℕ × Ending) WebFault → Type 0 = λ r. TellsTook known (ending_seen c.in_ok-ending.ending) r in
    let held = g.W.Write.contents c.args.writer.now in
    let holds = g.W.Write.contents c.push_ask.new.writer in
    let sends = batch_sent g.K.Keeper c.args.service.now c.push_ask.new.service c.args.position.now c.args.host.now held holds (Ok c.in_ok-ending.ending) c.in_ok-ending.ensures.once in
    (Ok c.in_ok-ending.ending, sends, subst T (sym (p.1 ∙ ap Err p.2)) (Err e, c.in_err-writes.ensures.tells, refl))

pub returns-clause-tells : goal.returns-clause-tells
returns-clause-tells g c =
    let counts : ℕ × ℕ = (c.in_ok-writes.writes, c.in_ok-writes.commits) in
    let held = g.W.Write.contents c.args.writer.now in
    let holds = g.W.Write.contents c.push_ask.new.writer in
    let sends = batch_sent g.K.Keeper c.args.service.now c.push_ask.new.service c.args.position.now c.args.host.now held holds (Ok c.in_ok-ending.ending) c.in_ok-ending.ensures.once in
    (Ok c.in_ok-ending.ending, sends, (Ok counts, c.in_ok-writes.ensures.tells, (refl, refl, refl)))
