use Rattle.std.proofs.Common.{◌∙◌, inl, inr, ℕ, refl, sym, ap, subst, Result, Ok, Err}
use Rattle.std.proofs.lemmas.Result.{err_from_is_err_and}
use Rattle.mr_model.specs.Positions.{position_of, position_text}
use Rattle.mr_model.specs.Serving.{Reaches}
use Rattle.mr_model.specs.Step.{AskPosition}
use Rattle.mr_model.specs.Tables.{Stands}
use Rattle.mr_base.specs.declared.batches.Ending.{Ending}
use Rattle.mr_http.specs.declared.faults.WebFault.{WebFault}
use Rattle.mr_peer.specs.PeerAsking.{AsksPull}
use Rattle.mr_peer.specs.Exchanged.{IsExchanged}
use Rattle.mr_peer.specs.PeerRequests.{pull_request}
use Rattle.mr_peer.specs.Rounds.{Pulls}
use Rattle.mr_peer.specs.ExchangeSteps.{ReachesByPull, TakesBody, TakesPulled}
use Rattle.mr_peer.specs.PeerTaking.{TakesReply}
use Rattle.mr_peer.proofs.AskLemmas.{ask_failed, failed_as}
use Rattle.mr_peer.proofs.Exchanges.{both, onward, reached}
use Rattle.mr_peer.proofs.RoundEffects.{pulls_behind, body_behind}
use Rattle.mr_peer.proofs.OnceLemmas.{position_sent}
use Rattle.mr_peer.proofs.rounds.pull.Goals as goal

-- the ask failed
pub returns-in_err-pull_ask-clause-exchanged : goal.returns-in_err-pull_ask-clause-exchanged
returns-in_err-pull_ask-clause-exchanged g c =
    let host = c.args.host.now in
    let old = c.args.service.now in
    let new = c.pull_ask.new.service in
    let held = g.W.Write.contents c.args.writer.now in
    let holds = g.W.Write.contents c.pull_ask.new.writer in
    let known = g.R.Read.remaining c.args.reader.now in
    let before = g.K.Keeper.tables old in
    let e = c.in_err-pull_ask.field-0.0 in
    let p = err_from_is_err_and c.from_residual.result c.from_residual.ensures.1 in
    let Q = Pulls host held holds known in
    let P : Result (ℕ × ℕ × Ending) WebFault → Type 0 = λ r. IsExchanged g.K.Keeper old new r Q (ReachesByPull before) in
    subst P (sym (p.1 ∙ ap Err p.2))
    (reached g.K.Keeper old new (Err e) Q (Reaches before AskPosition) (ReachesByPull before)
    (onward g.K.Keeper old new (Err e) (Err e) (AsksPull host held holds) Q (Reaches before AskPosition) c.in_err-pull_ask.ensures.exchanged (λ L u. u)
    (λ a b h.
    let request = pull_request host (position_text (position_of a)) in
    let f = failed_as (Unit {0}) (ℕ × ℕ × Ending) a AskPosition request held holds e h.1 h.2 in (
      h.0,
      ask_failed (Unit {0}) (ℕ × ℕ × Ending) a AskPosition request held holds e (TakesReply known a (Err e) b) c.in_err-pull_ask.ensures.fault h.1 h.2,
      inl (refl, f.0, h.0),
    )))
    (λ t r. inl r))

pub returns-clause-exchanged : goal.returns-clause-exchanged
returns-clause-exchanged g c =
    let host = c.args.host.now in
    let old = c.args.service.now in
    let asked = c.pull_ask.new.service in
    let held = g.W.Write.contents c.args.writer.now in
    let holds = g.W.Write.contents c.pull_ask.new.writer in
    let known = g.R.Read.remaining c.args.reader.now in
    let before = g.K.Keeper.tables old in
    let between = g.K.Keeper.tables asked in
    both g.K.Keeper old asked c.pull_take.new.service tt c.pull_take.result (AsksPull host held holds) (TakesPulled known) (Pulls host held holds known)
    (Reaches before AskPosition) (TakesBody between) (ReachesByPull before) c.in_ok-pull_ask.ensures.exchanged c.pull_take.ensures.exchanged
    (λ a b d h t. pulls_behind host held holds known a b d c.pull_take.result h.0 h.2 t)
    (λ t r. inl r)
    (λ stands t r. inr (
      r.0,
      body_behind before between t r.0
          (λ a is. let s = stands a is in subst (Stands between) s.2.0 s.1) r.1,
    ))

-- ---- whatever this replica is

pub returns-in_err-pull_ask-clause-tells : goal.returns-in_err-pull_ask-clause-tells
returns-in_err-pull_ask-clause-tells g c =
    let p = err_from_is_err_and c.from_residual.result c.from_residual.ensures.1 in
    let e = c.in_err-pull_ask.field-0.0 in
    let held = g.W.Write.contents c.args.writer.now in
    let holds = g.W.Write.contents c.pull_ask.new.writer in
    let sends = position_sent g.K.Keeper c.args.service.now c.pull_ask.new.service c.args.host.now held holds (Err e) c.in_err-pull_ask.ensures.once in
    (Err e, sends, p.1 ∙ ap Err p.2)

pub returns-clause-tells : goal.returns-clause-tells
returns-clause-tells g c =
    let held = g.W.Write.contents c.args.writer.now in
    let holds = g.W.Write.contents c.pull_ask.new.writer in
    let sends = position_sent g.K.Keeper c.args.service.now c.pull_ask.new.service c.args.host.now held holds (Ok tt) c.in_ok-pull_ask.ensures.once in
    (Ok tt, sends, c.pull_take.ensures.tells)
