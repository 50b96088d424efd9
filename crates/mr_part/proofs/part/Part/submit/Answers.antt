use Rattle.std.proofs.Common.{◌≡◌, Err, IfOk, true, ap, sym, ◌∙◌, subst, inl, IsTrue}
use Rattle.std.specs.Prelude.{bytes_eq}
use Rattle.std.specs.List.{list_any}
use Rattle.std.proofs.lemmas.Result.{err_from_is_err_and}
use Rattle.mr_model.specs.Writes.{Id}
use Rattle.mr_model.specs.Requests.{Request, is_request}
use Rattle.mr_model.specs.Replica.{knows_room}
use Rattle.mr_model.specs.Step.{After}
use Rattle.mr_model.specs.Tables.{tables_of}
use Rattle.mr_tables.specs.Change.{ChangeView, changed}
use Rattle.mr_tables.specs.Summary.{stamp_next}
use Rattle.mr_part.specs.Answering.{reply_with}
use Rattle.mr_part.specs.Parts.{PartView}
use Rattle.mr_part.specs.Steps.{submit_request, outcome_in}
use Rattle.mr_part.proofs.Submitting.{Submits, submits}
use Rattle.mr_part.proofs.PartCalls.{part_submit}
use Rattle.mr_part.proofs.part.Part.submit.Goals as goal

pub returns-in_err-stamp-clause-step : goal.returns-in_err-stamp-clause-step
returns-in_err-stamp-clause-step c = λ a sound part.
    let p = err_from_is_err_and c.from_residual.result c.from_residual.ensures.1 in
    let q = c.args.request in
    let e = c.self.view_is ∙ part in
    let rooms = c.deref.ensures.value ∙ ap (λ (v : PartView). v.rooms) e in
    let known : knows_room a q.room ≡ true = sym (λ t. list_any (bytes_eq (c.request.view_is t).room) (rooms t)) ∙ sym c.is_known.ensures ∙ c.if-not-is_known.false in
    let stamp = sym (ap stamp_next (ap (λ (v : PartView). v.summary) e)) ∙ sym c.next_stamp.ensures ∙ c.in_err-stamp.was in
    let step = subst (Submits a q) stamp (submits a q sound known) in
    let answer = p.1 ∙ ap Err p.2 in
    inl (
      ap (reply_with (λ (done : Id × ChangeView). outcome_in q (submit_request q a).replica done.0)) answer ∙ ap (λ (s : After). s.reply) (sym step),
      subst (λ r. IfOk r (λ (x : Id × ChangeView). changed x.1 (tables_of a) ≡ tables_of (submit_request q a).replica)) (sym answer) tt,
    )

pub returns-clause-step : goal.returns-clause-step
returns-clause-step c = λ a sound part.
    let q = c.args.request in
    let p = c.args.self.now in
    let request = c.request.view_is in
    let good : IsTrue (is_request q) = subst (λ (r : Request). IsTrue (is_request r)) request c.request.invariant in
    let rooms = c.deref.ensures.value ∙ ap (λ (v : PartView). v.rooms) c.self.view_is in
    let there : list_any (bytes_eq q.room) p.rooms ≡ true = sym (λ t. list_any (bytes_eq (request t).room) (rooms t)) ∙ sym c.is_known.ensures ∙ c.if-not-is_known.false in
    let stamp = sym (ap stamp_next (ap (λ (v : PartView). v.summary) c.self.view_is)) ∙ sym c.next_stamp.ensures ∙ c.in_ok-stamp.was in
    let done =
    part_submit a q p c.in_ok-stamp.stamp c.of_request-write.result c.id.result c.in_ok-change.change sound part good there stamp
    c.of_request-write.ensures c.id.ensures c.in_ok-change.ensures.change in
    inl (done.step, done.turns)

pub returns-clause-told : goal.returns-clause-told
returns-clause-told c = λ a sound part.
    let q = c.args.request in
    let p = c.args.self.now in
    let request = c.request.view_is in
    let good : IsTrue (is_request q) = subst (λ (r : Request). IsTrue (is_request r)) request c.request.invariant in
    let rooms = c.deref.ensures.value ∙ ap (λ (v : PartView). v.rooms) c.self.view_is in
    let there : list_any (bytes_eq q.room) p.rooms ≡ true = sym (λ t. list_any (bytes_eq (request t).room) (rooms t)) ∙ sym c.is_known.ensures ∙ c.if-not-is_known.false in
    let stamp = sym (ap stamp_next (ap (λ (v : PartView). v.summary) c.self.view_is)) ∙ sym c.next_stamp.ensures ∙ c.in_ok-stamp.was in
    let done =
    part_submit a q p c.in_ok-stamp.stamp c.of_request-write.result c.id.result c.in_ok-change.change sound part good there stamp
    c.of_request-write.ensures c.id.ensures c.in_ok-change.ensures.change in
    done.tells
