use Rattle.std.proofs.Common.{◌≡◌, ◌∙◌, IsTrue, true, false, subst}
use Rattle.mr_model.specs.Replica.{knows_room}
use Rattle.mr_model.specs.Requests.{Request, is_request}
use Rattle.mr_model.specs.Scopes.{InRoom}
use Rattle.mr_model.specs.Writes.{Id}
use Rattle.mr_part.specs.Steps.{submit_request, outcome_in}
use Rattle.mr_part.specs.Answering.{put_outcome}
use Rattle.mr_part.specs.Parts.{IsPartOf}
use Rattle.mr_replica.specs.Dues.{IsExhausted}
use Rattle.mr_replica.proofs.Steps.{submit_step}
use Rattle.mr_replica.proofs.Taken.{IsPartFrom}
use Rattle.mr_replica.proofs.Taken.{turned, unmade, told_on}
use Rattle.mr_tables.specs.Change.{ChangeView}
use Rattle.mr_base.specs.declared.refusals.Refusal.TheVariants as refusal
use Rattle.mr_replica.proofs.Dues.{due_step, is_known_to, unknown_room, exhausted_request, never_exhausted}
use Rattle.mr_replica.proofs.desk.Desk.submit.Goals as goal

pub returns-in-Ok-clause-step : goal.returns-in-Ok-clause-step
returns-in-Ok-clause-step c =
    let good : IsTrue (is_request c.args.request) = subst (λ (r : Request). IsTrue (is_request r)) c.request.view_is c.request.invariant in
    let from : IsPartFrom c.args.self.now (InRoom c.args.request.room) c.in-Ok.part =
    λ a h. subst (λ (q : Request). IsPartOf c.in-Ok.part (InRoom q.room) a) c.request.view_is (c.in-Ok.ensures.part a h)
    in
    turned (InRoom c.args.request.room) (submit_request c.args.request) (λ a (done : Id × ChangeView). outcome_in c.args.request a done.0)
    (λ (done : Id × ChangeView). done.1) c.in-Ok.part c.args.self.now c.changed_by.new.self c.submit.result c.changed_by.result
    (submit_step c.args.request good) from c.submit.ensures.step c.changed_by.ensures.made c.changed_by.ensures.err c.changed_by.ensures.only

pub returns-in-Err-clause-step : goal.returns-in-Err-clause-step
returns-in-Err-clause-step c = unmade (submit_request c.args.request)
    (λ a (done : Id × ChangeView). outcome_in c.args.request a done.0) c.args.self.now c.args.self.now c.in-Err.refusal (λ _. c.args.self.now) (λ a h. c.in-Err.ensures.only a h)

pub returns-in-Ok-clause-own : goal.returns-in-Ok-clause-own
returns-in-Ok-clause-own c = λ a h. c.changed_by.ensures.own c.submit.ensures.own

pub returns-in-Ok-clause-told : goal.returns-in-Ok-clause-told
returns-in-Ok-clause-told c = λ a h.
    let q = c.args.request in
    let part = subst (λ (q : Request). IsPartOf c.in-Ok.part (InRoom q.room) a) c.request.view_is (c.in-Ok.ensures.part a h) in
    told_on (λ (done : Id × ChangeView). outcome_in q (submit_request q a).replica done.0 ≡ put_outcome done.1.booking done.1.errorlog) _
    c.submit.result c.changed_by.result c.changed_by.ensures.made (c.submit.ensures.told a h.sound part)

pub returns-then-not-knows-clause-step : goal.returns-then-not-knows-clause-step
returns-then-not-knows-clause-step c =
    due_step (submit_request c.args.request) (λ a (done : Id × ChangeView). outcome_in c.args.request a done.0) c.args.self.now refusal.UnknownRoom
    (λ a h. unknown_room c.args.request a
    (subst (λ (q : Request). knows_room a q.room ≡ false) c.request.view_is (is_known_to c.request.inside.room a c.self.view_is h.are c.knows.ensures ∙ c.if-not-knows.true)))

pub returns-in-Some-clause-step : goal.returns-in-Some-clause-step
returns-in-Some-clause-step c =
    due_step (submit_request c.args.request) (λ a (done : Id × ChangeView). outcome_in c.args.request a done.0) c.args.self.now c.in-Some.refusal
    (λ a h. exhausted_request c.args.request c.args.self.now a c.in-Some.refusal h
    (subst (λ (q : Request). knows_room a q.room ≡ true) c.request.view_is (is_known_to c.request.inside.room a c.self.view_is h.are c.knows.ensures ∙ c.if-not-knows.false))
    (subst (λ t. IsExhausted t c.in-Some.refusal) c.self.view_is c.in-Some.ensures.due))

pub returns-in-Some-clause-own : goal.returns-in-Some-clause-own
returns-in-Some-clause-own c = λ a h. never_exhausted c.self.inside.memory c.in-Some.refusal c.in-Some.ensures.due
