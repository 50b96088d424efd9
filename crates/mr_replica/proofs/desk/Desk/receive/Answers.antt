use Rattle.std.proofs.Common.{◌≡◌, ◌∙◌, ℕ, List, map, ap, subst}
use Rattle.mr_model.specs.Exchange.{Batch, Item}
use Rattle.mr_model.specs.Replies.{Took}
use Rattle.mr_model.specs.Scopes.{OfItems}
use Rattle.mr_model.specs.Step.{receive_batch}
use Rattle.mr_base.specs.Batches.{item_of}
use Rattle.mr_part.specs.Parts.{IsPartOf}
use Rattle.mr_replica.proofs.Steps.{batch_step}
use Rattle.mr_replica.proofs.Taken.{IsPartFrom}
use Rattle.mr_replica.proofs.Taken.{turned, unmade}
use Rattle.mr_tables.specs.Change.{ChangeView}
use Rattle.mr_replica.proofs.desk.Desk.receive.Goals as goal

pub returns-in-Ok-clause-step : goal.returns-in-Ok-clause-step
returns-in-Ok-clause-step c =
    let items : map item_of c.as_slice.result.now ≡ c.args.batch.now.items = ap (map item_of) c.as_slice.ensures.value ∙ ap (λ (b : Batch). b.items) c.batch.view_is in
    let from : IsPartFrom c.args.self.now (OfItems c.args.batch.now.items) c.in-Ok.part =
    λ a h. subst (λ (xs : List Item). IsPartOf c.in-Ok.part (OfItems xs) a) items (c.in-Ok.ensures.part a h)
    in
    turned (OfItems c.args.batch.now.items) (λ a. receive_batch a c.args.batch.now) (λ _ (taken : ℕ × ℕ × ChangeView). Took taken.0 taken.1)
    (λ (taken : ℕ × ℕ × ChangeView). taken.2) c.in-Ok.part c.args.self.now c.changed_by_batch.new.self c.receive.result c.changed_by_batch.result
    (batch_step c.args.batch.now c.is_within_limits.ensures) from c.receive.ensures.step c.changed_by_batch.ensures.made c.changed_by_batch.ensures.err c.changed_by_batch.ensures.only

pub returns-in-Err-clause-step : goal.returns-in-Err-clause-step
returns-in-Err-clause-step c = unmade (λ a. receive_batch a c.args.batch.now)
    (λ _ (taken : ℕ × ℕ × ChangeView). Took taken.0 taken.1) c.args.self.now c.args.self.now c.in-Err.refusal (λ _. c.args.self.now) (λ a h. c.in-Err.ensures.only a h)

pub returns-in-Ok-clause-own : goal.returns-in-Ok-clause-own
returns-in-Ok-clause-own c = λ a h. c.changed_by_batch.ensures.own c.receive.ensures.own
