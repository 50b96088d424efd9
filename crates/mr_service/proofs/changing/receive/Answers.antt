use Rattle.std.proofs.Common.{List, map, subst, Ok}
use Rattle.std.proofs.lemmas.Result.{err_from_is_err_and}
use Rattle.mr_model.specs.Exchange.{Batch}
use Rattle.mr_model.specs.Scopes.{OfItems}
use Rattle.mr_model.specs.Step.{Receive, receive_batch}
use Rattle.mr_base.specs.Batches.{item_of}
use Rattle.mr_base.specs.declared.batches.Item.{Item}
use Rattle.mr_service.specs.Turns.{IsLoaded}
use Rattle.mr_service.proofs.KeeperChanges.{not_loaded, made_by}
use Rattle.mr_service.proofs.KeeperReads.{unread}
use Rattle.mr_service.proofs.DeskSteps.{word_step}
use Rattle.mr_service.proofs.CommandWords as words
use Rattle.mr_service.proofs.changing.receive.Goals as goal

pub returns-in_err-batch : goal.returns-in_err-batch
returns-in_err-batch g c =
    let p = err_from_is_err_and c.from_residual.result c.from_residual.ensures.1 in
    record {
      served = rw (p.1, p.2) (unread g.K.Keeper c.args.keeper.now (Receive c.args.bytes.now) c.in_err-batch.field-0.0
          (λ t. word_step t (Receive c.args.bytes.now) c.in_err-batch.field-0.0 (words.batch_refused c.args.bytes.now c.in_err-batch.field-0.0 c.in_err-batch.ensures.exact))
          (words.batch_not_store c.args.bytes.now c.in_err-batch.field-0.0 c.in_err-batch.ensures.refuses));
    }

pub returns-in_err-part : goal.returns-in_err-part
returns-in_err-part g c =
    let p = err_from_is_err_and c.from_residual-in_err-part.result c.from_residual-in_err-part.ensures.1 in
    record { served = rw (p.1, p.2) (not_loaded g.K.Keeper c.args.keeper.now c.load.new.keeper _ c.in_err-part.field-0.0 (Receive c.args.bytes.now) c.in_err-part.ensures) }

pub returns : goal.returns
returns g c =
    record {
      served = made_by g.K.Keeper c.args.keeper.now c.load.new.keeper c.change.new.keeper (OfItems c.in_ok-batch.batch.items) c.in_ok-part.part _ _ (Receive c.args.bytes.now)
          (λ a. receive_batch a c.in_ok-batch.batch) (subst (λ (b : Batch). IsLoaded g.K.Keeper c.args.keeper.now c.load.new.keeper (OfItems b.items) (Ok c.in_ok-part.part)) c.batch.view_is
          (subst (λ (items : List Item). IsLoaded g.K.Keeper c.args.keeper.now c.load.new.keeper (OfItems (map item_of items)) (Ok c.in_ok-part.part)) c.as_slice.ensures.value c.in_ok-part.ensures))
          c.change.ensures (words.batch_received c.args.bytes.now c.in_ok-batch.batch c.in_ok-batch.ensures.exact) c.receive.ensures;
    }
