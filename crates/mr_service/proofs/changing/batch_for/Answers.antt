use Rattle.std.proofs.Common.{subst, Ok}
use Rattle.std.proofs.lemmas.Result.{err_from_is_err_and}
use Rattle.mr_model.specs.Scopes.{Above}
use Rattle.mr_model.specs.Positions.{Position}
use Rattle.mr_model.specs.Step.{BatchFor, leave, batch_reply}
use Rattle.mr_service.specs.Turns.{IsLoaded}
use Rattle.mr_service.proofs.KeeperChanges.{not_loaded, told_by}
use Rattle.mr_service.proofs.KeeperReads.{unread}
use Rattle.mr_service.proofs.DeskSteps.{word_step}
use Rattle.mr_service.proofs.CommandWords as words
use Rattle.mr_service.proofs.changing.batch_for.Goals as goal

pub returns-in_err-position : goal.returns-in_err-position
returns-in_err-position g c =
    let p = err_from_is_err_and c.from_residual.result c.from_residual.ensures.1 in
    record {
      served = rw (p.1, p.2) (unread g.K.Keeper c.args.keeper.now (BatchFor c.args.position.now c.args.max_lines) c.in_err-position.field-0.0
          (λ t. word_step t (BatchFor c.args.position.now c.args.max_lines) c.in_err-position.field-0.0 (words.position_refused c.args.position.now c.args.max_lines
          c.in_err-position.field-0.0 c.in_err-position.ensures.exact)) (words.position_not_store c.args.position.now c.in_err-position.field-0.0 c.in_err-position.ensures.exact));
    }

pub returns-in_err-part : goal.returns-in_err-part
returns-in_err-part g c =
    let p = err_from_is_err_and c.from_residual-in_err-part.result c.from_residual-in_err-part.ensures.1 in
    record { served = rw (p.1, p.2) (not_loaded g.K.Keeper c.args.keeper.now c.load.new.keeper _ c.in_err-part.field-0.0 (BatchFor c.args.position.now c.args.max_lines) c.in_err-part.ensures) }

pub returns : goal.returns
returns g c =
    record {
      served = told_by g.K.Keeper c.args.keeper.now c.load.new.keeper (Above c.in_ok-position.position.commits) c.in_ok-part.part c.batch.result
          (BatchFor c.args.position.now c.args.max_lines) (λ a. leave a (batch_reply a c.in_ok-position.position c.args.max_lines))
          (subst (λ (p : Position). IsLoaded g.K.Keeper c.args.keeper.now c.load.new.keeper (Above p.commits) (Ok c.in_ok-part.part)) c.position.view_is c.in_ok-part.ensures)
          (words.position_read c.args.position.now c.args.max_lines c.in_ok-position.position c.in_ok-position.ensures.exact) (c.batch.ensures c.in_ok-part.ensures.within);
    }
