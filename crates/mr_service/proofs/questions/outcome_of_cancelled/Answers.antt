use Rattle.std.proofs.Common.{true, sym, subst}
use Rattle.mr_model.specs.Tables.{CancelledRow}
use Rattle.mr_base.specs.declared.refusals.Refusal.TheVariants.{NoSuchRequest}
use Rattle.mr_store.specs.Picked.{IsPlaceOf}
use Rattle.std.proofs.lemmas.Result.{err_from_is_err_and}
use Rattle.mr_service.proofs.KeeperReads.{read_ok, read_err, read_made}
use Rattle.mr_service.proofs.RoomSteps as steps
use Rattle.mr_service.proofs.questions.outcome_of_cancelled.Goals as goal

pub returns-in_err-place : goal.returns-in_err-place
returns-in_err-place g c =
    let p = err_from_is_err_and c.from_residual.result c.from_residual.ensures.1 in
    rw p.1 (record {
      read = read_err g.K.Keeper c.args.keeper.now c.place_of.new.self c.in_err-place.field-0.0 p.0 p.2 c.in_err-place.ensures.quiet;
      tells = λ u o a h there own. steps.of_fault c.in_err-place.field-0.0 p.0 p.2;
    })

pub returns-in-Some : goal.returns-in-Some
returns-in-Some g c =
    record {
      read = read_ok g.K.Keeper c.args.keeper.now c.place_of.new.self _ _ c.in_ok-place.ensures.quiet;
      tells = λ u o. steps.cancelled_tells (g.K.Keeper.tables c.args.keeper.now) c.args.room.now c.args.row.now c.in_ok-place.place c.in-Some.by c.cancelled.result
          (subst (λ (r : CancelledRow). IsPlaceOf c.args.room.now r.by (g.K.Keeper.tables c.args.keeper.now) c.in_ok-place.place) c.row.view_is (c.in_ok-place.ensures.place u o))
          (sym c.in-Some.ensures) c.cancelled.ensures;
    }

pub returns-in-None : goal.returns-in-None
returns-in-None g c =
    record {
      read = read_made g.K.Keeper c.args.keeper.now c.place_of.new.self true _ (read_ok g.K.Keeper c.args.keeper.now c.place_of.new.self true _ c.in_ok-place.ensures.quiet) (λ told. cc told);
      tells = λ u o. steps.never_without (g.K.Keeper.tables c.args.keeper.now) c.args.room.now c.args.row.now c.in_ok-place.place NoSuchRequest
          (subst (λ (r : CancelledRow). IsPlaceOf c.args.room.now r.by (g.K.Keeper.tables c.args.keeper.now) c.in_ok-place.place) c.row.view_is (c.in_ok-place.ensures.place u o))
          (sym c.in-None.ensures);
    }
