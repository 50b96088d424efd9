use Rattle.std.proofs.Common.{◌≡◌, refl, ◌∙◌, map, subst}
use Rattle.std.proofs.lemmas.Result.{err_from_is_err_and}
use Rattle.mr_model.specs.Step.{Ask}
use Rattle.mr_model.specs.View.{AskErrors}
use Rattle.mr_service.specs.Asked.{log_line_seen}
use Rattle.mr_service.specs.Questions.{ShowsLines}
use Rattle.mr_service.proofs.KeeperReads.{read_then, read_next, failed_by, refused_by, answered_by}
use Rattle.mr_service.proofs.RoomSteps as steps
use Rattle.mr_service.proofs.questions.errors.Goals as goal

pub returns-in_err-room : goal.returns-in_err-room
returns-in_err-room g c =
    let p = err_from_is_err_and c.from_residual.result c.from_residual.ensures.1 in
    record {
      served = rw (p.1, p.2) (refused_by g.K.Keeper c.args.keeper.now c.known_room.new.keeper c.in_err-room.field-0.0 (Ask c.args.room.now AskErrors) c.in_err-room.ensures.read
          (λ u. steps.refused_anywhere (Ask c.args.room.now AskErrors) c.args.room.now c.in_err-room.field-0.0
          (λ t finds. steps.errors_refused t t c.args.room.now c.in_err-room.field-0.0 refl finds) (c.in_err-room.ensures.refuses u))
          (λ u o. steps.errors_refused (g.K.Keeper.tables c.args.keeper.now) (g.K.Keeper.tables c.known_room.new.keeper) c.args.room.now c.in_err-room.field-0.0
          (c.known_room.ensures.read.same u o) (c.in_err-room.ensures.finds u (c.known_room.ensures.read.opens u o))));
    }

pub returns-in_err-lines : goal.returns-in_err-lines
returns-in_err-lines g c =
    let p = err_from_is_err_and c.from_residual-in_err-lines.result c.from_residual-in_err-lines.ensures.1 in
    record {
      served = rw (p.1, p.2) (read_then g.K.Keeper c.args.keeper.now c.known_room.new.keeper c.lines_in.new.keeper c.in_ok-room.room (Ask c.args.room.now AskErrors) _ c.in_ok-room.ensures.read
          (failed_by g.K.Keeper c.known_room.new.keeper c.lines_in.new.keeper c.in_err-lines.field-0.0 (Ask c.args.room.now AskErrors) c.in_err-lines.ensures.read c.in_err-lines.ensures.only));
    }

pub returns : goal.returns
returns g c =
    let same : g.K.Keeper.is_clean c.lines_in.new.keeper → g.K.Keeper.is_open c.lines_in.new.keeper → g.K.Keeper.tables c.known_room.new.keeper
    ≡ g.K.Keeper.tables c.args.keeper.now = λ u o. c.known_room.ensures.read.same (c.lines_in.ensures.read.clean u) (c.lines_in.ensures.read.opens u o) in
    record {
      served = answered_by g.K.Keeper c.args.keeper.now c.lines_in.new.keeper c.in_ok-lines.lines (Ask c.args.room.now AskErrors) _
          (read_next g.K.Keeper c.args.keeper.now c.known_room.new.keeper c.lines_in.new.keeper c.in_ok-room.room _ c.in_ok-room.ensures.read c.in_ok-lines.ensures.read)
          (λ u o. steps.errors_step (g.K.Keeper.tables c.args.keeper.now) (g.K.Keeper.tables c.lines_in.new.keeper) c.args.room.now c.in_ok-room.room (map log_line_seen c.in_ok-lines.lines.items)
          (c.lines_in.ensures.read.same u o ∙ same u o)
          (c.in_ok-room.ensures.finds (c.lines_in.ensures.read.clean u) (c.known_room.ensures.read.opens (c.lines_in.ensures.read.clean u) (c.lines_in.ensures.read.opens u o)))
          (subst (λ t. ShowsLines c.in_ok-room.room t (map log_line_seen c.in_ok-lines.lines.items)) (same u o) (c.in_ok-lines.ensures.shows u (c.lines_in.ensures.read.opens u o))))
          (λ told. cc told);
    }
