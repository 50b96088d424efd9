use Rattle.std.proofs.Common.{refl}
use Rattle.std.proofs.lemmas.Result.{err_from_is_err_and}
use Rattle.mr_model.specs.Scopes.{Nothing}
use Rattle.mr_model.specs.Step.{add_room}
use Rattle.mr_model.specs.Replies.{RoomAdded}
use Rattle.mr_service.proofs.KeeperChanges.{answers, refuses}
use Rattle.mr_service.proofs.turns.add_room.Goals as goal

pub returns-in_err-change : goal.returns-in_err-change
returns-in_err-change c =
    let p = err_from_is_err_and c.from_residual.result c.from_residual.ensures.1 in
    rw (p.1, p.2) (refuses Nothing (λ a. add_room a c.args.room.now) (λ _ _. RoomAdded)
    (λ change. change) c.in_err-change.field-0.0 c.args.part.now c.in_err-change.ensures.step c.in_err-change.ensures.own)

pub returns : goal.returns
returns c =
    answers Nothing (λ a. add_room a c.args.room.now) (λ _ _. RoomAdded) (λ change. change) c.in_ok-change.change c.args.part.now _ c.in_ok-change.ensures.step (λ a sound from. refl) (λ e is. cc is)
