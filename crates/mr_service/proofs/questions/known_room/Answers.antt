use Rattle.std.proofs.Common.{ap, ◌∙◌, inl, inr}
use Rattle.std.proofs.lemmas.Result.{err_from_is_err_and}
use Rattle.std.specs.List.{list_any}
use Rattle.std.specs.Str.{bytes_eq}
use Rattle.mr_service.proofs.KeeperReads.{read_err}
use Rattle.mr_service.proofs.RoomSteps as steps
use Rattle.mr_service.proofs.questions.known_room.Goals as goal

pub returns-in_err-room-clause-finds : goal.returns-in_err-room-clause-finds
returns-in_err-room-clause-finds g c =
    let p = err_from_is_err_and c.from_residual.result c.from_residual.ensures.1 in
    rw (p.1, p.2) (λ k o. steps.name_refused (g.K.Keeper.tables c.args.keeper.now).room c.args.room.now c.in_err-room.field-0.0 c.in_err-room.ensures.value)

pub returns-in_err-rooms-clause-read : goal.returns-in_err-rooms-clause-read
returns-in_err-rooms-clause-read g c =
    let p = err_from_is_err_and c.from_residual-in_err-rooms.result c.from_residual-in_err-rooms.ensures.1 in
    rw p.1 (read_err g.K.Keeper c.args.keeper.now c.rooms.new.self c.in_err-rooms.field-0.0 p.0 p.2 c.in_err-rooms.ensures.quiet)

pub returns-in_err-rooms-clause-finds : goal.returns-in_err-rooms-clause-finds
returns-in_err-rooms-clause-finds g c =
    let p = err_from_is_err_and c.from_residual-in_err-rooms.result c.from_residual-in_err-rooms.ensures.1 in
    rw p.1 (λ k o. inr (steps.of_fault c.in_err-rooms.field-0.0 p.0 p.2))

pub returns-then-is_among-clause-finds : goal.returns-then-is_among-clause-finds
returns-then-is_among-clause-finds g c =
    λ k o. steps.room_found (g.K.Keeper.tables c.args.keeper.now).room c.in_ok-rooms.rooms.items c.args.room.now c.in_ok-room.room c.is_among.result c.in_ok-room.ensures.value
    (c.in_ok-rooms.ensures.rooms k o)
    (c.is_among.ensures ∙ ap (list_any (bytes_eq c.in_ok-room.room)) c.as_slice.ensures.value) c.if-is_among.true

pub returns-else-is_among-clause-finds : goal.returns-else-is_among-clause-finds
returns-else-is_among-clause-finds g c =
    λ k o. steps.room_unknown (g.K.Keeper.tables c.args.keeper.now).room c.in_ok-rooms.rooms.items c.args.room.now c.in_ok-room.room c.is_among.result c.in_ok-room.ensures.value
    (c.in_ok-rooms.ensures.rooms k o)
    (c.is_among.ensures ∙ ap (list_any (bytes_eq c.in_ok-room.room)) c.as_slice.ensures.value) c.if-is_among.false

pub returns-in_err-room-clause-refuses : goal.returns-in_err-room-clause-refuses
returns-in_err-room-clause-refuses g c =
    let p = err_from_is_err_and c.from_residual.result c.from_residual.ensures.1 in
    rw (p.1, p.2) (λ k. inr (λ rooms. steps.name_refused rooms c.args.room.now c.in_err-room.field-0.0 c.in_err-room.ensures.value))

pub returns-in_err-rooms-clause-refuses : goal.returns-in_err-rooms-clause-refuses
returns-in_err-rooms-clause-refuses g c =
    let p = err_from_is_err_and c.from_residual-in_err-rooms.result c.from_residual-in_err-rooms.ensures.1 in
    rw p.1 (λ k. inr (λ rooms. inr (steps.of_fault c.in_err-rooms.field-0.0 p.0 p.2)))

pub returns-else-is_among-clause-refuses : goal.returns-else-is_among-clause-refuses
returns-else-is_among-clause-refuses g c = λ k. inl (c.in_ok-rooms.ensures.quiet.answered k)
