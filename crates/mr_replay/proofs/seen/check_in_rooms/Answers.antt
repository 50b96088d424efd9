use Rattle.std.proofs.Common.{◌∙◌, ap, sym, not}
use Rattle.mr_model.specs.Replay.{is_free}
use Rattle.mr_replay.proofs.SeenRows.{bookings-seen, bookings-unseen}
use Rattle.mr_replay.proofs.seen.check_in_rooms.Goals as goal

pub returns-then-not-contains : goal.returns-then-not-contains
returns-then-not-contains c =
    let out = sym c.contains.ensures ∙ c.if-not-contains.true in
    ap not c.if-not-contains.true ∙ sym (ap (λ bs. is_free bs c.args.length c.args.slot) (bookings-unseen c.args.rooms.now c.args.hidden.now c.args.room.now c.args.board.now out))

pub returns-else-not-contains : goal.returns-else-not-contains
returns-else-not-contains c =
    let there = sym c.contains.ensures ∙ c.if-not-contains.false in
    c.check_but.ensures ∙ sym (ap (λ bs. is_free bs c.args.length c.args.slot) (bookings-seen c.args.rooms.now c.args.hidden.now c.args.room.now c.args.board.now there))
