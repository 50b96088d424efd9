use Rattle.std.proofs.Common.{◌≡◌, ◌∙◌, Some, None, ap, sym}
use Rattle.std.specs.Option.{option_copied}
use Rattle.mr_replay.specs.Rows.{row_at, is_booking_of}
use Rattle.mr_replay.specs.Index.{is_row}
use Rattle.mr_replay.proofs.PlacesOnBoard.{booked-row}
use Rattle.mr_replay.proofs.choice.is_booked.Goals as goal

pub returns-in-Some : goal.returns-in-Some
returns-in-Some g c =
    let rows = g.B.Bookings.rows c.args.board.now in
    let there : Some c.in-Some.row.now ≡ row_at rows c.args.id = ap option_copied (sym c.in-Some.is) ∙ c.row.ensures in
    c.is_booking_of.ensures ∙ ap (is_row (is_booking_of c.args.room.now)) there ∙ sym (booked-row c.args.room.now rows c.args.id c.is_in_order.ensures)

pub returns-in-None : goal.returns-in-None
returns-in-None g c =
    let rows = g.B.Bookings.rows c.args.board.now in
    let there : None ≡ row_at rows c.args.id = ap option_copied (sym c.in-None.is) ∙ c.row.ensures in
    ap (is_row (is_booking_of c.args.room.now)) there ∙ sym (booked-row c.args.room.now rows c.args.id c.is_in_order.ensures)
