use Rattle.std.proofs.Common.{sym, rules}
use Rattle.mr_wire.proofs.LineLaws.{made_booking, no_booking}
use Rattle.mr_wire.proofs.lines.booking_with.Goals as goal

pub returns-in-Ok : goal.returns-in-Ok
returns-in-Ok c = made_booking c.args.stamp c.args.room.now c.args.title.now c.args.length c.args.wish c.args.alternatives
    c.in_ok-room.room c.in_ok-title.title _ c.in_ok-room.ensures c.in_ok-title.ensures (search rules) (sym c.in-Ok.ensures)

pub returns-in-Err : goal.returns-in-Err
returns-in-Err c = no_booking c.args.stamp c.args.room.now c.args.title.now c.args.length c.args.wish c.args.alternatives _ _ (sym c.in-Err.ensures)
