use Rattle.std.proofs.Common.{rules, subst}
use Rattle.mr_replay.proofs.Entries.{IsInOrder}
use Rattle.mr_replay.proofs.SeenRows.{in_order-seen}
use Rattle.mr_replay.proofs.seen.SeenBoard.is_in_order.Goals as goal

pub returns-in-InRooms : goal.returns-in-InRooms
returns-in-InRooms c =
    let ordered = subst IsInOrder c.as_ref.ensures c.is_in_order-in-InRooms.ensures in
    search (rules, ordered, in_order-seen)
