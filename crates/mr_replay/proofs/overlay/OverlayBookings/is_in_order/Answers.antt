use Rattle.std.proofs.Common.{subst}
use Rattle.mr_replay.specs.Hidden.{shown}
use Rattle.mr_replay.proofs.Entries.{IsInOrder}
use Rattle.mr_replay.proofs.Hiding.{in_order-shown}
use Rattle.mr_replay.proofs.Overlaid.{in_order-overlaid}
use Rattle.mr_replay.proofs.overlay.OverlayBookings.is_in_order.Goals as goal

pub returns : goal.returns
returns c =
    let o = c.self.inside in
    subst IsInOrder c.self.view_is (in_order-overlaid (shown o.hidden o.base) o.own (in_order-shown o.hidden o.base c.self.invariant.base_order))
