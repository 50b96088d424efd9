use Rattle.std.proofs.Common.{◌∙◌, sym}
use Rattle.mr_model.specs.Positions.{Count}
use Rattle.mr_base.specs.PositionCounts.{counts_of_pairs}
use Rattle.mr_base.proofs.RisingServers.{rising_behind}
use Rattle.mr_base.proofs.positions.servers_rise.Goals as goal

pub returns-in-Some : goal.returns-in-Some
returns-in-Some c =
    let first : Count = record { server = c.in-Some.first.now.0; count = c.in-Some.first.now.1 } in
    rw c.in-Some.ensures.cases.0 (c.rise_from.ensures ∙ sym (rising_behind first (counts_of_pairs c.in-Some.others.now)))
