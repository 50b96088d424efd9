use Rattle.std.proofs.Common.{◌∙◌}
use Rattle.mr_tables.proofs.Naming.{before-cmp}
use Rattle.mr_tables.proofs.table_rows.RoomNameTableRow.is_before.Goals as goal

pub returns : goal.returns
returns c = c.lt.ensures ∙ before-cmp c.args.self.now c.args.other.now
