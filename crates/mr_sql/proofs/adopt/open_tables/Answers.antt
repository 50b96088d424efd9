use Rattle.std.proofs.Common.{refl}
use Rattle.mr_sql.proofs.adopt.open_tables.Goals as goal

pub settle-requires : goal.settle-requires
settle-requires g c = record { others = c.if-is_ours.ensures.other refl }
