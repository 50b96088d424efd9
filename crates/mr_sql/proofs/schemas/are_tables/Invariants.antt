use Rattle.std.proofs.Common.{◌≡◌, take, length, map}
use Rattle.mr_sql.specs.OurSchema.{table_told}
use Rattle.mr_sql.proofs.schemas.are_tables.Given as goal

abbrev pub invariant-at : goal.invariant-at
invariant-at l = (take l.at l.tables ≡ map table_told (take l.at l.wanted)) × (length l.tables ≡ length l.wanted)
