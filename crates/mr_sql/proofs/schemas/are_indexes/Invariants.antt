use Rattle.std.proofs.Common.{◌≡◌, take, length, map}
use Rattle.mr_sql.specs.OurSchema.{index_told}
use Rattle.mr_sql.proofs.schemas.are_indexes.Given as goal

abbrev pub invariant-at : goal.invariant-at
invariant-at l = (take l.at l.indexes ≡ map index_told (take l.at l.wanted)) × (length l.indexes ≡ length l.wanted)
