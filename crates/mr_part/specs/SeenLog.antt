-- Kept writes of which some may not be seen: all of a list of one's own, or those of a shared one behind the first so many.
use Rattle.std.specs.Prelude.{List, drop}
use Rattle.mr_part.specs.declared.kept_rows.KeptRow.{KeptRow}
use Rattle.mr_part.specs.declared.seen_log.LogRows.{LogRows}
use Rattle.mr_part.specs.declared.seen_log.LogRows.TheVariants.{Own, Behind}

-- the rows that are seen
abbrev pub seen_log : LogRows → List KeptRow
seen_log (Own rows) = rows.items
seen_log (Behind log first) = drop first log.value.items
