-- The rows of a table once others are put among them.
use Rattle.std.specs.Prelude.{List, Option, Some, None}
use Rattle.std.specs.Global.{Vec}

-- those that are made, or the ones before where none are
abbrev pub rows_after : {R : Type 0} → List R → Option (Vec R) → List R
rows_after rows None = rows
rows_after rows (Some after) = after.items
