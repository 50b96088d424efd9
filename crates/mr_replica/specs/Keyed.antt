-- Rows of a table as entries of a map: each under its id.
use Rattle.std.specs.Prelude.{◌≡◌, Bool, List, Option, Some, None, if◌then◌else◌}
use Rattle.std.specs.List.{AllByRecursion}
use Rattle.std.specs.Map.{values_of}
use Rattle.mr_model.specs.Writes.{Id}
use Rattle.mr_tables.specs.Change.{id_before}
use Rattle.mr_tables.specs.TableOrders.{InOrder}

-- the keys are the ids, and the rows in their order
pub record IsKeyed {R : Type 0} (id : R → Id) (entries : List (Id × R)) : Type 0 where
  pub keys : AllByRecursion (λ e. e.0 ≡ id e.1) entries
  pub order : InOrder id_before id (values_of entries)

-- the row, if there is one and it passes the test
abbrev pub if_passes : {R : Type 0} → (R → Bool) → Option R → Option R
if_passes p None = None
if_passes p (Some x) = if p x then Some x else None
