use Rattle.std.proofs.Common.{◌≡◌, ◌||◌, Bool, drop, map}
use Rattle.std.specs.List.{filter}
use Rattle.mr_base.specs.Batches.{item_of}
use Rattle.mr_model.specs.Scopes.{OfItems, is_named}
use Rattle.mr_model.specs.Tables.{LogRow}
use Rattle.mr_replica.specs.Needed.{is_log_needed}
use Rattle.mr_replica.proofs.indexed.Indexed+LogRow.of_batch.Given as goal

-- with those that the items name that are left they are all that are needed
abbrev pub invariant-loop-item : goal.invariant-loop-item
invariant-loop-item l =
    (q : LogRow → Bool) × (l.all.rows ≡ filter q l.self.rows) × ((r : LogRow) → (q r || is_named (map item_of (drop l.item-index l.items)) r) ≡ is_log_needed l.known (OfItems (map item_of l.items)) r)
