use Rattle.std.proofs.Common.{◌≡◌, ◌||◌, ℕ, drop, map}
use Rattle.std.specs.List.{list_any}
use Rattle.mr_model.specs.Writes.{Id}
use Rattle.mr_model.specs.Replica.{is_among}
use Rattle.mr_model.specs.Scopes.{item_id, has_number}
use Rattle.mr_base.specs.Batches.{item_of}
use Rattle.mr_part.specs.Sets.{has_id}
use Rattle.mr_part.specs.Named.{has_commit}
use Rattle.mr_part.proofs.scope.named.Named.by.Given as goal

-- with those of the items that are left, the ids and the numbers are those of all
abbrev pub invariant-loop-item : goal.invariant-loop-item
invariant-loop-item l =
    ((id : Id) → (has_id l.named.ids id || is_among id (map item_id (map item_of (drop l.item-index l.items)))) ≡ is_among id (map item_id (map item_of l.items)))
    × ((number : ℕ) → (has_commit l.named.numbers number || list_any (has_number number) (map item_of (drop l.item-index l.items))) ≡ list_any (has_number number) (map item_of l.items))
