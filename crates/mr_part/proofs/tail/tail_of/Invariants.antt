use Rattle.std.proofs.Common.{◌≡◌, ◌||◌, ℕ, drop, map}
use Rattle.mr_model.specs.Scopes.{is_late}
use Rattle.mr_base.specs.Batches.{item_of}
use Rattle.mr_part.specs.Tails.{has_place}
use Rattle.mr_part.proofs.tail.tail_of.Given as goal

-- with the items that are left, the tail is that of all
abbrev pub invariant-loop-item : goal.invariant-loop-item
invariant-loop-item l =
    (time server : ℕ) → (has_place l.tail time server || is_late l.commits (map item_of (drop l.item-index l.items)) time server) ≡ is_late l.commits (map item_of l.items) time server
