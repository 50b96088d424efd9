-- The tail of a batch's items, one item after the other.
use Rattle.std.proofs.Common.{◌≡◌, refl, sym, ap, ◌∙◌, ℕ, ◌+◌, Bool, true, false, ◌||◌, List, [], ◌∷◌, map, drop}
use Rattle.std.proofs.Math.Bool.{or-false, or-true}
use Rattle.std.specs.List.{list_any}
use Rattle.mr_model.specs.Scopes.{is_new_commit, is_behind_item, is_late}
use Rattle.mr_base.specs.declared.batches.Item.{Item}
use Rattle.mr_base.specs.Batches.{item_of}
use Rattle.mr_part.specs.declared.tail.Tail.{Tail}
use Rattle.mr_part.specs.Tails.{has_place, brings}

-- what an item brings is told beside what the others do
shuffled : (a n b m c : Bool) → ((a || (n || b)) || (m || c)) ≡ (a || ((n || m) || (b || c)))
shuffled true n b m c = refl
shuffled false true b m c = refl
shuffled false false true m c = sym (or-true m)
shuffled false false false m c = refl

-- one step of a list of items that is gone through
pub tail-more : (commits : ℕ) (items : List Item) (k : ℕ) (item : Item) (old new : Tail) (time server : ℕ) → drop k items ≡ item ∷ drop (k + 1) items
    → has_place new time server ≡ (has_place old time server || brings commits (item_of item) time server)
    → (has_place old time server || is_late commits (map item_of (drop k items)) time server) ≡ is_late commits (map item_of items) time server
    → (has_place new time server || is_late commits (map item_of (drop (k + 1) items)) time server) ≡ is_late commits (map item_of items) time server
tail-more commits items k item old new time server here brought was =
    let rest = map item_of (drop (k + 1) items) in
    ap (λ b. b || is_late commits rest time server) brought
    ∙ shuffled (has_place old time server) (is_new_commit commits (item_of item)) (is_behind_item time server (item_of item))
    (list_any (is_new_commit commits) rest) (list_any (is_behind_item time server) rest)
    ∙ ap (λ left. has_place old time server || is_late commits (map item_of left) time server) (sym here)
    ∙ was

pub tail-ended : (commits : ℕ) (items : List Item) (tail : Tail) (time server : ℕ) → (has_place tail time server || is_late commits (map item_of []) time server)
    ≡ is_late commits (map item_of items) time server → has_place tail time server ≡ is_late commits (map item_of items) time server
tail-ended commits items tail time server was = sym (or-false (has_place tail time server)) ∙ was
