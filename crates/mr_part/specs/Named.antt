-- What the items of a batch name, as ordered sets that are made once.
use Rattle.std.specs.Prelude.{◌≡◌, ℕ, ◌==◌, Bool, not, ◌&&◌, ◌||◌, List, map}
use Rattle.std.specs.BTreeSet.{BTreeSet, contains}
use Rattle.std.specs.List.{list_any}
use Rattle.std.specs.Ordering.{nat_cmp}
use Rattle.mr_model.specs.Writes.{Id}
use Rattle.mr_model.specs.Replica.{is_among}
use Rattle.mr_model.specs.Exchange.{Item}
use Rattle.mr_model.specs.Scopes.{item_id, has_number}
use Rattle.mr_part.specs.Sets.{has_id}
use Rattle.mr_part.specs.declared.scope.named.Named.{Named}

-- whether the set has a commit number
abbrev pub has_commit : BTreeSet ℕ → ℕ → Bool
has_commit numbers number = contains nat_cmp numbers number

-- whether the items name the write of this id with this commit number, 0 of a tentative one
abbrev pub names : List Item → Id → ℕ → Bool
names items id number = is_among id (map item_id items) || (not (number == 0) && list_any (has_number number) items)

-- whether it is of these ids and commit numbers
abbrev pub has_named : Named → Id → ℕ → Bool
has_named named id number = has_id named.ids id || (not (number == 0) && has_commit named.numbers number)

-- these are the ids and the commit numbers that the items name
pub record IsNamedBy (named : Named) (items : List Item) : Type 0 where
  pub ids : (id : Id) → has_id named.ids id ≡ is_among id (map item_id items)
  pub numbers : (number : ℕ) → has_commit named.numbers number ≡ list_any (has_number number) items
