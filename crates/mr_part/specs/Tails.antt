-- From which place in the order of stamps on a batch may move tentative writes, told once for all of its items.
use Rattle.std.specs.Prelude.{◌≡◌, ℕ, Bool, true, false, not, ◌||◌, List}
use Rattle.mr_model.specs.Exchange.{Item}
use Rattle.mr_model.specs.Scopes.{time_before, is_new_commit, is_behind_item, is_late}
use Rattle.mr_part.specs.declared.tail.Tail.{Tail}
use Rattle.mr_part.specs.declared.tail.Tail.TheVariants.{Everything, From, Nothing}

-- whether a place is in the tail
abbrev pub has_place : Tail → ℕ → ℕ → Bool
has_place Everything time server = true
has_place (From first_time first_server) time server = not (time_before time server first_time first_server)
has_place Nothing time server = false

-- whether an item alone brings a place into the tail
abbrev pub brings : ℕ → Item → ℕ → ℕ → Bool
brings commits item time server = is_new_commit commits item || is_behind_item time server item

-- the tail of these items, where so many commits are known
abbrev pub IsTail : Tail → ℕ → List Item → Type 0
IsTail tail commits items = (time server : ℕ) → has_place tail time server ≡ is_late commits items time server
