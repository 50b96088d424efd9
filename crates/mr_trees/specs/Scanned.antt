-- What a scan picks, and a store from which it reads.
use Rattle.std.specs.Prelude.{◌≡◌, Bool, true, false, bytes_eq}
use Rattle.sqlite_value.specs.Order.{Row, column, bytes}
use Rattle.sqlite_trees.specs.View.{View}
use Rattle.mr_trees.specs.declared.rows.Picked.{Picked}
use Rattle.mr_trees.specs.declared.rows.Picked.TheVariants as picked

-- all rows, or those that have the room's name in a column
abbrev pub picks : Picked → Row → Bool
picks picked.All r = true
picks (picked.OfRoom at room) r = bytes_eq (bytes (column r at)) room.now

-- nothing is uncommitted
pub record IsCalm (v : View) : Type 0 where
  pub sound : v.is_broken ≡ false
  pub settled : v.trees ≡ v.committed

-- the store stays calm, with the trees that it had
pub record Stays (old new : View) : Type 0 where
  pub calm : IsCalm new
  pub trees : new.trees ≡ old.trees
