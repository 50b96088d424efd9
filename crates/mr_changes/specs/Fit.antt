-- A store that holds our tables, each with the index of its key.
use Rattle.std.specs.Prelude.{◌≡◌, false}
use Rattle.sqlite_trees.specs.View.{View}
use Rattle.mr_rows.specs.Database.{AreHeld}
use Rattle.mr_changes.specs.Indexed.{HasTrees, AreIndexed}

-- in a transaction, or between two
pub record IsFit (v : View) : Type 0 where
  pub sound : v.is_broken ≡ false
  pub trees : HasTrees v.shape
  pub held : AreHeld v.trees
  pub indexed : AreIndexed v.trees

-- between transactions: nothing is uncommitted
pub record IsViewKept (v : View) : Type 0 where
  pub fit : IsFit v
  pub settled : v.trees ≡ v.committed
