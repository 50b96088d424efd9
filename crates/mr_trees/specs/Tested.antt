-- Trees each row of which was tested.
use Rattle.std.specs.Prelude.{◌≡◌, []}
use Rattle.sqlite_trees.specs.Tree.{Trees}
use Rattle.mr_rows.specs.Form.{room_form, vector_form, log_form, booking_form, error_form, cancelled_form, cancel_form}
use Rattle.mr_rows.specs.Shown.{AreStoredAs}

-- `room`, `vector` and the logs
pub record WritesAreTested (trees : Trees) : Type 0 where
  pub room : AreStoredAs room_form trees
  pub vector : AreStoredAs vector_form trees
  pub log : AreStoredAs log_form trees
  pub no_write_log : trees 6 ≡ []
  pub no_undo : trees 8 ≡ []

-- the tables of what became of writes
pub record FatesAreTested (trees : Trees) : Type 0 where
  pub booking : AreStoredAs booking_form trees
  pub errorlog : AreStoredAs error_form trees
  pub cancelled : AreStoredAs cancelled_form trees
  pub cancels : AreStoredAs cancel_form trees
