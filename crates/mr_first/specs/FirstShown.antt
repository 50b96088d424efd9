-- What is known of the rows of a database of the first schema that could be read.
use Rattle.sqlite_trees.specs.Tree.{Trees}
use Rattle.mr_rows.specs.Form.{room_form, vector_form, booking_form, error_form}
use Rattle.mr_rows.specs.Shown.{AreStoredAs}
use Rattle.mr_first.specs.Forms.{first_meta_form, write_form, undo_form}

-- all tables have rows of their own
pub record AreFirstRows (trees : Trees) : Type 0 where
  pub meta : AreStoredAs first_meta_form trees
  pub room : AreStoredAs room_form trees
  pub vector : AreStoredAs vector_form trees
  pub write_log : AreStoredAs write_form trees
  pub undo : AreStoredAs undo_form trees
  pub booking : AreStoredAs booking_form trees
  pub errorlog : AreStoredAs error_form trees
