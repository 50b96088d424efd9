-- Whether a row has the id that a command would give.
use Rattle.std.specs.Prelude.{Bool, false, Option, Some, None}
use Rattle.mr_model.specs.Writes.{Id}
use Rattle.mr_model.specs.Tables.{Tables}
use Rattle.mr_agree.specs.Ids.{has_row_of_id}

abbrev pub is_id_taken : Option Id → Tables → Bool
is_id_taken None t = false
is_id_taken (Some id) t = has_row_of_id id t
