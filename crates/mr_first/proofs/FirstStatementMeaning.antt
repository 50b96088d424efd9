-- What the statements that take all rows away mean under the first schema.
use Rattle.std.proofs.Common.{ℕ, List, [], ◌∷◌, codes, refl}
use Rattle.sqlite_sql.specs.Term.{col}
use Rattle.sqlite_tied.specs.Compute.{everything}
use Rattle.sqlite.specs.Listing.{understood}
use Rattle.sqlite.specs.Command.TheVariants.{Delete}
use Rattle.mr_rows.specs.Schema.{first_schema}
use Rattle.mr_rows.specs.StatementMeaning.{MeansIn, program_of}

abbrev pub clear_meta_text : List ℕ
clear_meta_text = codes "DELETE FROM meta"

pub clear_meta_is : MeansIn first_schema clear_meta_text (Delete 0 (program_of 0 [] (col 1 0 ∷ [])))
unfolding understood everything
clear_meta_is = (refl, (refl, refl))

abbrev pub clear_write_text : List ℕ
clear_write_text = codes "DELETE FROM write_log"

pub clear_write_is : MeansIn first_schema clear_write_text (Delete 3 (program_of 6 [] (col 1 0 ∷ [])))
unfolding understood everything
clear_write_is = (refl, (refl, refl))

abbrev pub clear_undo_text : List ℕ
clear_undo_text = codes "DELETE FROM undo"

pub clear_undo_is : MeansIn first_schema clear_undo_text (Delete 4 (program_of 8 [] (col 1 0 ∷ [])))
unfolding understood everything
clear_undo_is = (refl, (refl, refl))
