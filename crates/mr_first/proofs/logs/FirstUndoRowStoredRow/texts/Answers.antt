use Rattle.std.proofs.Common.{refl}
use Rattle.sqlite_tied.specs.Compute.{everything}
use Rattle.sqlite.specs.Listing.{understood}
use Rattle.mr_rows.proofs.TableTexts.{first_told}
use Rattle.mr_first.proofs.Facts.{undo_facts}
use Rattle.mr_first.proofs.logs.FirstUndoRowStoredRow.texts.Goals as goal

pub returns : goal.returns
unfolding understood everything undo_facts
returns c = let told = first_told undo_facts ((refl, (refl, refl)), refl) refl refl (refl, (refl, refl)) in record { asks = told.0; puts = told.1 }
