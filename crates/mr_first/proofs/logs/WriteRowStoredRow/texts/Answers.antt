use Rattle.std.proofs.Common.{refl}
use Rattle.sqlite_tied.specs.Compute.{everything}
use Rattle.sqlite.specs.Listing.{understood}
use Rattle.mr_rows.proofs.TableTexts.{first_told}
use Rattle.mr_first.proofs.Facts.{write_facts}
use Rattle.mr_first.proofs.logs.WriteRowStoredRow.texts.Goals as goal

pub returns : goal.returns
unfolding understood everything write_facts
returns c = let told = first_told write_facts ((refl, (refl, refl)), refl) refl refl (refl, (refl, refl)) in record { asks = told.0; puts = told.1 }
