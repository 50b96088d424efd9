use Rattle.std.proofs.Common.{refl}
use Rattle.sqlite_tied.specs.Compute.{everything}
use Rattle.sqlite.specs.Listing.{understood}
use Rattle.mr_rows.proofs.TableFacts.{cancelled_facts}
use Rattle.mr_rows.proofs.TableTexts.{our_told}
use Rattle.mr_rows.proofs.slot_rows.CancelledRowStoredRow.texts.Goals as goal

pub returns : goal.returns
unfolding understood everything cancelled_facts
returns c = let told = our_told cancelled_facts ((refl, (refl, refl)), refl) refl refl (refl, (refl, refl)) in record { asks = told.0; puts = told.1 }
