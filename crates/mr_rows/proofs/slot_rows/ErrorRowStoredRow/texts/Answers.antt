use Rattle.std.proofs.Common.{refl}
use Rattle.sqlite_tied.specs.Compute.{everything}
use Rattle.sqlite.specs.Listing.{understood}
use Rattle.mr_rows.proofs.TableFacts.{error_facts, error_facts_first}
use Rattle.mr_rows.proofs.TableTexts.{two_told}
use Rattle.mr_rows.proofs.slot_rows.ErrorRowStoredRow.texts.Goals as goal

pub returns : goal.returns
unfolding understood everything error_facts error_facts_first
returns c =
    let told = two_told error_facts ((refl, (refl, refl)), refl) refl refl (refl, (refl, refl)) error_facts_first ((refl, (refl, refl)), refl) refl refl (refl, (refl, refl)) in
    record { asks = told.0; puts = told.1 }
