use Rattle.std.proofs.Common.{refl}
use Rattle.sqlite_tied.specs.Compute.{everything}
use Rattle.sqlite.specs.Listing.{understood}
use Rattle.mr_rows.proofs.TableFacts.{error_facts}
use Rattle.mr_rows.proofs.slot_rows.ErrorRowRequestRow.taking.Goals as goal

pub returns : goal.returns
unfolding understood everything error_facts
returns c = record { facts = error_facts; key_of = λ id. id; means = (refl, (refl, refl)); cells = λ id. refl; finds = λ id x. refl }
