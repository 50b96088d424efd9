use Rattle.std.proofs.Common.{refl}
use Rattle.sqlite_tied.specs.Compute.{everything}
use Rattle.sqlite.specs.Listing.{understood}
use Rattle.mr_rows.proofs.TableFacts.{cancelled_facts}
use Rattle.mr_rows.proofs.slot_rows.CancelledRowRequestRow.taking.Goals as goal

pub returns : goal.returns
unfolding understood everything cancelled_facts
returns c = record { facts = cancelled_facts; key_of = λ id. id; means = (refl, (refl, refl)); cells = λ id. refl; finds = λ id x. refl }
