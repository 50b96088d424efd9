use Rattle.std.proofs.Common.{refl}
use Rattle.sqlite_tied.specs.Compute.{everything}
use Rattle.sqlite.specs.Listing.{understood}
use Rattle.mr_rows.proofs.TableFacts.{error_facts}
use Rattle.mr_rows.proofs.AskedTexts.{room_asks, id_asks}
use Rattle.mr_rows.proofs.slot_rows.ErrorRowAskedRow.asked.Goals as goal

pub returns : goal.returns
unfolding understood everything
returns c = record {
  room = room_asks error_facts _ 1 (λ row. row.room) ((refl, (refl, refl)), refl) (λ x v. refl) (λ room r is. refl) (λ room r is. is) refl (λ room. refl);
  id = id_asks error_facts _ 5 6 ((refl, (refl, refl)), refl) (λ x v. refl) (λ x v. refl) (λ id r is. refl) (λ id r is. is) refl (λ id. refl);
}
