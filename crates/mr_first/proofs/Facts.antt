-- What is computed of the tables that the first schema alone has.
use Rattle.std.proofs.Common.{refl}
use Rattle.sqlite_value.specs.Keys.{first_key}
use Rattle.mr_tables.specs.TableOrders.{id_order}
use Rattle.mr_rows.specs.Schema.{first_schema}
use Rattle.mr_rows.proofs.TableLemmas.{facts_by_id}
use Rattle.mr_first.specs.Forms.{write_form, undo_form}
use Rattle.mr_rows.specs.Facts.{Facts}

unfoldable pub write_facts : Facts first_schema write_form
unfolding first_key
write_facts = facts_by_id write_form id_order 3 1 2 refl (λ x v. refl) (λ x v. refl) (λ x. refl) (λ x. refl) (λ x id r. refl) (λ db. refl) refl (λ _ _. refl)

unfoldable pub undo_facts : Facts first_schema undo_form
unfolding first_key
undo_facts = facts_by_id undo_form id_order 4 1 2 refl (λ x v. refl) (λ x v. refl) (λ x. refl) (λ x. refl) (λ x id r. refl) (λ db. refl) refl (λ _ _. refl)
