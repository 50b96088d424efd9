-- What is computed of each table, under both schemas where both have it.
use Rattle.std.proofs.Common.{◌≡◌, ℕ, pos, [], ◌∷◌, ◌==◌, true, refl, eqb-true, eq-eqb}
use Rattle.std.specs.Prelude.{bytes_eq, length, ◌/◌}
use Rattle.std.proofs.lemmas.Slice.Eq.{bytes_eq-Decides}
use Rattle.sqlite_value.specs.declared.value.Value.TheVariants.{Null, Int, Text}
use Rattle.sqlite_value.specs.Keys.{first_key}
use Rattle.sqlite.specs.Effect.{value_rows}
use Rattle.sqlite.specs.Rows.{stamped}
use Rattle.mr_model.specs.Tables.{ActionCells, OfMeeting, OfCancel, LogRow}
use Rattle.mr_tables.specs.TableOrders.{id_order, number_order, name_order}
use Rattle.mr_rows.specs.Schema.{our_schema, first_schema}
use Rattle.mr_rows.specs.Form.{meta_form_of, room_form, vector_form, log_form, booking_form, error_form, cancelled_form, cancel_form}
use Rattle.mr_rows.specs.StatementMeaning.{values_of, width_of}
use Rattle.mr_rows.proofs.ValueLemmas.{equal_nat, equal_text}
use Rattle.mr_rows.proofs.TableLemmas.{facts_by_one, facts_by_id}
use Rattle.mr_rows.specs.Facts.{Facts, are_plain}

-- ---- tables with a key of one column

-- (under the schema of any number)
unfoldable pub meta_facts : (number : ℕ) → Facts our_schema (meta_form_of number)
unfolding first_key
meta_facts number = facts_by_one (meta_form_of number) number_order 0 (λ k. Int (pos k)) (λ a b. a == b) equal_nat eqb-true eq-eqb refl
    (λ x v. refl) (λ x. refl) (λ x. refl) (λ x id r. refl) (λ db. refl) refl (λ _ _. refl)

unfoldable pub meta_facts_first : (number : ℕ) → Facts first_schema (meta_form_of number)
unfolding first_key
meta_facts_first number = facts_by_one (meta_form_of number) number_order 0 (λ k. Int (pos k))
    (λ a b. a == b) equal_nat eqb-true eq-eqb refl (λ x v. refl) (λ x. refl) (λ x. refl) (λ x id r. refl) (λ db. refl) refl (λ _ _. refl)

unfoldable pub room_facts : Facts our_schema room_form
unfolding first_key
room_facts = facts_by_one room_form name_order 1 Text bytes_eq equal_text (λ a b. (bytes_eq-Decides a b).0)
    (λ a b. (bytes_eq-Decides a b).1) refl (λ x v. refl) (λ x. refl) (λ x. refl) (λ x id r. refl) (λ db. refl) refl (λ _ _. refl)

unfoldable pub room_facts_first : Facts first_schema room_form
unfolding first_key
room_facts_first = facts_by_one room_form name_order 1 Text bytes_eq equal_text (λ a b. (bytes_eq-Decides a b).0)
    (λ a b. (bytes_eq-Decides a b).1) refl (λ x v. refl) (λ x. refl) (λ x. refl) (λ x id r. refl) (λ db. refl) refl (λ _ _. refl)

unfoldable pub vector_facts : Facts our_schema vector_form
unfolding first_key
vector_facts = facts_by_one vector_form number_order 2 (λ k. Int (pos k)) (λ a b. a == b) equal_nat eqb-true eq-eqb refl
    (λ x v. refl) (λ x. refl) (λ x. refl) (λ x id r. refl) (λ db. refl) refl (λ _ _. refl)

unfoldable pub vector_facts_first : Facts first_schema vector_form
unfolding first_key
vector_facts_first = facts_by_one vector_form number_order 2 (λ k. Int (pos k)) (λ a b. a == b) equal_nat eqb-true eq-eqb refl
    (λ x v. refl) (λ x. refl) (λ x. refl) (λ x id r. refl) (λ db. refl) refl (λ _ _. refl)

-- ---- tables with the key server, n

unfoldable pub booking_facts : Facts our_schema booking_form
unfolding first_key
booking_facts = facts_by_id booking_form id_order 5 5 6 refl (λ x v. refl) (λ x v. refl) (λ x. refl) (λ x. refl) (λ x id r. refl) (λ db. refl) refl (λ _ _. refl)

unfoldable pub booking_facts_first : Facts first_schema booking_form
unfolding first_key
booking_facts_first = facts_by_id booking_form id_order 5 5 6 refl (λ x v. refl) (λ x v. refl) (λ x. refl) (λ x. refl) (λ x id r. refl) (λ db. refl) refl (λ _ _. refl)

unfoldable pub error_facts : Facts our_schema error_form
unfolding first_key
error_facts = facts_by_id error_form id_order 6 5 6 refl (λ x v. refl) (λ x v. refl) (λ x. refl) (λ x. refl) (λ x id r. refl) (λ db. refl) refl (λ _ _. refl)

unfoldable pub error_facts_first : Facts first_schema error_form
unfolding first_key
error_facts_first = facts_by_id error_form id_order 6 5 6 refl (λ x v. refl) (λ x v. refl) (λ x. refl) (λ x. refl) (λ x id r. refl) (λ db. refl) refl (λ _ _. refl)

-- (a row of the log has cells by its action)
pub log_given : (w : LogRow) → value_rows (stamped log_form.table (log_form.cells w)) (width_of log_form.table) (length (values_of log_form.table) / width_of log_form.table) (values_of log_form.table)
    ≡ (Null ∷ log_form.cells w) ∷ []
log_given w = go w.action
  where
    go : (a : ActionCells) → let x : LogRow = record w { action = a } in
        value_rows (stamped log_form.table (log_form.cells x)) 13 (length (values_of log_form.table) / 13) (values_of log_form.table) ≡ (Null ∷ log_form.cells x) ∷ []
    go (OfMeeting m) = refl
    go (OfCancel t) = refl

pub log_plain : (w : LogRow) → are_plain log_form.table.columns (log_form.cells w) ≡ true
log_plain w = go w.action
  where
    go : (a : ActionCells) → let x : LogRow = record w { action = a } in are_plain log_form.table.columns (log_form.cells x) ≡ true
    go (OfMeeting m) = refl
    go (OfCancel t) = refl

unfoldable pub log_facts : Facts our_schema log_form
unfolding first_key
log_facts = facts_by_id log_form id_order 7 1 2 refl (λ x v. refl) (λ x v. refl) log_given log_plain (λ x id r. refl) (λ db. refl) refl (λ _ _. refl)

unfoldable pub cancelled_facts : Facts our_schema cancelled_form
unfolding first_key
cancelled_facts = facts_by_id cancelled_form id_order 8 5 6 refl (λ x v. refl) (λ x v. refl) (λ x. refl) (λ x. refl) (λ x id r. refl) (λ db. refl) refl (λ _ _. refl)

unfoldable pub cancel_facts : Facts our_schema cancel_form
unfolding first_key
cancel_facts = facts_by_id cancel_form id_order 9 1 2 refl (λ x v. refl) (λ x v. refl) (λ x. refl) (λ x. refl) (λ x id r. refl) (λ db. refl) refl (λ _ _. refl)
