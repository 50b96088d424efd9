-- The rows that a keeper holds for a replica are rows of ours, and `meta` has one.
use Rattle.std.proofs.Common.{◌≡◌, ℕ, ℤ, List, [], ◌∷◌, length, map, IsTrue, refl, sym, ap, subst, ◌∙◌}
use Rattle.std.specs.List.{AllByRecursion}
use Rattle.sqlite_value.specs.declared.value.Value.TheVariants.{Int}
use Rattle.sqlite_value.specs.Order.{Row}
use Rattle.sqlite_trees.specs.Tree.{Trees, rowid}
use Rattle.sqlite_schema.specs.declared.schema.Schema.{Schema}
use Rattle.sqlite_rules.specs.Edit.{id_in}
use Rattle.sqlite_trees.proofs.ListLemmas.{all_both, all_from_map}
use Rattle.mr_model.specs.Replica.{Replica}
use Rattle.mr_model.specs.Tables.{MetaRow, ActionCells, OfMeeting, OfCancel, LogRow, Stands}
use Rattle.mr_model.proofs.Members.{all_has, has_all}
use Rattle.mr_rows.specs.Form.{Form, meta_form, room_form, vector_form, log_form, booking_form, error_form, cancelled_form, cancel_form}
use Rattle.mr_rows.specs.Database.{IsRowOf, IsHeld, AreHeld, first_meta, in_order, tables_in}
use Rattle.mr_rows.specs.Shown.{columns_from, IsStoredAs, AreOurRows}
use Rattle.mr_rows.specs.TableLimits.{AreWithinLimits}
use Rattle.mr_rows.proofs.SortedByKey.{has_ordered}
use Rattle.mr_rows.proofs.TableLemmas.{plain_apart}
use Rattle.mr_rows.proofs.TableFacts.{room_facts, vector_facts, log_facts, booking_facts, error_facts, cancelled_facts, cancel_facts}
use Rattle.mr_rows.proofs.LimitsKept.{limits_kept}
use Rattle.mr_rows.specs.Facts.{Facts}

-- the cells of a plain row are the columns behind a rowid
abbrev pub IsSpelled : {R K : Type 0} → Form R K → Type 0
IsSpelled {R} f = (x : R) (id : ℤ) → f.cells x ≡ columns_from 1 (length f.table.columns) (Int id ∷ f.cells x)

pub log_spelled : IsSpelled log_form
log_spelled w id = go w.action
  where
    go : (a : ActionCells) → let x : LogRow = record w { action = a } in log_form.cells x ≡ columns_from 1 12 (Int id ∷ log_form.cells x)
    go (OfMeeting m) = refl
    go (OfCancel t) = refl

-- one row that is whole, and within its limits
pub row_stored : {R K : Type 0} (f : Form R K) (r : Row) → IsSpelled f → IsRowOf f r → IsTrue (f.within (f.row_in r)) → IsStoredAs f r
row_stored f r spelled is fits = (spelled (f.row_in r) (id_in (rowid r)) ∙ ap (columns_from 1 (length f.table.columns)) (sym is), fits)

-- a table whose rows, in order, are within the limits
pub table_stored : {under : Schema} {R K : Type 0} (f : Form R K) (facts : Facts under f) (rows : List Row) → IsSpelled f → IsHeld f rows → AllByRecursion (λ x. IsTrue (f.within x)) (in_order f rows)
    → AllByRecursion (IsStoredAs f) rows
table_stored {R = R} f facts rows spelled held fit =
    let within = λ (x : R). IsTrue (f.within x) in
    let each = has_all within (map f.row_in rows)
    (λ x here. all_has within x (in_order f rows) fit (has_ordered f.before f.key facts.order (map f.row_in rows) (plain_apart f facts rows held) x here)) in
    all_both (IsRowOf f) (λ r. within (f.row_in r)) (IsStoredAs f) (λ r is fits. row_stored f r spelled is fits) rows held.whole (all_from_map within f.row_in rows each)

-- where all rows have one key, and the row that stands for none isn't within the limits, there is one
pub meta_stored : (f : Form MetaRow ℕ) (rows : List Row) → IsSpelled f → ((x y : MetaRow) → f.key x ≡ f.key y)
    → ¬ IsTrue (f.within (first_meta [])) → IsHeld f rows → IsTrue (f.within (first_meta (in_order f rows)))
    → AllByRecursion (IsStoredAs f) rows × (length rows ≡ 1)
meta_stored f [] spelled alike none held fits = absurd (none fits)
meta_stored f (r ∷ []) spelled alike none held fits = ((row_stored f r spelled held.whole.0 fits, tt), refl)
meta_stored f (r ∷ s ∷ rows) spelled alike none held fits = absurd (held.apart.0.0 (alike (f.row_in r) (f.row_in s)))

pub rows_held : (trees : Trees) (a : Replica) → AreHeld trees → Stands (tables_in trees) a → AreOurRows trees × (length (trees 0) ≡ 1)
unfolding tables_in
rows_held trees a held stands =
    let fit = subst AreWithinLimits (sym stands.are) (limits_kept a stands.sound) in
    let meta = meta_stored meta_form (trees 0) (λ m id. refl) (λ x y. refl) (λ fits. cc) held.meta fit.meta in (
      record {
        meta = meta.0;
        room = table_stored room_form room_facts (trees 2) (λ x id. refl) held.room fit.room;
        vector = table_stored vector_form vector_facts (trees 4) (λ x id. refl) held.vector fit.vector;
        log = table_stored log_form log_facts (trees 14) log_spelled held.log fit.log;
        booking = table_stored booking_form booking_facts (trees 10) (λ x id. refl) held.booking fit.booking;
        errorlog = table_stored error_form error_facts (trees 12) (λ x id. refl) held.errorlog fit.errorlog;
        cancelled = table_stored cancelled_form cancelled_facts (trees 16) (λ x id. refl) held.cancelled fit.cancelled;
        cancels = table_stored cancel_form cancel_facts (trees 18) (λ x id. refl) held.cancels fit.cancels;
        no_write_log = held.no_write_log;
        no_undo = held.no_undo;
      },
      meta.1,
    )
