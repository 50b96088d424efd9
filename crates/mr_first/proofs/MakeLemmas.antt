-- What making the tables of a schema does, beside those of another or of none.
use Rattle.std.proofs.Common.{◌≡◌, ℕ, List, [], ◌∷◌, ◌++◌, Ok, None, IsTrue, false, drop, refl, sym, ap, subst, ◌∙◌, append-nil, append_assoc}
use Rattle.std.specs.List.{AllByRecursion}
use Rattle.sqlite_value.specs.Order.{Row}
use Rattle.sqlite_schema.specs.declared.schema.Table.{Table}
use Rattle.sqlite_schema.specs.declared.schema.Schema.{Schema}
use Rattle.sqlite_catalog.specs.Change.{KeepsRows}
use Rattle.sqlite_keyed.proofs.ListLemmas.{all_of, all_both, all-append}
use Rattle.sqlite_tied.specs.Compute.{everything}
use Rattle.sqlite.specs.Change.{created, next_tree}
use Rattle.sqlite.specs.Command.TheVariants.{CreateTable}
use Rattle.sqlite.specs.Effect.{Database}
use Rattle.sqlite.specs.Does.{Tally, lacks_sequence}
use Rattle.sqlite.specs.Listing.{understood}
use Rattle.sqlite.specs.State.{State, HasCleanDisk, Survives, Writes, ExecutesInside}
use Rattle.sqlite.proofs.Callers.{runs_as}
use Rattle.mr_rows.specs.Schema.{no_schema, first_schema, our_schema, meta_text, room_text, vector_text, write_log_text, undo_text, booking_text, error_text, log_text, cancelled_text}
use Rattle.mr_rows.specs.Schema.{cancel_text, meta_table, room_table, vector_table, write_log_table, undo_table, booking_table, error_table, log_table, cancelled_table, cancel_table}
use Rattle.mr_rows.specs.Form.{Form, meta_form, room_form, vector_form, log_form, booking_form, error_form, cancelled_form, cancel_form}
use Rattle.mr_rows.specs.Database.{IsHeld, IsTablesStep, first_meta, in_order, tables_in}
use Rattle.mr_rows.proofs.FormLemmas.{went, same_value}
use Rattle.mr_rows.proofs.StepLemmas.{clean_before}
use Rattle.mr_first.specs.FirstDatabase.{IsFirst, first_in}
use Rattle.mr_first.specs.MoveUpSteps.{IsExtended, IsEmptied, laid_out}
use Rattle.mr_first.specs.TableTexts.{MakesTable, MakesSchema}

-- a text that makes a table, run inside a transaction, makes it beside the others
makes : (schema : Schema) (text : List ℕ) (table : Table) (old new : State) (count : ℕ) → MakesTable schema text table → old.now.schema ≡ schema → ExecutesInside 0 text [] old new (Ok count)
    → IsExtended schema (created schema table) old new
makes schema text table old new count fact has h =
    let w = subst (λ t. Writes old new None CreateTable t [] count) fact.2 (runs_as text [] old new schema has CreateTable fact.0 fact.1 count h.0) in
    let all = went w.changed in
    let first = went all.1 in
    let made = first.1 in
    let both : Ok made.table ≡ Ok table = sym made.defined ∙ fact.3 in
    let same : made.table ≡ table = same_value both in
    let after : first.0.schema ≡ created schema table = made.is ∙ ap (λ s. created s made.table) has ∙ ap (created schema) same in
    let plain : lacks_sequence first.0.schema ≡ false = ap lacks_sequence after ∙ fact.4 in
    let now : new.now ≡ first.0 = ap (λ (p : Tally × Database). p.1) (same_value all.2) ∙ same_value (rw plain at first.2) in
    let empty : new.now.trees (next_tree schema) ≡ [] = ap (λ (d : Database). d.trees (next_tree schema)) now ∙ subst (λ s. first.0.trees (next_tree s) ≡ []) has made.empty in
    record {
      schema = ap (λ (d : Database). d.schema) now ∙ after;
      further = record table { tree = next_tree schema } ∷ [];
      beside = refl;
      rows = subst (λ (d : Database). KeepsRows schema.tables old.now.trees d.trees) (sym now) (subst (λ s. KeepsRows s.tables old.now.trees first.0.trees) has made.others);
      empty = (empty, tt);
      committed = h.1.committed_is;
      within = h.1.mode;
    }

-- ---- one after the other

-- what holds of two lists in one holds of each
all_parts : {X : Type 0} (P : X → Type 0) (xs ys : List X) → AllByRecursion P (xs ++ ys) → AllByRecursion P xs × AllByRecursion P ys
all_parts P [] ys all = (tt, all)
all_parts P (x ∷ xs) ys all = let more = all_parts P xs ys all.1 in ((all.0, more.0), more.1)

-- what extends an extended schema extends the first one
extends_then : (first second third : Schema) (a b c : State) → IsExtended first second a b → IsExtended second third b c → IsExtended first third a c
extends_then first second third a b c x y =
    let kept = all_parts _ first.tables x.further (subst (λ tables. KeepsRows tables b.now.trees c.now.trees) x.beside y.rows) in
    record {
      schema = y.schema;
      further = x.further ++ y.further;
      beside = y.beside ∙ ap (λ tables. tables ++ y.further) x.beside ∙ append_assoc first.tables x.further y.further;
      rows = all_both _ _ _ (λ t now was. now ∙ was) first.tables kept.0 x.rows;
      empty = all-append _ x.further y.further (all_both _ _ _ (λ t now none. now ∙ none) x.further kept.1 x.empty) y.empty;
      committed = y.committed ∙ x.committed;
      within = y.within;
    }

-- some tables were made, and the texts that are left make the others
abbrev pub IsUnderWay : State → State → List (List ℕ) → List (List ℕ) → Type 0
IsUnderWay first now texts left = (before after : Schema) → MakesSchema before texts after → HasCleanDisk now → IsTrue first.in_transaction → first.now.schema ≡ before
    → (middle : Schema) × MakesSchema middle left after × IsExtended before middle first now

-- before the first text
pub begins : (first : State) (texts : List (List ℕ)) → IsUnderWay first first texts texts
begins first texts before after make clean within schema = (
  before,
  make,
  record { schema = schema; further = []; beside = sym (append-nil before.tables); rows = all_of _ (λ t. refl) before.tables; empty = tt; committed = refl; within = within },
)

-- behind one more text
pub goes_on : (first now next : State) (texts left : List (List ℕ)) (text : List ℕ) (count : ℕ) → IsUnderWay first now texts (text ∷ left) → Survives now next (λ _. ⊥)
    → (HasCleanDisk next → IsTrue now.in_transaction → ExecutesInside 0 text [] now next (Ok count)) → IsUnderWay first next texts left
goes_on first now next texts left text count way s ran before after make clean within schema =
    let so_far = way before after make (clean_before now next s clean) within schema in
    let middle = so_far.0 in
    let table = so_far.1.0 in
    let more = created middle table in
    let step = makes middle text table now next count so_far.1.1 so_far.2.schema (ran clean so_far.2.within) in
    (more, so_far.1.2, extends_then before middle more first now next so_far.2 step)

-- ---- the two schemas: what the prover computes of each text

pub first_made : MakesSchema no_schema (meta_text ∷ room_text ∷ vector_text ∷ write_log_text ∷ undo_text ∷ booking_text ∷ error_text ∷ []) first_schema
unfolding understood everything
first_made = (
  meta_table,
  (refl, (refl, refl), refl, refl, refl),
  (
    room_table,
    (refl, (refl, refl), refl, refl, refl),
    (
      vector_table,
      (refl, (refl, refl), refl, refl, refl),
      (
        write_log_table,
        (refl, (refl, refl), refl, refl, refl),
        (undo_table, (refl, (refl, refl), refl, refl, refl), (booking_table, (refl, (refl, refl), refl, refl, refl), (error_table, (refl, (refl, refl), refl, refl, refl), refl))),
      ),
    ),
  ),
)

pub second_made : MakesSchema first_schema (log_text ∷ cancelled_text ∷ cancel_text ∷ []) our_schema
unfolding understood everything
second_made =
    (log_table, (refl, (refl, refl), refl, refl, refl), (cancelled_table, (refl, (refl, refl), refl, refl, refl), (cancel_table, (refl, (refl, refl), refl, refl, refl), refl)))

-- ---- tables that were emptied, and the others made

-- no rows are rows of any form
pub held_none : {R K : Type 0} (f : Form R K) {rows : List Row} → rows ≡ [] → IsHeld f rows
held_none f none = subst (IsHeld f) (sym none) (record { shelf = record { rise = tt; keyed = tt }; whole = tt; apart = tt })

-- then the tables are laid out
pub lays_out : (a b c : State) → IsFirst a.now → IsEmptied a b → IsExtended first_schema our_schema b c → IsTablesStep a c (laid_out (first_in a.now.trees))
unfolding tables_in first_in
lays_out a b c first e w =
    let rows = w.rows in
    let own : AllByRecursion (λ (t : Table). c.now.trees t.tree ≡ []) (drop 7 our_schema.tables) =
    subst (AllByRecursion (λ (t : Table). c.now.trees t.tree ≡ [])) (sym (ap (drop 7) w.beside)) w.empty in
    let was = first.held in
    let meta = rows.0 ∙ e.meta in
    let room = rows.1.0 ∙ e.room in
    let vector = rows.1.1.0 ∙ e.vector in
    let booking = rows.1.1.1.1.1.0 ∙ e.booking in
    let error = rows.1.1.1.1.1.1.0 ∙ e.errorlog in
    record {
      ours = record {
        schema = w.schema;
        held = record {
          meta = held_none meta_form meta;
          room = subst (IsHeld room_form) (sym room) was.room;
          vector = subst (IsHeld vector_form) (sym vector) was.vector;
          log = held_none log_form own.0;
          booking = subst (IsHeld booking_form) (sym booking) was.booking;
          errorlog = subst (IsHeld error_form) (sym error) was.errorlog;
          cancelled = held_none cancelled_form own.1.0;
          cancels = held_none cancel_form own.1.1.0;
          no_write_log = rows.1.1.1.0 ∙ e.write_log;
          no_undo = rows.1.1.1.1.0 ∙ e.undo;
        };
      };
      tables_are = λ i. record {
        meta = first_meta (in_order meta_form (meta i));
        room = in_order room_form (room i);
        vector = in_order vector_form (vector i);
        log = in_order log_form (own.0 i);
        booking = in_order booking_form (booking i);
        errorlog = in_order error_form (error i);
        cancelled = in_order cancelled_form (own.1.0 i);
        cancels = in_order cancel_form (own.1.1.0 i);
      };
      committed = w.committed ∙ e.committed;
      within = w.within;
    }
