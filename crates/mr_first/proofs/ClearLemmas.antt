-- What taking all rows of a table away makes of the trees, and that of several tables.
use Rattle.std.proofs.Common.{◌≡◌, ℕ, List, [], ◌∷◌, filter, false, None, Ok, Err, Result, OnOk, IsTrue, refl, sym, subst, ◌∙◌, false-eqb}
use Rattle.sqlite_value.specs.Order.{Row}
use Rattle.sqlite_sql.specs.Term.{col}
use Rattle.sqlite_schema.specs.declared.schema.Keys.TheVariants.{Enforced}
use Rattle.sqlite_schema.specs.declared.program.Program.{Program}
use Rattle.sqlite.specs.Command.TheVariants.{Delete}
use Rattle.sqlite.specs.declared.error.Error.{Error}
use Rattle.sqlite.specs.Listing.{understood}
use Rattle.sqlite.specs.Rows.{Task}
use Rattle.sqlite.specs.Does.{Does, OnRows}
use Rattle.sqlite.specs.State.{State, HasCleanDisk, Survives, mode_of, ExecutesInside}
use Rattle.sqlite.proofs.Callers.{statement_of, runs_as}
use Rattle.mr_rows.specs.Schema.{first_schema}
use Rattle.mr_rows.specs.Shelf.{IsShelf}
use Rattle.mr_rows.specs.Form.{Form}
use Rattle.mr_rows.specs.StatementMeaning.{MeansIn, program_of}
use Rattle.mr_rows.proofs.FormLemmas.{deletes}
use Rattle.mr_rows.proofs.TableLemmas.{on_table}
use Rattle.mr_rows.proofs.StepLemmas.{clean_before}
use Rattle.mr_first.specs.Forms.{first_meta_form, write_form, undo_form}
use Rattle.mr_first.specs.FirstDatabase.{IsFirst}
use Rattle.mr_first.specs.MoveUpSteps.{IsCleared, IsEmptied}
use Rattle.mr_first.proofs.FirstStatementMeaning.{clear_meta_text, clear_meta_is, clear_write_text, clear_write_is, clear_undo_text, clear_undo_is}
use Rattle.mr_rows.proofs.TableFacts.{meta_facts_first}
use Rattle.mr_first.proofs.Facts.{write_facts, undo_facts}
use Rattle.mr_first.proofs.FirstSteps.{no_index-0, no_index-2, no_index-4, no_index-6, no_index-8, no_index-10, no_index-12}
use Rattle.mr_rows.specs.Facts.{Facts}

none_left : (rows : List Row) → filter (λ _. false) rows ≡ []
none_left [] = refl
none_left (r ∷ rows) = none_left rows

-- a text that takes all rows of a table away
clears : {R K : Type 0} (f : Form R K) (facts : Facts first_schema f) (text : List ℕ) (old new : State) (r : Result ℕ Error)
    → MeansIn first_schema text (Delete facts.place (program_of f.table.tree [] (col 1 0 ∷ [])))
    → old.now.schema ≡ first_schema → IsShelf (old.now.trees f.table.tree) → ExecutesInside 0 text [] old new r → OnOk r (IsCleared f.table.tree old new)
clears f facts text old new (Err e) means schema shelf h = tt
clears f facts text old new (Ok count) means schema shelf h =
    let program : Program = program_of f.table.tree [] (col 1 0 ∷ []) in
    let command = Delete facts.place program in
    let w = runs_as text [] old new first_schema schema command means.0 means.1 count h.0 in
    let whole = statement_of text (understood first_schema text) in
    let done = subst (λ s. Does old.step_limit (mode_of old) [] (record old.now { schema = s }) whole None command (Ok (w.tally, new.now))) schema w.changed in
    let task : Task = record { limit = old.step_limit; keys = Enforced; schema = first_schema; table = f.table; params = [] } in
    let on = on_table f.table facts.place old.step_limit (mode_of old) [] old.now.trees (λ task. OnRows task (mode_of old) None command old.now.trees) (Ok (w.tally, new.now)) facts.stands done in
    let left = deletes task (mode_of old) facts.free facts.place [] program old.now.trees w.tally new.now refl (facts.alone old.now.trees) shelf on in
    record {
      schema = left.schema;
      empty = left.table ∙ none_left (old.now.trees f.table.tree);
      others = left.others;
      committed = h.1.committed_is;
      within = h.1.mode;
    }

pub clears_meta : (old new : State) (r : Result ℕ Error) → old.now.schema ≡ first_schema → IsShelf (old.now.trees 0) → ExecutesInside 0 clear_meta_text [] old new r → OnOk r (IsCleared 0 old new)
unfolding meta_facts_first
clears_meta old new r = clears first_meta_form (meta_facts_first 1) clear_meta_text old new r clear_meta_is

pub clears_write : (old new : State) (r : Result ℕ Error) → old.now.schema ≡ first_schema → IsShelf (old.now.trees 6) → ExecutesInside 0 clear_write_text [] old new r → OnOk r (IsCleared 6 old new)
unfolding write_facts
clears_write old new r = clears write_form write_facts clear_write_text old new r clear_write_is

pub clears_undo : (old new : State) (r : Result ℕ Error) → old.now.schema ≡ first_schema → IsShelf (old.now.trees 8) → ExecutesInside 0 clear_undo_text [] old new r → OnOk r (IsCleared 8 old new)
unfolding undo_facts
clears_undo old new r = clears undo_form undo_facts clear_undo_text old new r clear_undo_is

-- ---- one after the other

module _ (a b c d : State) (to_c : Survives b c (λ _. ⊥)) (to_d : Survives c d (λ _. ⊥)) where
  -- the three tables that have other rows in the second schema, or none
  pub empties : (HasCleanDisk b → IsTrue a.in_transaction → a.now.schema ≡ first_schema → IsShelf (a.now.trees 0) → IsCleared 0 a b)
      → (HasCleanDisk c → IsTrue b.in_transaction → b.now.schema ≡ first_schema → IsShelf (b.now.trees 6) → IsCleared 6 b c)
      → (HasCleanDisk d → IsTrue c.in_transaction → c.now.schema ≡ first_schema → IsShelf (c.now.trees 8) → IsCleared 8 c d)
      → HasCleanDisk d → IsTrue a.in_transaction → IsFirst a.now → IsEmptied a d
  empties meta write undo clean within first =
      let clean_c = clean_before c d to_d clean in
      let m = meta (clean_before b c to_c clean_c) within first.schema first.held.meta.shelf in
      let w = write clean_c m.within m.schema (subst IsShelf (sym (m.others 6 (false-eqb 6 0 refl) no_index-6)) first.held.write_log.shelf) in
      let u = undo clean w.within w.schema (subst IsShelf (sym (w.others 8 (false-eqb 8 6 refl) no_index-8 ∙ m.others 8 (false-eqb 8 0 refl) no_index-8)) first.held.undo.shelf) in
      record {
        schema = u.schema;
        meta = u.others 0 (false-eqb 0 8 refl) no_index-0 ∙ w.others 0 (false-eqb 0 6 refl) no_index-0 ∙ m.empty;
        room = u.others 2 (false-eqb 2 8 refl) no_index-2 ∙ w.others 2 (false-eqb 2 6 refl) no_index-2 ∙ m.others 2 (false-eqb 2 0 refl) no_index-2;
        vector = u.others 4 (false-eqb 4 8 refl) no_index-4 ∙ w.others 4 (false-eqb 4 6 refl) no_index-4 ∙ m.others 4 (false-eqb 4 0 refl) no_index-4;
        write_log = u.others 6 (false-eqb 6 8 refl) no_index-6 ∙ w.empty;
        undo = u.empty;
        booking = u.others 10 (false-eqb 10 8 refl) no_index-10 ∙ w.others 10 (false-eqb 10 6 refl) no_index-10 ∙ m.others 10 (false-eqb 10 0 refl) no_index-10;
        errorlog = u.others 12 (false-eqb 12 8 refl) no_index-12 ∙ w.others 12 (false-eqb 12 6 refl) no_index-12 ∙ m.others 12 (false-eqb 12 0 refl) no_index-12;
        committed = u.committed ∙ w.committed ∙ m.committed;
        within = u.within;
      }
