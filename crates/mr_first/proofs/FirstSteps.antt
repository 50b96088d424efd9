-- What a step on one table makes of the first tables, and steps one after another.
use Rattle.std.proofs.Common.{◌≡◌, inr, ℕ, Result, List, [], ◌∷◌, ◌+◌, ◌<◌, ◌≤◌, length, drop, get_or, refl, sym, ap, subst, ◌∙◌}
use Rattle.std.proofs.lemmas.List.{drop_more, drop_all}
use Rattle.sqlite_trees.specs.Tree.{Trees}
use Rattle.sqlite_rules.specs.Edit.{IsNoIndex}
use Rattle.sqlite.specs.State.{State, HasCleanDisk, KeepsCommit, Survives}
use Rattle.mr_model.specs.Tables.{MetaRow}
use Rattle.mr_model.specs.First.{FirstTables}
use Rattle.mr_rows.specs.Schema.{first_schema, IsOfTwo}
use Rattle.sqlite_schema.specs.declared.schema.Schema.{Schema}
use Rattle.sqlite.specs.declared.error.Error.{Error}
use Rattle.std.proofs.lemmas.Result.{on_ok_weaker}
use Rattle.mr_first.specs.FirstParts.{put_first_meta}
use Rattle.mr_rows.specs.Form.{Form, room_form, vector_form, booking_form, error_form}
use Rattle.mr_rows.specs.Database.{IsHeld, first_meta, in_order}
use Rattle.mr_rows.specs.TableSteps.{trees_with, Turns, PutsRow, IsTableOf, rows_put}
use Rattle.mr_tables.specs.Change.{put}
use Rattle.mr_rows.proofs.StepLemmas.{none_of, keeps_then, clean_before, first_put}
use Rattle.mr_first.specs.Forms.{first_meta_form, write_form, undo_form}
use Rattle.mr_first.specs.FirstDatabase.{AreHeldFirst, IsFirst, IsFirstStep, IsAskedFirst, MakesFirst, IsFirstUnderWay, first_in}

-- ---- the tables lie in trees that are no indexes

pub no_index-0 : IsNoIndex first_schema 0
no_index-0 = none_of 0 first_schema.indexes refl

pub no_index-2 : IsNoIndex first_schema 2
no_index-2 = none_of 2 first_schema.indexes refl

pub no_index-4 : IsNoIndex first_schema 4
no_index-4 = none_of 4 first_schema.indexes refl

pub no_index-6 : IsNoIndex first_schema 6
no_index-6 = none_of 6 first_schema.indexes refl

pub no_index-8 : IsNoIndex first_schema 8
no_index-8 = none_of 8 first_schema.indexes refl

pub no_index-10 : IsNoIndex first_schema 10
no_index-10 = none_of 10 first_schema.indexes refl

pub no_index-12 : IsNoIndex first_schema 12
no_index-12 = none_of 12 first_schema.indexes refl

abbrev SameTrees : Trees → Trees → Type 0
SameTrees a b = (t : ℕ) → IsNoIndex first_schema t → a t ≡ b t

tables_same : (a b : Trees) → SameTrees a b → first_in a ≡ first_in b
unfolding first_in
tables_same a b same =
    let meta = same 0 no_index-0 in
    let room = same 2 no_index-2 in
    let vector = same 4 no_index-4 in
    let write = same 6 no_index-6 in
    let undo = same 8 no_index-8 in
    let booking = same 10 no_index-10 in
    let error = same 12 no_index-12 in
    λ i. record {
      meta = first_meta (in_order first_meta_form (meta i));
      room = in_order room_form (room i);
      vector = in_order vector_form (vector i);
      write_log = in_order write_form (write i);
      undo = in_order undo_form (undo i);
      booking = in_order booking_form (booking i);
      errorlog = in_order error_form (error i);
    }

held_same : (a b : Trees) → SameTrees a b → AreHeldFirst b → AreHeldFirst a
held_same a b same held = record {
  meta = subst (IsHeld first_meta_form) (sym (same 0 no_index-0)) held.meta;
  room = subst (IsHeld room_form) (sym (same 2 no_index-2)) held.room;
  vector = subst (IsHeld vector_form) (sym (same 4 no_index-4)) held.vector;
  write_log = subst (IsHeld write_form) (sym (same 6 no_index-6)) held.write_log;
  undo = subst (IsHeld undo_form) (sym (same 8 no_index-8)) held.undo;
  booking = subst (IsHeld booking_form) (sym (same 10 no_index-10)) held.booking;
  errorlog = subst (IsHeld error_form) (sym (same 12 no_index-12)) held.errorlog;
}

-- where one table turns, the others stay
steps : {R K : Type 0} (f : Form R K) (rows_of : FirstTables → List R) (with_rows : List R → FirstTables → FirstTables)
    → IsTableOf AreHeldFirst first_in f rows_of with_rows → (old new : State) (xs : List R) → IsFirst old.now → Turns first_schema f old new xs
    → IsFirstStep old new (with_rows xs (first_in old.now.trees))
steps f rows_of with_rows is old new xs first turns = record {
  ours = record { schema = turns.schema; held = held_same _ _ turns.trees (is.held old.now.trees turns.rows first.held turns.held) };
  tables_are = tables_same _ _ turns.trees ∙ is.made old.now.trees turns.rows ∙ ap (λ ys. with_rows ys (first_in old.now.trees)) turns.rows_are;
  committed = turns.committed;
  within = turns.within;
}

-- so a row that is put into one is put into all
pub makes_put : {R K X : Type 0} (f : Form R K) (rows_of : FirstTables → List R) (with_rows : List R → FirstTables → FirstTables)
    → IsTableOf AreHeldFirst first_in f rows_of with_rows → (Stands : Schema → Type 0) → Stands first_schema
    → (old new : State) (x : R) (r : Result X Error) → PutsRow Stands f x old new r → MakesFirst old new (rows_put f rows_of with_rows (x ∷ []) (first_in old.now.trees)) r
makes_put f rows_of with_rows is Stands stands old new x r puts = (
  λ asked.
      on_ok_weaker r
      (λ done. subst (λ rows. IsFirstStep old new (with_rows (put f.before f.key x rows) (first_in old.now.trees))) (sym (is.read old.now.trees)) (steps f rows_of with_rows is old new _ asked.2 done))
      (puts.0 first_schema stands asked.0 asked.1 asked.2.schema (is.was old.now.trees asked.2.held)),
  puts.1,
)

meta_step : (old new : State) (xs : List MetaRow) → IsFirst old.now → Turns first_schema first_meta_form old new xs → IsFirstStep old new (record (first_in old.now.trees) { meta = first_meta xs })
unfolding first_in
meta_step old new xs first turns =
    let was = first.held in
    record {
      ours = record {
        schema = turns.schema;
        held = held_same _ (trees_with old.now.trees 0 turns.rows) turns.trees
            (record { meta = turns.held; room = was.room; vector = was.vector; write_log = was.write_log; undo = was.undo; booking = was.booking; errorlog = was.errorlog });
      };
      tables_are = tables_same _ (trees_with old.now.trees 0 turns.rows) turns.trees ∙ ap (λ ys. record (first_in old.now.trees) { meta = first_meta ys }) turns.rows_are;
      committed = turns.committed;
      within = turns.within;
    }

pub makes_meta : {X : Type 0} (old new : State) (x : MetaRow) (r : Result X Error) → PutsRow IsOfTwo first_meta_form x old new r → MakesFirst old new (put_first_meta x (first_in old.now.trees)) r
makes_meta old new x r puts = (
  λ asked.
      on_ok_weaker r (λ turns. subst (λ m. IsFirstStep old new (put_first_meta m (first_in old.now.trees))) (first_put x _) (meta_step old new _ asked.2 turns))
      (puts.0 first_schema (inr refl) asked.0 asked.1 asked.2.schema asked.2.held.meta),
  puts.1,
)

-- ---- one after another

-- a step is made of those that are left
goes_on : (first now next : State) (one rest both : FirstTables → FirstTables) (whole : FirstTables)
    → ((t : FirstTables) → both t ≡ rest (one t)) → IsFirstUnderWay first now (both (first_in now.now.trees)) whole
    → (IsAskedFirst now next → IsFirstStep now next (one (first_in now.now.trees))) × (HasCleanDisk next → KeepsCommit now next) → Survives now next (λ _. ⊥)
    → IsFirstUnderWay first next (rest (first_in next.now.trees)) whole
goes_on first now next one rest both whole parts way made s = (
  λ asked.
      let so_far = way.0 (clean_before now next s asked.0, asked.1, asked.2) in
      let step = made.0 (asked.0, so_far.0.within, so_far.0.ours) in (
        record { ours = step.ours; tables_are = refl; committed = step.committed ∙ so_far.0.committed; within = step.within },
        ap rest step.tables_are ∙ sym (parts (first_in now.now.trees)) ∙ so_far.1,
      ),
  λ clean. keeps_then first now next (way.1 (clean_before now next s clean)) (made.1 clean),
)

-- the same at an element of a list, of which the elements behind it are left
pub goes_on_at : {X : Type 0} (first now next : State) (part : List X → FirstTables → FirstTables) (xs : List X) (i : ℕ) (x : X) (whole : FirstTables)
    → ((x : X) (rest : List X) (t : FirstTables) → part (x ∷ rest) t ≡ part rest (part (x ∷ []) t)) → i < length xs → x ≡ get_or xs i x
    → IsFirstUnderWay first now (part (drop i xs) (first_in now.now.trees)) whole
    → (IsAskedFirst now next → IsFirstStep now next (part (x ∷ []) (first_in now.now.trees))) × (HasCleanDisk next → KeepsCommit now next) → Survives now next (λ _. ⊥)
    → IsFirstUnderWay first next (part (drop (i + 1) xs) (first_in next.now.trees)) whole
goes_on_at first now next part xs i x whole parts low is way made s =
    let rest = drop (i + 1) xs in
    let split : drop i xs ≡ x ∷ rest = drop_more xs i x low ∙ ap (λ y. y ∷ rest) (sym is) in
    goes_on first now next (part (x ∷ [])) (part rest) (part (drop i xs)) whole (λ t. ap (λ ys. part ys t) split ∙ parts x rest t) way made s

-- behind the last element
pub all_made : {X : Type 0} (first now : State) (part : List X → FirstTables → FirstTables) (xs : List X) (i : ℕ) → ((t : FirstTables) → part [] t ≡ t) → length xs ≤ i
    → IsFirstUnderWay first now (part (drop i xs) (first_in now.now.trees)) (part xs (first_in first.now.trees))
    → (IsAskedFirst first now → IsFirstStep first now (part xs (first_in first.now.trees))) × (HasCleanDisk now → KeepsCommit first now)
all_made first now part xs i none high way = (
  λ asked.
      let so_far = way.0 asked in
      let here = first_in now.now.trees in
      record {
        ours = so_far.0.ours;
        tables_are = sym (none here) ∙ ap (λ ys. part ys here) (sym (drop_all i xs high)) ∙ so_far.1;
        committed = so_far.0.committed;
        within = so_far.0.within;
      },
  way.1,
)
