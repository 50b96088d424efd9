-- What a step on one table makes of all tables, and steps one after another.
use Rattle.std.proofs.Common.{◌≡◌, ◌≢◌, inl, ℕ, Bool, List, [], ◌∷◌, true, false, not, ◌||◌, cond, Result, OnOk, ◌==◌, eq-eqb, ◌+◌, ◌<◌, ◌≤◌, length, drop, get_or, refl, sym, ap, subst, ◌∙◌, arith}
use Rattle.std.proofs.lemmas.Bool.{and_parts, not-true}
use Rattle.std.proofs.lemmas.Result.{on_ok_weaker}
use Rattle.std.specs.Prelude.{nat_lt}
use Rattle.std.specs.List.{AllByRecursion, list_all}
use Rattle.std.proofs.lemmas.List.{drop_more, drop_all}
use Rattle.sqlite_trees.specs.Tree.{Trees}
use Rattle.sqlite_schema.specs.declared.schema.Index.{Index}
use Rattle.sqlite_schema.specs.declared.schema.Schema.{Schema}
use Rattle.sqlite.specs.declared.error.Error.{Error}
use Rattle.sqlite_rules.specs.Edit.{IsNoIndex}
use Rattle.sqlite.specs.State.{State, HasCleanDisk, KeepsCommit, Survives}
use Rattle.sqlite.proofs.StateLemmas.{survives_then}
use Rattle.mr_model.specs.Writes.{Id, same_id}
use Rattle.mr_model.specs.Replica.{is_among}
use Rattle.mr_model.specs.Tables.{MetaRow, Tables}
use Rattle.mr_tables.specs.Change.{put, put_all, rows_without}
use Rattle.mr_rows.specs.Schema.{our_schema, IsOfTwo}
use Rattle.mr_rows.specs.Form.{Form, meta_form, room_form, vector_form, log_form, booking_form, error_form, cancelled_form, cancel_form}
use Rattle.mr_rows.specs.Database.{IsHeld, AreHeld, IsOurs, IsTablesStep, IsAskedOfOurs, MakesTables, IsChangeUnderWay, first_meta, in_order, tables_in}
use Rattle.mr_rows.specs.TableSteps.{trees_with, Turns, TurnsInto, PutsRow, TakesRow, IsTableOf, rows_put, rows_taken}
use Rattle.mr_rows.specs.ChangeParts.{put_meta}
use Rattle.mr_tables.proofs.Putting.{without_none}

-- ---- the tables lie in trees that are no indexes

apart : (a b : ℕ) → (a == b) ≡ false → a ≢ b
apart a b e same = absurd (let own : (a == b) ≡ true = eq-eqb a b same in let never = sym own ∙ e in cc)

pub none_of : (t : ℕ) (indexes : List Index) → list_all (λ i. not (i.tree == t)) indexes ≡ true → AllByRecursion (λ (i : Index). i.tree ≢ t) indexes
none_of t [] e = tt
none_of t (i ∷ indexes) e = let both = and_parts (not (i.tree == t)) (list_all (λ i. not (i.tree == t)) indexes) e in (apart i.tree t (not-true (i.tree == t) both.0), none_of t indexes both.1)

no_index-0 : IsNoIndex our_schema 0
no_index-0 = none_of 0 our_schema.indexes refl

no_index-2 : IsNoIndex our_schema 2
no_index-2 = none_of 2 our_schema.indexes refl

no_index-4 : IsNoIndex our_schema 4
no_index-4 = none_of 4 our_schema.indexes refl

no_index-6 : IsNoIndex our_schema 6
no_index-6 = none_of 6 our_schema.indexes refl

no_index-8 : IsNoIndex our_schema 8
no_index-8 = none_of 8 our_schema.indexes refl

no_index-10 : IsNoIndex our_schema 10
no_index-10 = none_of 10 our_schema.indexes refl

no_index-12 : IsNoIndex our_schema 12
no_index-12 = none_of 12 our_schema.indexes refl

no_index-14 : IsNoIndex our_schema 14
no_index-14 = none_of 14 our_schema.indexes refl

no_index-16 : IsNoIndex our_schema 16
no_index-16 = none_of 16 our_schema.indexes refl

no_index-18 : IsNoIndex our_schema 18
no_index-18 = none_of 18 our_schema.indexes refl

abbrev SameTrees : Trees → Trees → Type 0
SameTrees a b = (t : ℕ) → IsNoIndex our_schema t → a t ≡ b t

tables_same : (a b : Trees) → SameTrees a b → tables_in a ≡ tables_in b
unfolding tables_in
tables_same a b same =
    let meta = same 0 no_index-0 in
    let room = same 2 no_index-2 in
    let vector = same 4 no_index-4 in
    let log = same 14 no_index-14 in
    let booking = same 10 no_index-10 in
    let error = same 12 no_index-12 in
    let cancelled = same 16 no_index-16 in
    let cancel = same 18 no_index-18 in
    λ i. record {
      meta = first_meta (in_order meta_form (meta i));
      room = in_order room_form (room i);
      vector = in_order vector_form (vector i);
      log = in_order log_form (log i);
      booking = in_order booking_form (booking i);
      errorlog = in_order error_form (error i);
      cancelled = in_order cancelled_form (cancelled i);
      cancels = in_order cancel_form (cancel i);
    }

held_same : (a b : Trees) → SameTrees a b → AreHeld b → AreHeld a
held_same a b same held = record {
  meta = subst (IsHeld meta_form) (sym (same 0 no_index-0)) held.meta;
  room = subst (IsHeld room_form) (sym (same 2 no_index-2)) held.room;
  vector = subst (IsHeld vector_form) (sym (same 4 no_index-4)) held.vector;
  log = subst (IsHeld log_form) (sym (same 14 no_index-14)) held.log;
  booking = subst (IsHeld booking_form) (sym (same 10 no_index-10)) held.booking;
  errorlog = subst (IsHeld error_form) (sym (same 12 no_index-12)) held.errorlog;
  cancelled = subst (IsHeld cancelled_form) (sym (same 16 no_index-16)) held.cancelled;
  cancels = subst (IsHeld cancel_form) (sym (same 18 no_index-18)) held.cancels;
  no_write_log = same 6 no_index-6 ∙ held.no_write_log;
  no_undo = same 8 no_index-8 ∙ held.no_undo;
}

-- where one table turns, the others stay
pub steps : {R K : Type 0} (f : Form R K) (rows_of : Tables → List R) (with_rows : List R → Tables → Tables)
    → IsTableOf AreHeld tables_in f rows_of with_rows → (old new : State) (xs : List R) → IsOurs old.now → Turns our_schema f old new xs
    → IsTablesStep old new (with_rows xs (tables_in old.now.trees))
steps f rows_of with_rows is old new xs ours turns = record {
  ours = record { schema = turns.schema; held = held_same _ _ turns.trees (is.held old.now.trees turns.rows ours.held turns.held) };
  tables_are = tables_same _ _ turns.trees ∙ is.made old.now.trees turns.rows ∙ ap (λ ys. with_rows ys (tables_in old.now.trees)) turns.rows_are;
  committed = turns.committed;
  within = turns.within;
}

-- so a row that is put into one is put into all, and one that is taken from one is taken from all
turned_all : {R K X : Type 0} (f : Form R K) (rows_of : Tables → List R) (with_rows : List R → Tables → Tables)
    → IsTableOf AreHeld tables_in f rows_of with_rows → (turn : List R → List R) (old new : State) (r : Result X Error)
    → TurnsInto our_schema f turn old new r → IsAskedOfOurs old new → OnOk r (IsTablesStep old new (with_rows (turn (rows_of (tables_in old.now.trees))) (tables_in old.now.trees)))
turned_all f rows_of with_rows is turn old new r turns asked =
    on_ok_weaker r
    (λ done. subst (λ rows. IsTablesStep old new (with_rows (turn rows) (tables_in old.now.trees))) (sym (is.read old.now.trees)) (steps f rows_of with_rows is old new _ asked.2 done))
    (turns asked.0 asked.1 asked.2.schema (is.was old.now.trees asked.2.held))

pub makes_put : {R K X : Type 0} (f : Form R K) (rows_of : Tables → List R) (with_rows : List R → Tables → Tables)
    → IsTableOf AreHeld tables_in f rows_of with_rows → (Stands : Schema → Type 0) → Stands our_schema → (old new : State) (x : R) (r : Result X Error)
    → PutsRow Stands f x old new r → MakesTables old new (rows_put f rows_of with_rows (x ∷ []) (tables_in old.now.trees)) r
makes_put f rows_of with_rows is Stands stands old new x r puts = (turned_all f rows_of with_rows is (put f.before f.key x) old new r (puts.0 our_schema stands), puts.1)

pub makes_taken : {R K X : Type 0} (f : Form R K) (rows_of : Tables → List R) (with_rows : List R → Tables → Tables)
    → IsTableOf AreHeld tables_in f rows_of with_rows → (id_of : R → Id) (old new : State) (id : Id) (r : Result X Error)
    → TakesRow our_schema f id_of id old new r → MakesTables old new (rows_taken id_of rows_of with_rows (id ∷ []) (tables_in old.now.trees)) r
makes_taken f rows_of with_rows is id_of old new id r takes = (turned_all f rows_of with_rows is (rows_without id_of (id ∷ [])) old new r takes.0, takes.1)

-- all rows of `meta` have one key, so a row that is put is the first
pub first_put : (x : MetaRow) (rows : List MetaRow) → first_meta (put nat_lt (λ _. 1) x rows) ≡ x
first_put x [] = refl
first_put x (y ∷ rows) = refl

meta_step : (old new : State) (xs : List MetaRow) → IsOurs old.now → Turns our_schema meta_form old new xs → IsTablesStep old new (record (tables_in old.now.trees) { meta = first_meta xs })
unfolding tables_in
meta_step old new xs ours turns =
    let was = ours.held in
    record {
      ours = record {
        schema = turns.schema;
        held = held_same _ (trees_with old.now.trees 0 turns.rows) turns.trees (record {
          meta = turns.held;
          room = was.room;
          vector = was.vector;
          log = was.log;
          booking = was.booking;
          errorlog = was.errorlog;
          cancelled = was.cancelled;
          cancels = was.cancels;
          no_write_log = was.no_write_log;
          no_undo = was.no_undo;
        });
      };
      tables_are = tables_same _ (trees_with old.now.trees 0 turns.rows) turns.trees ∙ ap (λ ys. record (tables_in old.now.trees) { meta = first_meta ys }) turns.rows_are;
      committed = turns.committed;
      within = turns.within;
    }

pub makes_meta : {X : Type 0} (old new : State) (x : MetaRow) (r : Result X Error) → PutsRow IsOfTwo meta_form x old new r → MakesTables old new (put_meta x (tables_in old.now.trees)) r
makes_meta old new x r puts = (
  λ asked.
      on_ok_weaker r (λ turns. subst (λ m. IsTablesStep old new (put_meta m (tables_in old.now.trees))) (first_put x _) (meta_step old new _ asked.2 turns))
      (puts.0 our_schema (inl refl) asked.0 asked.1 asked.2.schema asked.2.held.meta),
  puts.1,
)

-- ---- one after another

pub keeps_then : (a b c : State) → KeepsCommit a b → KeepsCommit b c → KeepsCommit a c
keeps_then a b c p q = record { was_open = λ now. p.was_open (q.was_open now); committed = λ now. q.committed now ∙ p.committed (q.was_open now) }

pub none_commits : (a b c : State) → Survives a b (λ _. ⊥) → Survives b c (λ _. ⊥) → Survives a c (λ _. ⊥)
none_commits a b c = survives_then a b c (λ _. ⊥) (λ _. ⊥) (λ _. ⊥) (λ _ db none. none) (λ _ db none. none)

pub clean_before : (a b : State) → Survives a b (λ _. ⊥) → HasCleanDisk b → HasCleanDisk a
clean_before a b s clean = let less = s.clean in omega (arith, less, clean)

-- a step is made of those that are left
pub goes_on : (first now next : State) (one rest both : Tables → Tables) (whole : Tables) → ((t : Tables) → both t ≡ rest (one t)) → IsChangeUnderWay first now (both (tables_in now.now.trees)) whole
    → (IsAskedOfOurs now next → IsTablesStep now next (one (tables_in now.now.trees))) × (HasCleanDisk next → KeepsCommit now next) → Survives now next (λ _. ⊥)
    → IsChangeUnderWay first next (rest (tables_in next.now.trees)) whole
goes_on first now next one rest both whole parts way made s = (
  λ asked.
      let so_far = way.0 (clean_before now next s asked.0, asked.1, asked.2) in
      let step = made.0 (asked.0, so_far.0.within, so_far.0.ours) in (
        record { ours = step.ours; tables_are = refl; committed = step.committed ∙ so_far.0.committed; within = step.within },
        ap rest step.tables_are ∙ sym (parts (tables_in now.now.trees)) ∙ so_far.1,
      ),
  λ clean. keeps_then first now next (way.1 (clean_before now next s clean)) (made.1 clean),
)

-- ---- rows of one table, one after the other

-- the first, and then the others
without_more : {R : Type 0} (key : R → Id) (id : Id) (ids : List Id) (rows : List R)
    → rows_without key (id ∷ ids) rows ≡ rows_without key ids (rows_without key (id ∷ []) rows)
without_more key id ids [] = refl
without_more key id ids (row ∷ rows) = go (same_id (key row) id) (without_more key id ids rows)
  where
    go : (b : Bool) → rows_without key (id ∷ ids) rows ≡ rows_without key ids (rows_without key (id ∷ []) rows)
        → cond (not (b || is_among (key row) ids)) (row ∷ rows_without key (id ∷ ids) rows) (rows_without key (id ∷ ids) rows)
        ≡ rows_without key ids (cond (not (b || false)) (row ∷ rows_without key (id ∷ []) rows) (rows_without key (id ∷ []) rows))
    go true ih = ih
    go false ih = ap (λ more. cond (not (is_among (key row) ids)) (row ∷ more) more) ih

module _ {T R K : Type 0} {Held : Trees → Type 0} {seen : Trees → T} (f : Form R K) (rows_of : T → List R) (with_rows : List R → T → T) (is : IsTableOf Held seen f rows_of with_rows) where
  turned_twice : (turn : List R → List R) (ys : List R) (t : T) → with_rows (turn ys) t ≡ with_rows (turn (rows_of (with_rows ys t))) (with_rows ys t)
  turned_twice turn ys t = sym (ap (λ rows. with_rows (turn rows) (with_rows ys t)) (is.back ys t) ∙ is.again ys (turn ys) t)

  pub put_more : (x : R) (xs : List R) (t : T) → rows_put f rows_of with_rows (x ∷ xs) t ≡ rows_put f rows_of with_rows xs (rows_put f rows_of with_rows (x ∷ []) t)
  put_more x xs t = turned_twice (put_all f.before f.key xs) (put f.before f.key x (rows_of t)) t

  pub taken_more : (id_of : R → Id) (id : Id) (ids : List Id) (t : T)
      → rows_taken id_of rows_of with_rows (id ∷ ids) t ≡ rows_taken id_of rows_of with_rows ids (rows_taken id_of rows_of with_rows (id ∷ []) t)
  taken_more id_of id ids t = ap (λ rows. with_rows rows t) (without_more id_of id ids (rows_of t)) ∙ turned_twice (rows_without id_of ids) (rows_without id_of (id ∷ []) (rows_of t)) t

  pub taken_none : (id_of : R → Id) (t : T) → rows_taken id_of rows_of with_rows [] t ≡ t
  taken_none id_of t = ap (λ rows. with_rows rows t) (without_none id_of (rows_of t)) ∙ is.same t

-- the same at an element of a list, of which the elements behind it are left
pub goes_on_at : {X : Type 0} (first now next : State) (part : List X → Tables → Tables) (xs : List X) (i : ℕ) (x : X) (whole : Tables)
    → ((x : X) (rest : List X) (t : Tables) → part (x ∷ rest) t ≡ part rest (part (x ∷ []) t)) → i < length xs → x ≡ get_or xs i x
    → IsChangeUnderWay first now (part (drop i xs) (tables_in now.now.trees)) whole
    → (IsAskedOfOurs now next → IsTablesStep now next (part (x ∷ []) (tables_in now.now.trees))) × (HasCleanDisk next → KeepsCommit now next) → Survives now next (λ _. ⊥)
    → IsChangeUnderWay first next (part (drop (i + 1) xs) (tables_in next.now.trees)) whole
goes_on_at first now next part xs i x whole parts low is way made s =
    let rest = drop (i + 1) xs in
    let split : drop i xs ≡ x ∷ rest = drop_more xs i x low ∙ ap (λ y. y ∷ rest) (sym is) in
    goes_on first now next (part (x ∷ [])) (part rest) (part (drop i xs)) whole (λ t. ap (λ ys. part ys t) split ∙ parts x rest t) way made s

-- behind the last element
pub all_made : {X : Type 0} (first now : State) (part : List X → Tables → Tables) (xs : List X) (i : ℕ) → ((t : Tables) → part [] t ≡ t) → length xs ≤ i
    → IsChangeUnderWay first now (part (drop i xs) (tables_in now.now.trees)) (part xs (tables_in first.now.trees))
    → (IsAskedOfOurs first now → IsTablesStep first now (part xs (tables_in first.now.trees))) × (HasCleanDisk now → KeepsCommit first now)
all_made first now part xs i none high way = (
  λ asked.
      let so_far = way.0 asked in
      let here = tables_in now.now.trees in
      record {
        ours = so_far.0.ours;
        tables_are = sym (none here) ∙ ap (λ ys. part ys here) (sym (drop_all i xs high)) ∙ so_far.1;
        committed = so_far.0.committed;
        within = so_far.0.within;
      },
  way.1,
)
