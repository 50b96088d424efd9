-- What other rows of one table make of all tables, and steps one after another.
use Rattle.std.proofs.Common.{◌≡◌, ℕ, ℤ, ◌+◌, ◌<◌, ◌≤◌, length, drop, get_or, Result, Ok, Err, OnOk, Bool, true, false, not, filter}
use Rattle.std.proofs.Common.{cond, List, [], ◌∷◌, ◌==◌, IsTrue, eqb-true, eq-eqb, true≢false, refl, sym, ap, subst, ◌∙◌, arith}
use Rattle.std.specs.Prelude.{OnErr}
use Rattle.std.proofs.lemmas.List.{drop_more, drop_all}
use Rattle.std.proofs.lemmas.Result.{on_ok_weaker}
use Rattle.sqlite_value.specs.declared.value.Value.TheVariants.{Int}
use Rattle.sqlite_value.specs.Order.{Row}
use Rattle.sqlite_trees.specs.Tree.{Trees, has_rowid, put_row, without_rowid}
use Rattle.sqlite_trees.specs.View.{View, IsClean, KeepsCommitted, IsRolledBack, IsQuiet, OnlyWrites, Commits}
use Rattle.sqlite_trees.specs.declared.store.Store.{Ghosts}
use Rattle.sqlite_sql.specs.declared.query.Index.{Index}
use Rattle.sqlite_sql.specs.Catalog.{IsIndexed}
use Rattle.sqlite_rules.specs.Lists.{Has}
use Rattle.sqlite_exec.specs.Calls.{OnlyReads, SetsTable}
use Rattle.mr_model.specs.Writes.{Id}
use Rattle.mr_model.specs.Tables.{MetaRow, Tables}
use Rattle.mr_tables.specs.Change.{put, rows_without}
use Rattle.mr_tables.specs.TableOrders.{IsOrder}
use Rattle.mr_rows.specs.Form.{Form, meta_form, room_form, vector_form, log_form, booking_form, error_form, cancelled_form, cancel_form}
use Rattle.mr_rows.specs.Database.{IsHeld, AreHeld, first_meta, in_order, tables_in}
use Rattle.mr_rows.specs.TableSteps.{IsTableOf, trees_with, rows_put, rows_taken}
use Rattle.mr_rows.specs.ChangeParts.{put_meta}
use Rattle.mr_rows.proofs.StepLemmas.{first_put}
use Rattle.mr_changes.specs.Indexed.{is_ours, AreIndexed}
use Rattle.mr_changes.specs.Found.{IsPlaceFor}
use Rattle.mr_changes.specs.Fit.{IsFit, IsViewKept}
use Rattle.mr_changes.specs.Steps.{KeepsLast, IsStoreStep, Makes, SettlesOn, StaysAsKept}
use Rattle.mr_changes.proofs.PutLemmas.{put_held, put_is, taken_held, taken_is}

-- ---- all tables, by their trees

abbrev SameTrees : Trees → Trees → Type 0
SameTrees a b = (t : ℕ) → is_ours t ≡ true → a t ≡ b t

tables_same : (a b : Trees) → SameTrees a b → tables_in a ≡ tables_in b
unfolding tables_in
tables_same a b same =
    let meta = same 0 refl in
    let room = same 2 refl in
    let vector = same 4 refl in
    let log = same 14 refl in
    let booking = same 10 refl in
    let error = same 12 refl in
    let cancelled = same 16 refl in
    let cancel = same 18 refl in
    λ i. record {
      meta = first_meta (in_order meta_form (meta i));
      room = in_order room_form (room i);
      vector = in_order vector_form (vector i);
      log = in_order log_form (log i);
      booking = in_order booking_form (booking i);
      errorlog = in_order error_form (error i);
      cancelled = in_order cancelled_form (cancelled i);
      cancels = in_order cancel_form (cancel i);
    }

held_same : (a b : Trees) → SameTrees a b → AreHeld b → AreHeld a
held_same a b same held = record {
  meta = subst (IsHeld meta_form) (sym (same 0 refl)) held.meta;
  room = subst (IsHeld room_form) (sym (same 2 refl)) held.room;
  vector = subst (IsHeld vector_form) (sym (same 4 refl)) held.vector;
  log = subst (IsHeld log_form) (sym (same 14 refl)) held.log;
  booking = subst (IsHeld booking_form) (sym (same 10 refl)) held.booking;
  errorlog = subst (IsHeld error_form) (sym (same 12 refl)) held.errorlog;
  cancelled = subst (IsHeld cancelled_form) (sym (same 16 refl)) held.cancelled;
  cancels = subst (IsHeld cancel_form) (sym (same 18 refl)) held.cancels;
  no_write_log = same 6 refl ∙ held.no_write_log;
  no_undo = same 8 refl ∙ held.no_undo;
}

-- ---- one table gets other rows

-- our trees, where one has other rows
overlays : (catalog : List Index) (old new : View) (tree : ℕ) (rows : List Row) → IsFit old → SetsTable catalog old new tree rows → SameTrees new.trees (trees_with old.trees tree rows)
overlays catalog old new tree rows fit sets t ours = go (t == tree) refl
  where
    go : (b : Bool) → (t == tree) ≡ b → new.trees t ≡ cond b rows (old.trees t)
    go true e = subst (λ u. new.trees u ≡ rows) (sym (eqb-true t tree e)) sets.this
    go false e = sets.others t (λ same. let own : (t == tree) ≡ true = eq-eqb t tree same in absurd (let never = sym own ∙ e in cc)) (fit.trees.table t ours)

-- of these trees the tables are held
fits : (catalog : List Index) (old new : View) (tree : ℕ) (rows : List Row) (seen : Trees) → ((db : Trees) → IsIndexed catalog db → AreIndexed db)
    → IsFit old → SetsTable catalog old new tree rows → SameTrees new.trees seen → AreHeld seen → IsFit new
fits catalog old new tree rows seen listed fit sets same held = record {
  sound = ap (λ (v : View). v.is_broken) sets.rest ∙ sets.sound;
  trees = let shape : new.shape ≡ old.shape = ap (λ (v : View). v.shape) sets.rest in rw shape fit.trees;
  held = held_same new.trees seen same held;
  indexed = listed new.trees sets.indexed;
}

-- a row put at its place, and one taken away
module _ {R K : Type 0} (f : Form R K) (o : IsOrder K f.before) (rows_of : Tables → List R)
    (with_rows : List R → Tables → Tables) (is : IsTableOf AreHeld tables_in f rows_of with_rows) (catalog : List Index)
    (listed : (db : Trees) → IsIndexed catalog db → AreIndexed db) (old new : View) (tree : ℕ) (id : ℤ) (same : tree ≡ f.table.tree) (fit : IsFit old) where
  abbrev stored : List Row
  stored = old.trees f.table.tree

  makes : (rows : List Row) (xs : List R) → SetsTable catalog old new f.table.tree rows → IsHeld f rows → in_order f rows ≡ xs → Makes old new (with_rows xs (tables_in old.trees))
  makes rows xs sets holds are =
      let over = overlays catalog old new f.table.tree rows fit sets in
      record {
        fit = fits catalog old new f.table.tree rows (trees_with old.trees f.table.tree rows) listed fit sets over (is.held old.trees rows fit.held holds);
        tables_are = tables_same new.trees (trees_with old.trees f.table.tree rows) over ∙ is.made old.trees rows ∙ ap (λ ys. with_rows ys (tables_in old.trees)) are;
        only = sets.rest;
      }

  pub puts_one : (x : R) → f.row_in (Int id ∷ f.cells x) ≡ x → IsPlaceFor f (f.key x) stored id → SetsTable catalog old new tree (put_row (Int id ∷ f.cells x) (old.trees tree))
      → Makes old new (rows_put f rows_of with_rows (x ∷ []) (tables_in old.trees))
  puts_one x back place sets =
      let was = is.was old.trees fit.held in
      let here = subst (λ t. SetsTable catalog old new t (put_row (Int id ∷ f.cells x) (old.trees t))) same sets in
      subst (λ rows. Makes old new (with_rows (put f.before f.key x rows) (tables_in old.trees))) (sym (is.read old.trees))
      (makes _ _ here (put_held f o x id stored back was place) (put_is f o x id stored back was place))

  pub takes_one : (gone : R → Bool) → ((r : Row) → Has stored r → has_rowid id r ≡ gone (f.row_in r)) → SetsTable catalog old new tree (without_rowid id (old.trees tree))
      → Makes old new (with_rows (filter (λ x. not (gone x)) (rows_of (tables_in old.trees))) (tables_in old.trees))
  takes_one gone alike sets =
      let was = is.was old.trees fit.held in
      let here = subst (λ t. SetsTable catalog old new t (without_rowid id (old.trees t))) same sets in
      subst (λ rows. Makes old new (with_rows (filter (λ x. not (gone x)) rows) (tables_in old.trees))) (sym (is.read old.trees))
      (makes _ _ here (taken_held f o (λ r. not (has_rowid id r)) stored was) (taken_is f o id gone stored was alike))

-- the row of `meta`, which is the only one
pub puts_meta : (catalog : List Index) → ((db : Trees) → IsIndexed catalog db → AreIndexed db)
    → (o : IsOrder ℕ meta_form.before) (old new : View) (id : ℤ) (x : MetaRow) → IsFit old → IsPlaceFor meta_form 1 (old.trees 0) id
    → SetsTable catalog old new 0 (put_row (Int id ∷ meta_form.cells x) (old.trees 0)) → Makes old new (put_meta x (tables_in old.trees))
unfolding tables_in
puts_meta catalog listed o old new id x fit place sets =
    let rows = put_row (Int id ∷ meta_form.cells x) (old.trees 0) in
    let was = fit.held in
    let over = overlays catalog old new 0 rows fit sets in
    let held = put_held meta_form o x id (old.trees 0) refl was.meta place in
    let first : first_meta (in_order meta_form rows) ≡ x = ap first_meta (put_is meta_form o x id (old.trees 0) refl was.meta place) ∙ first_put x _ in
    record {
      fit = fits catalog old new 0 rows (trees_with old.trees 0 rows) listed fit sets over (record {
        meta = held;
        room = was.room;
        vector = was.vector;
        log = was.log;
        booking = was.booking;
        errorlog = was.errorlog;
        cancelled = was.cancelled;
        cancels = was.cancels;
        no_write_log = was.no_write_log;
        no_undo = was.no_undo;
      });
      tables_are = tables_same new.trees (trees_with old.trees 0 rows) over ∙ ap (λ m. put_meta m (tables_in old.trees)) first;
      only = sets.rest;
    }

-- ---- steps one after another

pub reads_fit : (old new : View) → OnlyReads old new → IsFit old → IsFit new
reads_fit old new reads fit = record {
  sound = ap (λ (v : View). v.is_broken) reads ∙ fit.sound;
  trees = let shape : new.shape ≡ old.shape = ap (λ (v : View). v.shape) reads in rw shape fit.trees;
  held = subst AreHeld (sym (ap (λ (v : View). v.trees) reads)) fit.held;
  indexed = subst AreIndexed (sym (ap (λ (v : View). v.trees) reads)) fit.indexed;
}

reads_write : (old new : View) → OnlyReads old new → OnlyWrites old new
reads_write old new reads =
    let trees : new.trees ≡ old.trees = ap (λ (v : View). v.trees) reads in
    subst (λ t. new ≡ record old { trees = t; cursors = new.cursors }) (sym trees) reads

writes_then : (a b c : View) → OnlyWrites a b → OnlyWrites b c → OnlyWrites a c
writes_then a b c p q = q ∙ ap (λ (v : View). record v { trees = c.trees; cursors = c.cursors }) p

-- nothing is done
pub makes_same : (old new : View) → OnlyReads old new → IsFit old → Makes old new (tables_in old.trees)
makes_same old new reads fit = record {
  fit = reads_fit old new reads fit;
  tables_are = ap tables_in (ap (λ (v : View). v.trees) reads);
  only = reads_write old new reads;
}

pub makes_after_reads : (old mid new : View) (g : Tables → Tables) → OnlyReads old mid → Makes mid new (g (tables_in mid.trees)) → Makes old new (g (tables_in old.trees))
makes_after_reads old mid new g reads made = record {
  fit = made.fit;
  tables_are = made.tables_are ∙ ap (λ (v : View). g (tables_in v.trees)) reads;
  only = writes_then old mid new (reads_write old mid reads) made.only;
}

pub makes_then : (old mid new : View) (t : Tables) (g : Tables → Tables) → Makes old mid t → Makes mid new (g (tables_in mid.trees)) → Makes old new (g t)
makes_then old mid new t g first made = record {
  fit = made.fit;
  tables_are = made.tables_are ∙ ap g first.tables_are;
  only = writes_then old mid new first.only made.only;
}

-- ---- the last commit

pub writes_keep : (old new : View) → OnlyWrites old new → KeepsLast old new
writes_keep old new only = record {
  was_open = λ opened. subst IsTrue (ap (λ (v : View). v.is_open) only) opened;
  committed = λ _. ap (λ (v : View). v.committed) only;
  shape = λ _. ap (λ (v : View). v.shape) only;
  last_shape = ap (λ (v : View). v.committed_shape) only;
}

pub reads_keep : (old new : View) → OnlyReads old new → KeepsLast old new
reads_keep old new reads = writes_keep old new (reads_write old new reads)

pub failure_keeps : (old new : View) → KeepsCommitted old new → KeepsLast old new
failure_keeps old new kept = record { was_open = kept.was_open; committed = kept.committed; shape = λ _. kept.shape; last_shape = kept.committed_shape }

pub rolled_keeps : (old new : View) → IsRolledBack old new → IsClean new → KeepsLast old new
rolled_keeps old new back clean = let kept = back.kept clean in record { was_open = kept.was_open; committed = kept.committed; shape = back.shape; last_shape = back.committed_shape }

pub keeps_then : (a b c : View) → KeepsLast a b → KeepsLast b c → KeepsLast a c
keeps_then a b c p q = record {
  was_open = λ opened. p.was_open (q.was_open opened);
  committed = λ opened. q.committed opened ∙ p.committed (q.was_open opened);
  shape = λ same. let here = p.shape same in q.shape (here ∙ same ∙ sym p.last_shape) ∙ here;
  last_shape = q.last_shape ∙ p.last_shape;
}

module _ {S : Type 0} (g : Ghosts S) where
  pub step_of : (old new : S) → IsQuiet g.view g.faults g.recovers g.is_shielded old new → (IsClean (g.view new) → KeepsLast (g.view old) (g.view new)) → IsStoreStep g old new
  step_of old new quiet kept = record {
    clean = λ clean. omega (arith, quiet.clean, clean);
    kept = kept;
    outcomes = quiet.outcomes;
  }

  pub step_none : (s : S) → IsStoreStep g s s
  step_none s = record { clean = λ clean. clean; kept = λ _. writes_keep (g.view s) (g.view s) refl; outcomes = λ db h. h }

  pub step_then : (a b c : S) → IsStoreStep g a b → IsStoreStep g b c → IsStoreStep g a c
  step_then a b c p q = record {
    clean = λ clean. p.clean (q.clean clean);
    kept = λ clean. keeps_then (g.view a) (g.view b) (g.view c) (p.kept (q.clean clean)) (q.kept clean);
    outcomes = λ db h. p.outcomes db (q.outcomes db h);
  }

either : {T E P : Type 0} (r : Result T E) → OnOk r P → OnErr r P → P
either (Ok x) p q = p
either (Err e) p q = q

pub on_err_weaker : {T E P Q : Type 0} (r : Result T E) → (P → Q) → OnErr r P → OnErr r Q
on_err_weaker (Ok x) f p = tt
on_err_weaker (Err e) f p = f p

module _ {S T E : Type 0} (g : Ghosts S) (old new : S) (r : Result T E) (quiet : IsQuiet g.view g.faults g.recovers g.is_shielded old new) where
  -- a write that rolls back where it fails
  pub write_step : OnOk r (IsClean (g.view new) → OnlyWrites (g.view old) (g.view new)) → (IsClean (g.view new) → OnErr r (IsRolledBack (g.view old) (g.view new))) → IsStoreStep g old new
  write_step frame err =
      step_of g old new quiet
      (λ clean. either r (on_ok_weaker r (λ only. writes_keep _ _ (only clean)) frame) (on_err_weaker r (λ back. rolled_keeps _ _ back clean) (err clean)))

  -- a call that only reads
  pub read_step : OnOk r (IsClean (g.view new) → OnlyReads (g.view old) (g.view new)) → OnErr r (IsClean (g.view new) → KeepsCommitted (g.view old) (g.view new)) → IsStoreStep g old new
  read_step reads err =
      step_of g old new quiet
      (λ clean. either r (on_ok_weaker r (λ only. reads_keep _ _ (only clean)) reads) (on_err_weaker r (λ kept. failure_keeps _ _ (kept clean)) err))

-- ---- rows of one table, one after the other

-- the rows so far were put or taken, and those that are left make these tables of what is there
pub record IsUnderWay (first now : View) (rest whole : Tables) : Type 0 where
  pub fit : IsFit now
  pub only : OnlyWrites first now
  pub leads : rest ≡ whole

pub begins : (first : View) (t : Tables) → IsFit first → IsUnderWay first first t t
begins first t fit = record { fit = fit; only = refl; leads = refl }

pub goes_on_at : {X : Type 0} (first now next : View) (part : List X → Tables → Tables) (xs : List X) (i : ℕ) (x : X) (whole : Tables)
    → ((x : X) (rest : List X) (t : Tables) → part (x ∷ rest) t ≡ part rest (part (x ∷ []) t)) → i < length xs → x ≡ get_or xs i x
    → IsUnderWay first now (part (drop i xs) (tables_in now.trees)) whole → Makes now next (part (x ∷ []) (tables_in now.trees))
    → IsUnderWay first next (part (drop (i + 1) xs) (tables_in next.trees)) whole
goes_on_at first now next part xs i x whole parts low is way made =
    let rest = drop (i + 1) xs in
    let split : drop i xs ≡ x ∷ rest = drop_more xs i x low ∙ ap (λ y. y ∷ rest) (sym is) in
    record {
      fit = made.fit;
      only = writes_then first now next way.only made.only;
      leads = ap (part rest) made.tables_are ∙ sym (parts x rest (tables_in now.trees)) ∙ ap (λ ys. part ys (tables_in now.trees)) (sym split) ∙ way.leads;
    }

-- behind the last element
pub all_made : {X : Type 0} (first now : View) (part : List X → Tables → Tables) (xs : List X) (i : ℕ) → ((t : Tables) → part [] t ≡ t) → length xs ≤ i
    → IsUnderWay first now (part (drop i xs) (tables_in now.trees)) (part xs (tables_in first.trees)) → Makes first now (part xs (tables_in first.trees))
all_made first now part xs i none high way =
    let here = tables_in now.trees in
    record {
      fit = way.fit;
      tables_are = sym (none here) ∙ ap (λ ys. part ys here) (sym (drop_all i xs high)) ∙ way.leads;
      only = way.only;
    }

-- none of these is there to be taken
pub taken_same : {R K : Type 0} (f : Form R K) (rows_of : Tables → List R) (with_rows : List R → Tables → Tables)
    → IsTableOf AreHeld tables_in f rows_of with_rows → (id_of : R → Id) (gone : List Id) (trees : Trees)
    → rows_without id_of gone (in_order f (trees f.table.tree)) ≡ in_order f (trees f.table.tree) → rows_taken id_of rows_of with_rows gone (tables_in trees) ≡ tables_in trees
taken_same f rows_of with_rows is id_of gone trees same =
    let read = is.read trees in
    ap (λ rows. with_rows rows (tables_in trees)) (ap (rows_without id_of gone) read ∙ same ∙ sym read) ∙ is.same (tables_in trees)

-- ---- a transaction's end

-- a store that isn't broken isn't shut
pub open_if_sound : (v : View) → (v.is_open ≡ false → IsTrue v.is_broken) → v.is_broken ≡ false → IsTrue v.is_open
open_if_sound v shut sound = go v.is_open refl
  where
    go : (b : Bool) → v.is_open ≡ b → IsTrue v.is_open
    go true e = subst IsTrue (sym e) refl
    go false e = absurd (true≢false (sym (subst IsTrue sound (shut e))))

pub commits_settle : (old mid new : View) (t : Tables) → Makes old mid t → Commits mid new → SettlesOn new t
commits_settle old mid new t made commits =
    let trees : new.trees ≡ mid.trees = ap (λ (v : View). v.trees) commits.is in
    let shape : new.shape ≡ mid.shape = ap (λ (v : View). v.shape) commits.is in
    record {
      kept = record {
        fit = record {
          sound = ap (λ (v : View). v.is_broken) commits.is ∙ made.fit.sound;
          trees = rw shape made.fit.trees;
          held = subst AreHeld (sym trees) made.fit.held;
          indexed = subst AreIndexed (sym trees) made.fit.indexed;
        };
        settled = trees ∙ sym (ap (λ (v : View). v.committed) commits.is);
      };
      tables_are = ap tables_in trees ∙ made.tables_are;
    }

-- it is open as before
pub commit_open : (old mid new : View) (t : Tables) → Makes old mid t → Commits mid new → IsTrue old.is_open → IsTrue new.is_open
commit_open old mid new t made commits opened = subst IsTrue (sym (ap (λ (v : View). v.is_open) commits.is ∙ ap (λ (v : View). v.is_open) made.only)) opened

pub rolled_stays : (old mid new : View) → IsViewKept old → old.shape ≡ old.committed_shape → KeepsLast old mid → IsRolledBack mid new → IsClean new → IsTrue new.is_open → StaysAsKept old new
rolled_stays old mid new was shapes keeps back clean opened =
    let undone = back.undone opened in
    let over = back.kept clean in
    let between = over.was_open opened in
    let committed : new.committed ≡ old.committed = over.committed opened ∙ keeps.committed between in
    let trees : new.trees ≡ old.trees = undone.0 ∙ keeps.committed between ∙ sym was.settled in
    let held : mid.shape ≡ old.shape = keeps.shape shapes in
    let shape : new.shape ≡ old.shape = back.shape (held ∙ shapes ∙ sym keeps.last_shape) ∙ held in
    record {
      kept = record {
        fit = record {
          sound = undone.1;
          trees = rw shape was.fit.trees;
          held = subst AreHeld (sym trees) was.fit.held;
          indexed = subst AreIndexed (sym trees) was.fit.indexed;
        };
        settled = trees ∙ was.settled ∙ sym committed;
      };
      trees = trees;
    }

pub on_ok_of : {T E P : Type 0} (r : Result T E) → P → OnOk r P
on_ok_of (Ok x) p = p
on_ok_of (Err e) p = tt
