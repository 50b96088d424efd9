-- Rows that a scan reads, one after the other, and why it fails.
use Rattle.std.proofs.Common.{◌≡◌, ℕ, Bool, true, false, cond, Result, Err, ◌++◌, append_assoc, ◌≤◌, arith, List, [], ◌∷◌, map, filter, IsTrue, refl, sym, ap, subst, ◌∙◌}
use Rattle.std.specs.Prelude.{IfErr}
use Rattle.std.specs.Bool.{Decides}
use Rattle.std.proofs.lemmas.Bool.Decides.{not_from_Decides}
use Rattle.std.proofs.lemmas.Result.{IfErr-weaker}
use Rattle.sqlite_disk.specs.Disk.{MoreFaults}
use Rattle.sqlite_value.specs.Order.{Row}
use Rattle.sqlite_value.specs.declared.keys.Order.{Order}
use Rattle.sqlite_trees.specs.Tree.{sought, from_key}
use Rattle.sqlite_trees.specs.declared.store.Direction.TheVariants.{Forward}
use Rattle.sqlite_trees.specs.declared.error.StoreError.{StoreError}
use Rattle.sqlite_trees.specs.declared.error.StoreError.TheVariants as kind
use Rattle.sqlite_trees.specs.View.{View, with_cursor, HasCause}
use Rattle.sqlite_exec.specs.Loops.{left_of}
use Rattle.sqlite_exec.proofs.CheckLemmas.{from_no_key, placed}
use Rattle.mr_rows.specs.Columns.{Columns, AreShown}
use Rattle.mr_rows.specs.MadeRows.{IsMade}
use Rattle.mr_rows.specs.Shown.{columns_from, IsStoredAs}
use Rattle.mr_rows.proofs.ColumnLemmas.{length_columns}
use Rattle.mr_rows.specs.Form.{Form}
use Rattle.mr_trees.specs.declared.troubles.Trouble.{Trouble}
use Rattle.mr_trees.specs.declared.troubles.Trouble.TheVariants.{OutOfMemory, Store, Rows}
use Rattle.mr_trees.specs.Trouble.{IsOfRow, IsCause}

-- a stored row whose cells pass their tests, and only such a row, is one that its table can have
pub made_stored : {R K V : Type 0} (f : Form R K) (c : Columns V) (of : V → R) → IsMade f c of → AreShown c → (r : Row) → Decides (c.are (columns_from 1 c.width r)) (IsStoredAs f r)
made_stored f c of made shown r =
    let cells = columns_from 1 c.width r in
    let told = (shown cells (length_columns 1 c.width r)).told in
    let spelled = ap f.cells (made.read r) ∙ made.spelled (c.value_in cells) in
    let limits = ap f.within (made.read r) ∙ made.limits (c.value_in cells) in
    let wide = ap (λ n. columns_from 1 n r) made.wide in
    (λ h. let p = told.0 h in (spelled ∙ p.0 ∙ sym wide, limits ∙ p.1), λ s. told.1 (sym spelled ∙ s.0 ∙ wide, sym limits ∙ s.1))

pub not_stored : {R K V : Type 0} (f : Form R K) (c : Columns V) (of : V → R) → IsMade f c of → AreShown c → (r : Row) → c.are (columns_from 1 c.width r) ≡ false → ¬ IsStoredAs f r
not_stored f c of made shown r failed = not_from_Decides _ (made_stored f c of made shown r) failed

-- a seek for no key is at the begin
pub begun : (old new : View) (o : Order) (t tree : ℕ) (key : Row) → key ≡ [] → t ≡ tree → new ≡ with_cursor old 0 (sought o Forward key (old.trees t)) → left_of new 0 ≡ old.trees tree
begun old new o t tree key none same is =
    ap (λ v. left_of v 0) is ∙ placed old 0 _ ∙ ap (λ k. from_key o k (old.trees t)) none ∙ from_no_key o (old.trees t) ∙ ap old.trees same

-- one row more is picked, or not
pub picked_more : {R : Type 0} (g : Row → R) (p : Row → Bool) (out more : List R) (r : Row) (left rest : List Row) (all : List R)
    → more ≡ out ++ map g (filter p (r ∷ [])) → left ≡ r ∷ rest → out ++ map g (filter p left) ≡ all → more ++ map g (filter p rest) ≡ all
picked_more {R} g p out more r left rest all taken step far =
    ap (λ xs. xs ++ map g (filter p rest)) taken ∙ append_assoc out _ _ ∙ ap (λ xs. out ++ xs) (go (p r)) ∙ ap (λ rows. out ++ map g (filter p rows)) (sym step) ∙ far
  where
    go : (b : Bool) → map g (cond b (r ∷ []) []) ++ map g (filter p rest) ≡ map g (cond b (r ∷ filter p rest) (filter p rest))
    go true = refl
    go false = refl

-- a row is refused, and so its table has one that isn't its own
pub cause_of_row : {T : Type 0} (Clean fault broken of_rows : Type 0) (old : View) (r : Result T Trouble) (e : Trouble)
    → r ≡ Err e → IsOfRow broken e → (Clean → broken → of_rows) → IfErr r (λ e. Clean → IsCause old fault of_rows e)
cause_of_row {T} Clean fault broken of_rows old r e is told turn = subst (λ (r : Result T Trouble). IfErr r (λ e. Clean → IsCause old fault of_rows e)) (sym is) (go e told)
  where
    go : (e : Trouble) → IsOfRow broken e → Clean → IsCause old fault of_rows e
    go OutOfMemory h clean = tt
    go (Store s) h clean = absurd h
    go Rows h clean = turn clean h

-- more faults may be counted before and behind, and the store was as sound before
pub cause_among : {T : Type 0} (Clean Clean' P : Type 0) (old now : View) (a b c d : ℕ) (r : Result T Trouble) → now.is_broken ≡ old.is_broken → a ≤ b → c ≤ d → (Clean → Clean')
    → IfErr r (λ e. Clean' → IsCause now (MoreFaults b c) P e) → IfErr r (λ e. Clean → IsCause old (MoreFaults a d) P e)
cause_among {T} Clean Clean' P old now a b c d r same more less before told = IfErr-weaker r _ _ (λ e h clean. go e (h (before clean))) told
  where
    grows : MoreFaults b c → MoreFaults a d
    grows faults = omega (arith, faults, more, less)

    store : (e : StoreError) → HasCause now (MoreFaults b c) ⊥ e → HasCause old (MoreFaults a d) ⊥ e
    store kind.OutOfMemory h = h
    store kind.Io h = grows h
    store kind.Corrupt h = grows h
    store kind.Full h = grows h
    store kind.Broken h = subst IsTrue same h
    store kind.Unstorable h = h

    go : (e : Trouble) → IsCause now (MoreFaults b c) P e → IsCause old (MoreFaults a d) P e
    go OutOfMemory h = h
    go (Store e) h = store e h
    go Rows h = h
