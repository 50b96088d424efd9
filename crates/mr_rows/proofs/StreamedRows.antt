-- A plain query whose rows come one after the other.
use Rattle.std.proofs.Common.{◌≡◌, ◌⊎◌, inl, inr, ℕ, List, [], ◌∷◌, ◌++◌, map, Bool, Option, None, Some, Result, Ok, Err, OnOk, OnErr, IfErr, IsTrue, sym, ap, subst, ◌∙◌}
use Rattle.std.proofs.lemmas.List.{append_assoc, map-append}
use Rattle.std.specs.List.{AllByRecursion}
use Rattle.sqlite_value.specs.declared.value.Value.TheVariants.{Null}
use Rattle.sqlite_value.specs.Order.{Row}
use Rattle.sqlite_trees.specs.declared.store.Store as store
use Rattle.sqlite.specs.declared.error.Error.{Error}
use Rattle.sqlite.specs.Clock.{timed}
use Rattle.sqlite.specs.Effect.{Database}
use Rattle.sqlite.specs.Given.{HasGiven, HasBegun, IsRefused, Advances}
use Rattle.sqlite.specs.Held.{Held, state}
use Rattle.sqlite.specs.Listing.{understood, reads_listing, IsSourceOf}
use Rattle.sqlite.specs.State.{State, HasCleanDisk, IsUnchanged, Fails, Shown, ShowsRows, Survives, CommitsShowing}
use Rattle.sqlite.proofs.StateLemmas.{survives_weaker}
use Rattle.sqlite.proofs.Callers.{IsPlain, begun_plain, unchanged_then}
use Rattle.sqlite_schema.specs.declared.schema.Schema.{Schema}
use Rattle.mr_rows.specs.Reads.{IsPlacedIn, LooksIn, Looks, ReadsKept}
use Rattle.mr_rows.specs.Form.{Form}
use Rattle.mr_rows.specs.Shown.{IsShownAs, IsShownSo}
use Rattle.mr_rows.specs.Kept.{AreTaken}
use Rattle.mr_rows.proofs.QueryLemmas.{placed, plain_here, shown_open, left_same, commits_none, looked_in, looks_so, looks_then}

-- what is shown of an unchanged database is shown of it as it was
shown_from : (sql : List ℕ) (params : Row) (a b c : State) (rows : List Row) → IsPlain (understood a.now.schema sql) → IsUnchanged a b → Shown sql params b c rows → Shown sql params a c rows
unfolding Shown
shown_from sql params a b c rows plain same h =
    let here : b.now ≡ a.now = same.0.now_is in
    let none = (subst IsPlain h.1.is (subst (λ (d : Database). IsPlain (understood d.schema sql)) (sym here) plain)).0 in
    let full = timed params h.0.formats h.1.now in
    let it = subst (ShowsRows b c sql h.0 full rows) none h.2 in
    let source = subst (λ (d : Database). IsSourceOf (reads_listing d.schema sql) d it.0) here it.1 in (
      h.0,
      record { is = subst (λ (d : Database). understood d.schema sql ≡ Ok h.0) here h.1.is; whole = h.1.whole; given = h.1.given; now = h.1.now },
      subst (ShowsRows a c sql h.0 full rows) (sym none) (it.0, source, it.2, unchanged_then a b c same it.3),
    )

-- one row more passed
pub all_more : (P : Row → Type 0) (rows : List Row) (row : Row) → P row → AllByRecursion P rows → AllByRecursion P (rows ++ row ∷ [])
all_more P [] row here all = (here, tt)
all_more P (r ∷ rows) row here all = (all.0, all_more P rows row here all.1)

-- the rows are read, and what is made of each is put behind the first ones
abbrev pub AreMade : {X : Type 0} → (Row → X) → List X → List X → List Row → Type 0
AreMade f first now rows = now ≡ first ++ map f rows

pub made_more : {X : Type 0} (f : Row → X) (first old new : List X) (rows : List Row) (row : Row) → new ≡ old ++ f row ∷ [] → AreMade f first old rows → AreMade f first new (rows ++ row ∷ [])
made_more f first old new rows row more far =
    more ∙ (λ i. far i ++ f row ∷ []) ∙ append_assoc first (map f rows) (f row ∷ []) ∙ ap (λ xs. first ++ xs) (sym (map-append f rows (row ∷ [])))

-- one row more is taken, and put behind the others if it is kept
pub taken_more : {R K : Type 0} (f : Form R K) (keep : Bool) (old new : List R) (rows : List Row) (row : Row) → IsShownAs f row → (IsTrue keep → new ≡ old ++ f.row_in (Null ∷ row) ∷ [])
    → AreTaken f keep old rows → AreTaken f keep new (rows ++ row ∷ [])
taken_more f keep old new rows row shown more far = (
  all_more (IsShownAs f) rows row shown far.0,
  λ kept. made_more (λ r. f.row_in (Null ∷ r)) [] old new rows row (more kept) (far.1 kept),
)

module _ {S : Type 0} (g : store.Ghosts S) (sql : List ℕ) (params : Row) (Q : List Row → Type 0) (first : State) where
  -- this is so of the rows that the query has given
  abbrev pub SoFar : Held S → Type 0
  SoFar now = IsUnchanged first (state g now) × (given : List Row) × HasGiven g sql params now given × Q given

  -- it is so of those before one that was given now, or of the whole answer
  abbrev pub OneOn : Held S → Option Row → Type 0
  OneOn now (Some row) = IsUnchanged first (state g now) × (given : List Row) × HasGiven g sql params now (given ++ row ∷ []) × Q given
  OneOn now None = IsShownSo Q sql params first (state g now)

  one_on : (old new : Held S) (row : Option Row) → IsPlain (understood first.now.schema sql) → SoFar old → IsUnchanged (state g old) (state g new) → Advances g old new row → OneOn new row
  one_on old new (Some row) plain far still on = (unchanged_then first (state g old) (state g new) far.0 still, far.1, on sql params far.1 far.2, far.3)
  one_on old new None plain far still on = (far.1, shown_from sql params first (state g old) (state g new) far.1 plain far.0 (on sql params far.1 far.2), far.3)

module _ {S : Type 0} (g : store.Ghosts S) (sql : List ℕ) (params : Row) {under : Schema} (plain : IsPlain (understood under sql)) where
  pub begun : (Q : List Row → Type 0) (old new : Held S) → (HasCleanDisk (state g new) → HasBegun g sql params old new)
      → Survives (state g old) (state g new) (CommitsShowing sql params (state g old)) → Q []
      → LooksIn {X = Unit {0}} under (state g old) (state g new) (Ok tt) (λ _. SoFar g sql params Q (state g old) new)
  begun Q old new began survives none = (
    commits_none sql params (state g old) (state g new) plain (IsPlacedIn under) (λ here. here) survives,
    λ clean now. (was_open (began clean), λ here. let same = (begun_at clean here).1 in (same.0.now_is, same.0.committed_is)),
    λ clean here. let it = begun_at clean here in (it.1.0.is_open, (it.1, [], it.0, none)),
  )
    where
      was_open : HasBegun g sql params old new → IsTrue (state g old).is_open
      was_open (inl h) = h.1.0.was_open
      was_open (inr h) = shown_open sql params (state g old) (state g new) _ h.1

      begun_at : HasCleanDisk (state g new) → IsPlacedIn under (state g old) → HasGiven g sql params new [] × IsUnchanged (state g old) (state g new)
      begun_at clean here = begun_plain g sql params old new (plain_here (state g old) sql here plain) (began clean)

  -- where the query is refused
  pub refused : {X : Type 0} (old new : Held S) (r : Result X Error) → OnOk r ⊥ → OnErr r (IsRefused g sql params old r new) → LooksIn under (state g old) (state g new) r (λ _. Unit {0})
  refused old new (Ok x) none held = absurd none
  refused {X} old new (Err e) none held =
      looks_so {X = X} (state g old) (state g new) (Err e) (λ _. Shown sql params (state g old) (state g new) []) (λ _. Unit {0}) (λ here x shown. tt {0})
      (looked_in sql params (state g old) (state g new) plain {X = X} (λ _. []) (Err e) (λ clean. tt) held.err held.survives)

  moved : (old new : Held S) (r : Result (Unit {0}) Error) (row : Option Row) → (HasCleanDisk (state g new) → OnOk r (Advances g old new row))
      → (HasCleanDisk (state g new) → OnOk r (IsUnchanged (state g old) (state g new)))
      → (HasCleanDisk (state g new) → IfErr r (λ e. Fails (state g old) (state g new) ⊥ e ⊎ IsUnchanged (state g old) (state g new))) → Survives (state g old) (state g new) (λ _. ⊥)
      → LooksIn under (state g old) (state g new) r (λ _. IsUnchanged (state g old) (state g new) × Advances g old new row)
  moved old new (Ok x) row on still kept survives = (
    survives_weaker (state g old) (state g new) _ _ (λ _ db none. absurd none) survives,
    λ clean now. let same = still clean in (same.0.was_open, λ here. (same.0.now_is, same.0.committed_is)),
    λ clean here. let same = still clean in (same.0.is_open, (same, on clean)),
  )
  moved old new (Err e) row on still kept survives = (
    survives_weaker (state g old) (state g new) _ _ (λ _ db none. absurd none) survives,
    λ clean now. elim (kept clean) [
      | inl fails ↦ (fails.3.was_open now, λ here. left_same (state g old) (state g new) here now (inr fails.3))
      | inr same ↦ (same.0.was_open, λ here. (same.0.now_is, same.0.committed_is))
    ],
    λ clean here. (tt, tt),
  )

  pub advanced : (Q : List Row → Type 0) (first : State) (old new : Held S) (r : Result (Unit {0}) Error) (row : Option Row)
      → LooksIn {X = Unit {0}} under first (state g old) (Ok tt) (λ _. SoFar g sql params Q first old)
      → (HasCleanDisk (state g new) → OnOk r (Advances g old new row)) → (HasCleanDisk (state g new) → OnOk r (IsUnchanged (state g old) (state g new)))
      → (HasCleanDisk (state g new) → IfErr r (λ e. Fails (state g old) (state g new) ⊥ e ⊎ IsUnchanged (state g old) (state g new))) → Survives (state g old) (state g new) (λ _. ⊥)
      → LooksIn under first (state g new) r (λ _. OneOn g sql params Q first new row)
  advanced Q first old new r row far on still kept survives =
      looks_then {X = Unit {0}} {Y = Unit {0}} first (state g old) (state g new) (tt {0})
      (λ _. SoFar g sql params Q first old) r (λ _ _. IsUnchanged (state g old) (state g new) × Advances g old new row)
      (λ _. OneOn g sql params Q first new row) (λ here x far moved. one_on g sql params Q first old new row (plain_here first sql here plain) far moved.0 moved.1) far
      (moved old new r row on still kept survives)

  -- no row is left
  pub none_left : (Q : List Row → Type 0) (first : State) (new : Held S) (row : Option Row) → None ≡ row
      → LooksIn {X = Unit {0}} under first (state g new) (Ok tt) (λ _. OneOn g sql params Q first new row)
      → LooksIn {X = Unit {0}} under first (state g new) (Ok tt) (λ _. IsShownSo Q sql params first (state g new))
  none_left Q first new row is =
      looks_so {X = Unit {0}} first (state g new) (Ok (tt {0})) (λ _. OneOn g sql params Q first new row) (λ _. IsShownSo Q sql params first (state g new))
      (λ here x one. subst (OneOn g sql params Q first new) (sym is) one)

  -- what is so of the rows before one is made so of it too
  pub one_done : (Q Next : List Row → Type 0) (first : State) (new : Held S) (row : Option Row) (given : Row) → Some given ≡ row → ((rows : List Row) → Q rows → Next (rows ++ given ∷ []))
      → LooksIn {X = Unit {0}} under first (state g new) (Ok tt) (λ _. OneOn g sql params Q first new row)
      → LooksIn {X = Unit {0}} under first (state g new) (Ok tt) (λ _. SoFar g sql params Next first new)
  one_done Q Next first new row given is more =
      looks_so {X = Unit {0}} first (state g new) (Ok (tt {0})) (λ _. OneOn g sql params Q first new row) (λ _. SoFar g sql params Next first new)
      (λ here x one. let it = subst (OneOn g sql params Q first new) (sym is) one in (it.0, it.1 ++ given ∷ [], it.2, more it.1 it.3))

-- a look is a read
pub kept_looks : {X : Type 0} (old new : State) (r : Result X Error) (P : X → Type 0) → Looks old new r P → ReadsKept old new r P
kept_looks old new r P h = (
  survives_weaker old new _ _ (λ _ db none kept. none (placed old kept)) h.0,
  λ clean now. let left = h.1 clean now in (left.0, λ kept. left.1 (placed old kept)),
  λ clean kept. h.2 clean (placed old kept),
)
