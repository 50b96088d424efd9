-- Why a query fails, and what reads one after the other makes of it.
use Rattle.std.proofs.Common.{◌≡◌, ◌≢◌, inl, inr, ℕ, zero, suc, ◌+◌, ◌≤◌, List, [], ◌∷◌, ◌++◌, length, append-nil, map, filter, Bool, Option}
use Rattle.std.proofs.Common.{Some, Result, Ok, Err, Vec, Global, true, false, IfErr, OnErr, IsSome, IsTrue, refl, sym, ap, subst, ◌∙◌, arith}
use Rattle.std.specs.Prelude.{⊤}
use Rattle.std.specs.List.{All, AllByRecursion}
use Rattle.std.specs.List.Sorted.{IsPermutation}
use Rattle.std.proofs.lemmas.List.{length-map}
use Rattle.std.proofs.lemmas.List.Elements.{All-from_recursion}
use Rattle.std.proofs.lemmas.List.Sorted.{IsPermutation-sym, length_permutation}
use Rattle.sqlite_disk.specs.Disk.{MoreFaults}
use Rattle.sqlite_schema.specs.declared.schema.Schema.{Schema}
use Rattle.sqlite_value.specs.Order.{Row, column}
use Rattle.sqlite_trees.specs.Tree.{Trees}
use Rattle.sqlite_trees.specs.declared.error.StoreError.{StoreError}
use Rattle.sqlite_trees.specs.declared.error.StoreError.TheVariants.{OutOfMemory, Io, Corrupt, Full, Broken, Unstorable}
use Rattle.sqlite_trees.specs.declared.store.Store as store
use Rattle.sqlite_rules.proofs.ListLemmas.{all_has, all_from}
use Rattle.sqlite.specs.declared.error.Error.{Error}
use Rattle.sqlite.specs.declared.error.Error.TheVariants.{SqliteFailure}
use Rattle.sqlite.specs.declared.error.ErrorCode.TheVariants as code
use Rattle.sqlite.specs.Effect.{Database}
use Rattle.sqlite.specs.Given.{IsRefused, FailsToAdvance}
use Rattle.sqlite.specs.Held.{Held, state}
use Rattle.sqlite.specs.Listing.{understood, reads_listing, IsSourceOf}
use Rattle.sqlite.specs.State.{State, HasCleanDisk, HasCause, IsUnchanged, IsNoStatement, IsNotRun, FailsToQuery, Survives, Shown, Begins}
use Rattle.sqlite.specs.Command.TheVariants.{Select}
use Rattle.sqlite.proofs.Callers.{IsPlain, given_begin, begins_as, reads_as}
use Rattle.sqlite_sql.specs.Term.{eval_all}
use Rattle.sqlite_value.specs.declared.value.Value.TheVariants.{Null}
use Rattle.mr_rows.specs.Meaning.{passes, columns_at}
use Rattle.mr_rows.specs.Reads.{IsPlacedIn, ReadsWhere, LooksIn, first_of}
use Rattle.mr_rows.specs.Schema.{our_schema}
use Rattle.mr_rows.specs.RowsAsked.{AreChosen}
use Rattle.mr_rows.specs.Causes.{IsOfStore, FailsByStoreWhere, FailsByStoreIn, FailsByStore, IsSureUnder, IsSureIn, ShowsOnly, AsksAll}
use Rattle.mr_rows.specs.CellLimits.{are_meta_cells}
use Rattle.mr_rows.specs.Form.{Form}
use Rattle.mr_rows.specs.Shown.{columns_from, IsShownAs, IsStoredAs, AreStoredAs}
use Rattle.mr_rows.specs.StatementMeaning.{program_of}
use Rattle.mr_rows.proofs.RowLemmas.{filter_all_true}
use Rattle.mr_rows.proofs.FormLemmas.{has_moved, shows}
use Rattle.mr_rows.proofs.QueryLemmas.{clean_before}
use Rattle.mr_rows.proofs.StreamedRows.{SoFar, OneOn}

-- a text that is sure is a statement
never_refused_in : (under : Schema) (sql : List ℕ) (params : Row) (old : State) (e : Error) → old.now.schema ≡ under
    → IsPlain (understood under sql) → IsSureIn under sql params → ¬ IsNoStatement old sql params e
never_refused_in under sql params old e schema plain sure (inl (fault, is, same)) = subst IsPlain (sym (ap (λ s. understood s sql) schema) ∙ is) plain
never_refused_in under sql params old e schema plain sure (inr (c, is, why)) =
    let known : understood under sql ≡ Ok c = sym (ap (λ s. understood s sql) schema) ∙ is in
    let it = subst (IsSureUnder under sql params) known sure.1 in
    let bare = subst IsPlain known plain in
    elim why [
      | inl part ↦ part.0 it.0
      | inr (inl count) ↦ count.0 it.1
      | inr (inr clock) ↦ clock.0 bare.1
    ]

-- what makes a sure query fail is the store
pub sure_fails_in : (under : Schema) (sql : List ℕ) (params : Row) (old new : State) (e : Error) → IsPlacedIn under old
    → IsPlain (understood under sql) → IsSureIn under sql params → FailsToQuery sql params old new e → IsOfStore old new e
unfolding FailsToQuery IsNotRun
sure_fails_in under sql params old new e here plain sure (inl (inl refused)) = absurd (never_refused_in under sql params old e here.schema plain sure refused.0)
sure_fails_in under sql params old new e here plain sure (inl (inr fails)) = inl (fails.0, fails.1, fails.2)
sure_fails_in under sql params old new e here plain sure (inr (c, it, shows)) =
    let known : understood under sql ≡ Ok c = sym (ap (λ s. understood s sql) here.schema) ∙ it.is in
    let bare = subst IsPlain known plain in
    let refuses = rw (bare.0, bare.1, append-nil params) at shows in
    let db : refuses.0 ≡ old.now = subst (λ b. IsSourceOf b old.now refuses.0) (ap (λ s. reads_listing s sql) here.schema ∙ sure.0) refuses.1 in
    let told = subst (IsSureUnder under sql params) known sure.1 in
    inr (told.2 old.step_limit refuses.0 e (ap (λ (d : Database). d.schema) db ∙ here.schema) refuses.2)

more_faults : (a b c : ℕ) → a ≤ b → MoreFaults b c → MoreFaults a c
more_faults a b c less more = omega (arith, less, more)

-- the cause of a failure after other reads is one since the first of them
pub since_first : (a b c : State) (P : Trees → Type 0) (e : Error) → Survives a b P → IsTrue b.is_open → IsOfStore b c e → IsOfStore a c e
since_first a b c P e s now (inr stopped) = inr (stopped.0, subst IsSome s.limit stopped.1)
since_first a b c P e s now (inl (cause, is, had)) = inl (cause, is, caused cause had)
  where
    caused : (k : StoreError) → HasCause b c ⊥ k → HasCause a c ⊥ k
    caused OutOfMemory had = tt
    caused Io had = more_faults a.faults b.faults c.faults s.counts had
    caused Corrupt had = more_faults a.faults b.faults c.faults s.counts had
    caused Full had = more_faults a.faults b.faults c.faults s.counts had
    caused Broken shut = absurd (let never = rw shut at now in cc)
    caused Unstorable none = none

still_placed : {under : Schema} (a b : State) → IsPlacedIn under a → IsUnchanged a b → IsPlacedIn under b
still_placed a b here same = record { schema = ap (λ (d : Database). d.schema) same.0.now_is ∙ here.schema; settled = same.0.now_is ∙ here.settled ∙ sym same.0.committed_is }

-- what begins an answer of an unchanged database began it before
begins_before : (sql : List ℕ) (params : Row) (a b : State) (rows : List Row) → b.now ≡ a.now → Begins sql params b rows → Begins sql params a rows
unfolding Begins
begins_before sql params a b rows same h = (
  h.0,
  record { is = subst (λ (d : Database). understood d.schema sql ≡ Ok h.0) same h.1.is; whole = h.1.whole; given = h.1.given; now = h.1.now },
  h.2,
  h.3,
  subst (λ (d : Database). IsSourceOf (reads_listing d.schema sql) d h.3) same h.4,
  h.5,
)

last_has : (P : Row → Type 0) (rows : List Row) (row : Row) → AllByRecursion P (rows ++ row ∷ []) → P row
last_has P [] row all = all.0
last_has P (r ∷ rows) row all = last_has P rows row all.1

module _ {S : Type 0} (g : store.Ghosts S) (sql : List ℕ) (params : Row) {under : Schema} (plain : IsPlain (understood under sql)) (sure : IsSureIn under sql params) where
  pub not_asked : {X : Type 0} (old new : Held S) (r : Result X Error) → OnErr r (IsRefused g sql params old r new) → FailsByStoreIn under (λ _. ⊤) (state g old) (state g new) r
  not_asked old new (Ok x) held = λ clean here all. tt
  not_asked old new (Err e) held = λ clean here all other. sure_fails_in under sql params (state g old) (state g new) e here plain sure (held.err clean)

  pub not_advanced : (Q : List Row → Type 0) (first : State) (old new : Held S) (r : Result (Unit {0}) Error)
      → LooksIn {X = Unit {0}} under first (state g old) (Ok tt) (λ _. SoFar g sql params Q first old)
      → (HasCleanDisk (state g new) → IfErr r (FailsToAdvance g old new)) → Survives (state g old) (state g new) (λ _. ⊥) → FailsByStoreIn under (λ _. ⊤) first (state g new) r
  not_advanced Q first old new (Ok x) far err survives = λ clean here all. tt
  not_advanced Q first old new (Err e) far err survives = λ clean here all other.
      let before = far.2 (clean_before survives clean) here in
      let so_far = before.1 in
      since_first first (state g old) (state g new) _ e far.0 before.0
      (sure_fails_in under sql params (state g old) (state g new) e (still_placed first (state g old) here so_far.0) plain sure (err clean sql params so_far.1 so_far.2))

  -- a row that was given is one of those that the text shows
  pub given_is : (P : Row → Type 0) (Q : List Row → Type 0) (first : State) (now : Held S) (row : Option Row) (x : Row) → Some x ≡ row → ShowsOnly P sql params first
      → LooksIn {X = Unit {0}} under first (state g now) (Ok tt) (λ _. OneOn g sql params Q first now row) → HasCleanDisk (state g now) → IsPlacedIn under first → P x
  given_is P Q first now row x is shows far clean here =
      let one = subst (OneOn g sql params Q first now) (sym is) (far.2 clean here).1 in
      last_has P one.1 x (shows (one.1 ++ x ∷ []) (begins_before sql params first (state g now) (one.1 ++ x ∷ []) one.0.0.now_is (given_begin g sql params now (one.1 ++ x ∷ []) one.2)))

pub asked_fails_in : {X : Type 0} (under : Schema) (sql : List ℕ) (params : Row) (old new : State) (r : Result X Error)
    → IsPlain (understood under sql) → (HasCleanDisk new → IfErr r (FailsToQuery sql params old new)) → IsSureIn under sql params
    → FailsByStoreIn under (λ _. ⊤) old new r
asked_fails_in under sql params old new (Ok x) plain err sure = λ clean here all. tt
asked_fails_in under sql params old new (Err e) plain err sure = λ clean here all other. sure_fails_in under sql params old new e here plain sure (err clean)

-- ---- one call after the other

-- looks led from the one state to the other, where this is known
abbrev pub ReachesWhere : (State → Type 0) → State → State → Type 0
ReachesWhere Known a b = Survives a b (λ _. ¬ Known a) × (HasCleanDisk b → Known a → IsTrue b.is_open × (b.now ≡ a.now) × (b.committed ≡ a.committed))

-- what a look leaves, whatever it tells
abbrev pub LookedWhere : (State → Type 0) → Type 0 → State → State → Type 0
LookedWhere Known X a b =
    Survives a b (λ _. ¬ Known a) × (HasCleanDisk b → IsTrue b.is_open → IsTrue a.is_open × (Known a → (b.now ≡ a.now) × (b.committed ≡ a.committed)))
    × (HasCleanDisk b → Known a → IsTrue b.is_open × X)

pub reached_where : {X : Type 0} (Known : State → Type 0) (a b : State) → LookedWhere Known X a b → ReachesWhere Known a b
reached_where Known a b look = (look.0, λ clean here. let now = (look.2 clean here).0 in let same = (look.1 clean now).1 here in (now, same.0, same.1))

-- it is known of what is the same
abbrev pub StaysKnown : (State → Type 0) → Type 1
StaysKnown Known = (a b : State) → Known a → b.now ≡ a.now → b.committed ≡ a.committed → Known b

pub placed_after : (under : Schema) → StaysKnown (IsPlacedIn under)
placed_after under a b here now committed = record { schema = ap (λ (d : Database). d.schema) now ∙ here.schema; settled = now ∙ here.settled ∙ sym committed }

told_since : {Y : Type 0} (a b c : State) (P : Trees → Type 0) (r : Result Y Error) → Survives a b P → IsTrue b.is_open → IfErr r (λ e. e ≢ SqliteFailure code.OutOfMemory → IsOfStore b c e)
    → IfErr r (λ e. e ≢ SqliteFailure code.OutOfMemory → IsOfStore a c e)
told_since a b c P (Ok y) survives now h = tt
told_since a b c P (Err e) survives now h = λ other. since_first a b c P e survives now (h other)

pub fails_on_where : {Y : Type 0} (Known : State → Type 0) → StaysKnown Known → (a b c : State) (After First Rows : Trees → Type 0) (r : Result Y Error)
    → ReachesWhere Known a b → Survives b c After → ((t : Trees) → First t → Rows t)
    → FailsByStoreWhere Known Rows b c r → FailsByStoreWhere Known First a c r
fails_on_where Known stays a b c After First Rows r way survives given fails = λ clean here rows.
    let it = way.1 (clean_before survives clean) here in
    told_since a b c _ r way.0 it.0 (fails clean (stays a b here it.1 it.2) (subst Rows (sym (ap (λ (d : Database). d.trees) it.1)) (given a.now.trees rows)))

-- the second of two looks fails
pub looks_fail : {X Y : Type 0} {under : Schema} (a b c : State) (x : X) (P : X → Type 0) (r : Result Y Error) (Q : Y → Type 0) (First Rows : Trees → Type 0)
    → LooksIn under a b (Ok x) P → LooksIn under b c r Q → ((t : Trees) → First t → Rows t)
    → FailsByStoreIn under Rows b c r → FailsByStoreIn under First a c r
looks_fail {X} {Y} {under} a b c x P r Q First Rows first next given fails =
    fails_on_where (IsPlacedIn under) (placed_after under) a b c (λ _. ¬ IsPlacedIn under b) First Rows r (reached_where (IsPlacedIn under) a b first) next.0 given fails

-- what is made of an answer refuses no rows like these
pub made_fails_where : {X Y : Type 0} (Known : State → Type 0) (a b : State) (x : X) (P : X → Type 0) (Rows : Trees → Type 0) (r : Result Y Error) → ReadsWhere Known a b (Ok x) P
    → (Rows a.now.trees → P x → IfErr r (λ e. e ≢ SqliteFailure code.OutOfMemory → ⊥)) → FailsByStoreWhere Known Rows a b r
made_fails_where Known a b x P Rows (Ok y) look never = λ clean here rows. tt
made_fails_where Known a b x P Rows (Err e) look never = λ clean here rows other. absurd (never rows (look.2 clean here).1 other)

pub made_fails : {X Y : Type 0} {under : Schema} (a b : State) (x : X) (P : X → Type 0) (Rows : Trees → Type 0) (r : Result Y Error) → LooksIn under a b (Ok x) P
    → (Rows a.now.trees → P x → IfErr r (λ e. e ≢ SqliteFailure code.OutOfMemory → ⊥)) → FailsByStoreIn under Rows a b r
made_fails {X} {Y} {under} a b x P Rows r = made_fails_where (IsPlacedIn under) a b x P Rows r

-- the same error tells the same, whatever else would have been answered
pub same_reads : {X Y : Type 0} (Known : State → Type 0) (old new : State) (r : Result X Error) (P : X → Type 0) (out : Result Y Error) (Q : Y → Type 0) (e : Error)
    → out ≡ Err e → ReadsWhere Known old new r P → ReadsWhere Known old new out Q
same_reads {X} {Y} Known old new r P out Q e is h = subst (λ (o : Result Y Error). ReadsWhere Known old new o Q) (sym is) (h.0, h.1, λ clean here. (tt, tt))

pub same_error : {X Y : Type 0} (r : Result X Error) (out : Result Y Error) (e : Error) (P : Error → Type 0) → r ≡ Err e → out ≡ Err e → IfErr r P → IfErr out P
same_error {X} {Y} r out e P was is h = subst (λ (o : Result Y Error). IfErr o P) (sym is) (subst (λ (o : Result X Error). IfErr o P) was h)

pub same_fails : {X Y : Type 0} (Known : State → Type 0) (Rows : Trees → Type 0) (old new : State) (r : Result X Error) (out : Result Y Error) (e : Error)
    → r ≡ Err e → out ≡ Err e → FailsByStoreWhere Known Rows old new r → FailsByStoreWhere Known Rows old new out
same_fails {X} {Y} Known Rows old new r out e was is h =
    subst (λ (o : Result Y Error). FailsByStoreWhere Known Rows old new o) (sym is) (subst (λ (o : Result X Error). FailsByStoreWhere Known Rows old new o) was h)

-- ---- what is made of rows

pub none_shown : (show : Row → Row) (stored shown : List Row) → IsPermutation (map show stored) shown → stored ≡ [] → shown ≡ []
none_shown show stored [] same none = refl
none_shown show stored (r ∷ shown) same none = absurd (has_moved _ [] (IsPermutation-sym _ _ (subst (λ xs. IsPermutation (map show xs) (r ∷ shown)) none same)) r (inl refl))

pub not_none : {X : Type 0} (show : Row → Row) (stored shown : List Row) (r : Result X Error) → IsPermutation (map show stored) shown
    → IfErr r (λ _. shown ≢ []) → stored ≡ [] → IfErr r (λ e. e ≢ SqliteFailure code.OutOfMemory → ⊥)
not_none show stored shown (Ok x) same refused none = tt
not_none show stored shown (Err e) same refused none = λ other. refused (none_shown show stored shown same none)

pub all_mapped : (P Q : Row → Type 0) (show : Row → Row) (rows : List Row) → ((r : Row) → Q r → P (show r)) → AllByRecursion Q rows → AllByRecursion P (map show rows)
all_mapped P Q show [] way all = tt
all_mapped P Q show (r ∷ rows) way all = (way r all.0, all_mapped P Q show rows way all.1)

-- ---- a text that asks for all rows of a table

module _ {under : Schema} (tree n : ℕ) (sql : List ℕ) (asks : AsksAll under tree n sql) where
  columns_of : (n at : ℕ) (r : Row) → eval_all (columns_at at n) ([] ∷ r ∷ []) ≡ columns_from at n r
  columns_of zero at r = refl
  columns_of (suc n) at r = ap (λ more. column r at ∷ more) (columns_of n (at + 1) r)

  as_columns : (stored shown : List Row) → IsPermutation (map (λ r. eval_all (columns_at 1 n) ([] ∷ r ∷ [])) (filter (passes [] []) stored)) shown → IsPermutation (map (columns_from 1 n) stored) shown
  as_columns stored shown same =
      subst (λ f. IsPermutation (map f stored) shown) (λ i r. columns_of n 1 r i) (subst (λ xs. IsPermutation (map (λ r. eval_all (columns_at 1 n) ([] ∷ r ∷ [])) xs) shown) (filter_all_true _) same)

  -- shows them
  pub shows_all : (old new : State) (rows : List Row) → old.now.schema ≡ under → Shown sql [] old new rows → IsPermutation (map (columns_from 1 n) (old.now.trees tree)) rows
  shows_all old new rows schema shown =
      let read = reads_as sql [] old new under schema (Select (program_of tree [] (columns_at 1 n)) asks.names) asks.means asks.plain asks.sure.0 rows shown in
      as_columns (old.now.trees tree) rows (shows tree [] (columns_at 1 n) old.now.trees [] rows (asks.alone old.now.trees) (read.answer Null))

  -- rows that begin an answer are those of the table, with others behind them
  begins_all : (s : State) (rows : List Row) → s.now.schema ≡ under → Begins sql [] s rows → (tail : List Row) × IsPermutation (map (columns_from 1 n) (s.now.trees tree)) (rows ++ tail)
  begins_all s rows schema h =
      let read = begins_as sql [] s s under schema (Select (program_of tree [] (columns_at 1 n)) asks.names) asks.means asks.plain asks.sure.0 rows h in
      (read.1.0, as_columns (s.now.trees tree) (rows ++ read.1.0) (shows tree [] (columns_at 1 n) s.now.trees [] (rows ++ read.1.0) (asks.alone s.now.trees) (read.1.1 Null)))

all_front : (P : Row → Type 0) (rows tail : List Row) → AllByRecursion P (rows ++ tail) → AllByRecursion P rows
all_front P [] tail all = tt
all_front P (r ∷ rows) tail all = (all.0, all_front P rows tail all.1)

-- rows that begin an answer of all rows of a table which are its own
pub shows_only : {under : Schema} (tree n : ℕ) (sql : List ℕ) (P Q : Row → Type 0) (s : State) → AsksAll under tree n sql
    → ((r : Row) → Q r → P (columns_from 1 n r)) → s.now.schema ≡ under → AllByRecursion Q (s.now.trees tree)
    → ShowsOnly P sql [] s
shows_only tree n sql P Q s asks way schema stored rows h =
    let it = begins_all tree n sql asks s rows schema h in
    let all = all_mapped P Q (columns_from 1 n) (s.now.trees tree) way stored in
    all_front P rows it.0 (all_from P (rows ++ it.0) (λ r here. all_has P _ r all (has_moved (rows ++ it.0) _ (IsPermutation-sym _ _ it.1) r here)))

-- rows that are shown of stored ones which are the table's own
pub all_shown : (P Q : Row → Type 0) (show : Row → Row) (stored shown : List Row) → ((r : Row) → Q r → P (show r)) → IsPermutation (map show stored) shown → AllByRecursion Q stored → All P shown
all_shown P Q show stored shown way same all =
    let mapped = all_mapped P Q show stored way all in
    All-from_recursion P shown (all_from P shown (λ r here. all_has P (map show stored) r mapped (has_moved shown (map show stored) (IsPermutation-sym _ _ same) r here)))

-- rows of which there is one at most
pub not_one : {X R K : Type 0} (f : Form R K) (trees : Trees) (shown : List Row) (r : Result X Error) → ((row : Row) → IsStoredAs f row → IsShownAs f (columns_from 1 (length f.table.columns) row))
    → IsPermutation (map (columns_from 1 (length f.table.columns)) (trees f.table.tree)) shown → IfErr r (λ _. length shown ≤ 1 → ¬ All (IsShownAs f) shown)
    → AreStoredAs f trees × (length (trees f.table.tree) ≤ 1) → IfErr r (λ e. e ≢ SqliteFailure code.OutOfMemory → ⊥)
not_one f trees shown (Ok x) way same refused rows = tt
not_one f trees shown (Err e) way same refused rows = λ other.
    let show = columns_from 1 (length f.table.columns) in
    let stored = trees f.table.tree in
    let many = length_permutation (map show stored) shown same in
    let as_many = length-map stored show in
    let few = rows.1 in
    refused (omega (arith, many, as_many, few)) (all_shown (IsShownAs f) (IsStoredAs f) show stored shown way same rows.0)

-- what reads rows that are shown of a table whose rows are its own
pub chosen_fails : {R K Y : Type 0} (f : Form R K) (chosen : R → Bool) (a b : State) (rows : Vec Row Global) (r : Result Y Error)
    → LooksIn our_schema a b (Ok rows) (λ rows. AreChosen f chosen a.now.trees rows.items)
    → IfErr r (λ e. e ≢ SqliteFailure code.OutOfMemory → ¬ All (IsShownAs f) rows.items) → FailsByStore (AreStoredAs f) a b r
chosen_fails f chosen a b rows (Ok y) looks refused = λ clean here stored. tt
chosen_fails f chosen a b rows (Err e) looks refused = λ clean here stored other. absurd (refused other ((looks.2 clean here).1.1 stored))

-- the first of the rows of `meta`, if there is one and no other
pub not_first_meta : {X : Type 0} (schema : ℕ) (Q : Row → Type 0) → ((r : Row) → Q r → are_meta_cells schema (columns_from 1 7 r) ≡ true)
    → (stored shown : List Row) (r : Result X Error) → IsPermutation (map (columns_from 1 7) stored) shown
    → IfErr r (λ _. (row : Row) → first_of shown ≡ Some row → are_meta_cells schema row ≡ false) → AllByRecursion Q stored × (length stored ≡ 1) → IfErr r (λ e. e ≢ SqliteFailure code.OutOfMemory → ⊥)
not_first_meta schema Q way stored shown (Ok x) same refused rows = tt
not_first_meta schema Q way stored shown (Err e) same refused rows = λ other. first shown same refused
  where
    Passes : Row → Type 0
    Passes r = are_meta_cells schema r ≡ true

    first : (shown : List Row) → IsPermutation (map (columns_from 1 7) stored) shown → ((row : Row) → first_of shown ≡ Some row → are_meta_cells schema row ≡ false) → ⊥
    first [] same refused =
        let none = length_permutation (map (columns_from 1 7) stored) [] same in
        let many = length-map stored (columns_from 1 7) in
        let one = rows.1 in
        absurd (omega (arith, none, many, one))
    first (r ∷ more) same refused =
        let all = all_mapped Passes Q (columns_from 1 7) stored way rows.0 in
        let passes = all_has Passes (map (columns_from 1 7) stored) r all (has_moved (r ∷ more) (map (columns_from 1 7) stored) (IsPermutation-sym _ _ same) r (inl refl)) in
        let fails = refused r refl in
        absurd (let never : true ≡ false = sym passes ∙ fails in cc)
