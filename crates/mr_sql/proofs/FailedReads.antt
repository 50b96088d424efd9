-- What reads the tables of a replica fails only by the store.
use Rattle.std.proofs.Common.{◌≡◌, ◌≢◌, inl, inr, Bool, true, false, Result, Ok, Err, length, IfErr, IsSome, IsTrue, refl, sym, subst, ◌∙◌, arith}
use Rattle.sqlite_trees.specs.Tree.{Trees}
use Rattle.sqlite_trees.specs.declared.error.StoreError.{StoreError}
use Rattle.sqlite_trees.specs.declared.error.StoreError.TheVariants.{OutOfMemory, Io, Corrupt, Full, Broken, Unstorable}
use Rattle.sqlite.specs.Effect.{Database}
use Rattle.sqlite.specs.State.{State, HasCleanDisk, HasCause, Survives, store_error}
use Rattle.sqlite.specs.declared.error.Error.{Error}
use Rattle.sqlite.specs.declared.error.Error.TheVariants.{SqliteFailure}
use Rattle.sqlite.specs.declared.error.ErrorCode.TheVariants as code
use Rattle.mr_model.specs.Replica.{Replica}
use Rattle.mr_model.specs.Tables.{Stands}
use Rattle.mr_rows.specs.Causes.{IsOfStore, FailsByStore}
use Rattle.mr_rows.specs.Database.{IsKept, tables_in}
use Rattle.mr_rows.specs.Reads.{ReadsKept, ReadsInUse}
use Rattle.mr_rows.specs.Shown.{AreOurRows}
use Rattle.mr_rows.proofs.HeldRows.{rows_held}
use Rattle.mr_rows.proofs.QueryLemmas.{clean_before, placed, still_kept}
use Rattle.mr_sql.specs.Failed.{StoreFailed}
use Rattle.mr_sql.specs.FailedReads.{FailsByStoreAlone}

-- rows that are a replica's
abbrev pub Rows : Trees → Type 0
Rows trees = AreOurRows trees × (length (trees 0) ≡ 1)

pub of_store : (old new : State) (e : Error) → e ≢ SqliteFailure code.OutOfMemory → IsOfStore old new e → StoreFailed old new
of_store old new e other (inr stopped) = inr (inr stopped.1)
of_store old new e other (inl (k, same, had)) = go k same had
  where
    go : (k : StoreError) → e ≡ store_error k → HasCause old new ⊥ k → StoreFailed old new
    go OutOfMemory same had = absurd (other same)
    go Io same had = inl had
    go Corrupt same had = inl had
    go Full same had = inl had
    go Broken same had = inr (inl had)
    go Unstorable same had = absurd had

-- what fails by the store over such rows does so over those of a keeper that stand for a replica
pub alone : {X : Type 0} (a b : State) (r : Result X Error) → FailsByStore Rows a b r → FailsByStoreAlone a b r
alone a b (Ok x) fails = λ clean kept r stands. tt
alone a b (Err e) fails = λ clean kept r stands other. of_store a b e other (fails clean (placed a kept) (rows_held a.now.trees r kept.ours.held stands) other)

since : (a b c : State) {P : Trees → Type 0} → Survives a b P → IsTrue b.is_open → StoreFailed b c → StoreFailed a c
since a b c s now (inl more) = inl (let low = s.counts in omega (arith, low, more))
since a b c s now (inr (inl shut)) = absurd (let never = rw shut at now in cc)
since a b c s now (inr (inr limit)) = inr (inr (subst IsSome s.limit limit))

-- the same error, whatever else would have been answered
pub same_alone : {X Y : Type 0} (a b : State) (r : Result X Error) (out : Result Y Error) (e : Error) → r ≡ Err e → out ≡ Err e → FailsByStoreAlone a b r → FailsByStoreAlone a b out
same_alone {X} {Y} a b r out e was is fails = subst (λ (o : Result Y Error). FailsByStoreAlone a b o) (sym is) (subst (λ (o : Result X Error). FailsByStoreAlone a b o) was fails)

-- where only memory is wanting
pub memory_alone : {X : Type 0} (r : Result X Error) → IfErr r (λ e. e ≡ SqliteFailure code.OutOfMemory) → IfErr r (λ e. e ≢ SqliteFailure code.OutOfMemory → ⊥)
memory_alone (Ok x) memory = tt
memory_alone (Err e) memory = λ other. other memory

-- where nothing is refused
pub never_so : {X : Type 0} (r : Result X Error) (P : Error → Type 0) → ((e : Error) → P e → ⊥) → IfErr r P → IfErr r (λ e. e ≢ SqliteFailure code.OutOfMemory → ⊥)
never_so (Ok x) P way h = tt
never_so (Err e) P way h = λ other. way e h

-- what is refused only where this doesn't hold
pub refused_alone : {X : Type 0} (r : Result X Error) (P : Type 0) → P → IfErr r (λ e. e ≢ SqliteFailure code.OutOfMemory → ¬ P) → IfErr r (λ e. e ≢ SqliteFailure code.OutOfMemory → ⊥)
refused_alone (Ok x) P holds refused = tt
refused_alone (Err e) P holds refused = λ other. refused other holds

-- one read after another
pub alone_then : {X Y : Type 0} (a b c : State) (x : X) (P : X → Type 0) {After : Trees → Type 0} (r : Result Y Error)
    → ReadsKept a b (Ok x) P → Survives b c After → FailsByStoreAlone b c r → FailsByStoreAlone a c r
alone_then a b c x P (Ok y) read survives fails = λ clean kept r stands. tt
alone_then a b c x P (Err e) read survives fails = λ clean kept r stands other.
    let between = clean_before survives clean in
    let now = (read.2 between kept).0 in
    let same = (read.1 between now).1 kept in
    since a b c read.0 now (fails clean (still_kept a b kept same) r (subst (λ (d : Database). Stands (tables_in d.trees) r) (sym same.0) stands) other)

-- what is made of an answer is never refused of a replica's rows
pub alone_made : {X Y : Type 0} (a b : State) (x : X) (P : X → Type 0) (r : Result Y Error) → ReadsKept a b (Ok x) P
    → ((s : Replica) → Stands (tables_in a.now.trees) s → P x → IfErr r (λ e. e ≢ SqliteFailure code.OutOfMemory → ⊥)) → FailsByStoreAlone a b r
alone_made a b x P (Ok y) read never = λ clean kept s stands. tt
alone_made a b x P (Err e) read never = λ clean kept s stands other. absurd (never s stands (read.2 clean kept).1 other)

-- the same where the answer is known only of a database that is open
pub alone_used : {X Y : Type 0} (a b : State) (x : X) (P : X → Type 0) (r : Result Y Error) → ReadsInUse a b (Ok x) P
    → ((s : Replica) → Stands (tables_in a.now.trees) s → P x → IfErr r (λ e. e ≢ SqliteFailure code.OutOfMemory → ⊥)) → FailsByStoreAlone a b r
alone_used a b x P (Ok y) read never = λ clean kept s stands. tt
alone_used a b x P (Err e) read never = λ clean kept s stands other. go clean kept s stands other a.is_open refl
  where
    go : HasCleanDisk b → IsKept a → (s : Replica) → Stands (tables_in a.now.trees) s → e ≢ SqliteFailure code.OutOfMemory → (is : Bool) → a.is_open ≡ is → StoreFailed a b
    go clean kept s stands other false is = inr (inl is)
    go clean kept s stands other true is = absurd (never s stands (read.2 clean (kept, subst IsTrue (sym is) refl)).1 other)
