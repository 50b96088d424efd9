-- A query that is read leaves all as it was.
use Rattle.std.proofs.Common.{◌≡◌, ◌⊎◌, inl, inr, ℕ, List, Ok, Err, Option, None, Some, Result, IfOk, IfErr, OnOk, IsTrue, refl, sym, ap, subst, ◌∙◌, arith}
use Rattle.sqlite_value.specs.Order.{Row}
use Rattle.sqlite_trees.specs.Tree.{Trees}
use Rattle.sqlite.specs.declared.error.Error.{Error}
use Rattle.sqlite_schema.specs.declared.command.Returning.{Returning}
use Rattle.sqlite_schema.specs.declared.schema.Schema.{Schema}
use Rattle.sqlite.specs.Clock.{timed}
use Rattle.sqlite.specs.Listing.{understood}
use Rattle.sqlite.specs.State.{State, HasCleanDisk, IsUnchanged, IsRolledBack, Shown, ShowsRows, FailsToShow, FailsToQuery, IsNotRun, Survives, CommitsShowing}
use Rattle.sqlite.proofs.StateLemmas.{survives_weaker, survives_then}
use Rattle.sqlite.proofs.Callers.{IsPlain, never_commits}
use Rattle.sqlite.specs.Effect.{Database}
use Rattle.mr_rows.specs.Database.{IsKept, IsOurs}
use Rattle.mr_rows.specs.Reads.{ReadsKept, IsPlacedIn, IsPlaced, LooksIn, ReadsWhere, IsInUse, ReadsInUse}

pub placed : (s : State) → IsKept s → IsPlaced s
placed s kept = record { schema = kept.ours.schema; settled = kept.settled }

pub plain_here : {under : Schema} (s : State) (sql : List ℕ) → IsPlacedIn under s → IsPlain (understood under sql) → IsPlain (understood s.now.schema sql)
plain_here s sql here plain = subst (λ schema. IsPlain (understood schema sql)) (sym here.schema) plain

shown_same : (sql : List ℕ) (params : Row) (old new : State) (rows : List Row) → IsPlain (understood old.now.schema sql) → Shown sql params old new rows → IsUnchanged old new
unfolding Shown
shown_same sql params old new rows plain h =
    let none = (subst IsPlain h.1.is plain).0 in
    (subst (ShowsRows old new sql h.0 (timed params h.0.formats h.1.now) rows) none h.2).3

fails_same : (sql : List ℕ) (params : Row) (old new : State) (e : Error) → IsPlain (understood old.now.schema sql) → FailsToQuery sql params old new e → IsUnchanged old new ⊎ IsRolledBack old new
unfolding FailsToQuery IsNotRun
fails_same sql params old new e plain (inl (inl same)) = inl same.1
fails_same sql params old new e plain (inl (inr fails)) = inr fails.3
fails_same sql params old new e plain (inr (c, it, shows)) =
    let none = (subst IsPlain it.is plain).0 in
    inl (subst (FailsToShow old new sql c (timed params c.formats it.now) e) none shows).3

pub left_same : {under : Schema} (old new : State) → IsPlacedIn under old → IsTrue new.is_open → IsUnchanged old new ⊎ IsRolledBack old new → (new.now ≡ old.now) × (new.committed ≡ old.committed)
left_same old new here now (inl same) = (same.0.now_is, same.0.committed_is)
left_same old new here now (inr back) = ((back.undone now).0 ∙ sym here.settled, (back.undone now).1)

-- what shows rows was open before, and so was what is open after a failure
pub shown_open : (sql : List ℕ) (params : Row) (old new : State) (rows : List Row) → Shown sql params old new rows → IsTrue old.is_open
unfolding Shown
shown_open sql params old new rows (c, it, shows) = by_returning c.returning shows
  where
    by_returning : (r : Option Returning) → ShowsRows old new sql c (timed params c.formats it.now) rows r → IsTrue old.is_open
    by_returning None h = h.3.0.was_open
    by_returning (Some what) h = h.1.shown.was_open

fails_open : (sql : List ℕ) (params : Row) (old new : State) (e : Error) → FailsToQuery sql params old new e → IsTrue new.is_open → IsTrue old.is_open
unfolding FailsToQuery IsNotRun
fails_open sql params old new e (inl (inl same)) now = same.1.0.was_open
fails_open sql params old new e (inl (inr fails)) now = fails.3.was_open now
fails_open sql params old new e (inr (c, it, shows)) now = by_returning c.returning shows
  where
    by_returning : (r : Option Returning) → FailsToShow old new sql c (timed params c.formats it.now) e r → IsTrue old.is_open
    by_returning None h = h.3.0.was_open
    by_returning (Some what) (inl h) = h.1.0.was_open
    by_returning (Some what) (inr fails) = fails.3.was_open now

module _ {under : Schema} (sql : List ℕ) (params : Row) (old new : State) (plain : IsPlain (understood under sql)) (Known : State → Type 0) (here : Known old → IsPlacedIn under old) where
  pub commits_none : Survives old new (CommitsShowing sql params old) → Survives old new (λ _. ¬ Known old)
  commits_none h = survives_weaker old new _ _ (λ _ db commits known. never_commits sql params old db (plain_here old sql (here known) plain) commits) h

  kept_by : {X : Type 0} (items : X → List Row) (r : Result X Error) → IfOk r (λ x. Shown sql params old new (items x)) → IfErr r (FailsToQuery sql params old new)
      → IsTrue new.is_open → IsTrue old.is_open × (Known old → (new.now ≡ old.now) × (new.committed ≡ old.committed))
  kept_by items (Ok x) ok err now =
      (shown_open sql params old new (items x) ok, λ known. left_same old new (here known) now (inl (shown_same sql params old new (items x) (plain_here old sql (here known) plain) ok)))
  kept_by items (Err e) ok err now =
      (fails_open sql params old new e err now, λ known. left_same old new (here known) now (fails_same sql params old new e (plain_here old sql (here known) plain) err))

  stays_open : {X : Type 0} (items : X → List Row) (r : Result X Error) → IfOk r (λ x. Shown sql params old new (items x)) → Known old → OnOk r (IsTrue new.is_open)
  stays_open items (Ok x) ok known = (shown_same sql params old new (items x) (plain_here old sql (here known) plain) ok).0.is_open
  stays_open items (Err e) ok known = tt

  -- a plain query reads
  pub asked_where : {X : Type 0} (items : X → List Row) (r : Result X Error)
      → (HasCleanDisk new → IfOk r (λ x. Shown sql params old new (items x))) → (HasCleanDisk new → IfErr r (FailsToQuery sql params old new))
      → Survives old new (CommitsShowing sql params old) → ReadsWhere Known old new r (λ x. Shown sql params old new (items x))
  asked_where items r ok err survives = (commits_none survives, λ clean now. kept_by items r (ok clean) (err clean) now, λ clean known. (stays_open items r (ok clean) known, ok clean))

module _ (sql : List ℕ) (params : Row) (old new : State) {under : Schema} (plain : IsPlain (understood under sql)) where
  pub looked_in : {X : Type 0} (items : X → List Row) (r : Result X Error)
      → (HasCleanDisk new → IfOk r (λ x. Shown sql params old new (items x))) → (HasCleanDisk new → IfErr r (FailsToQuery sql params old new))
      → Survives old new (CommitsShowing sql params old) → LooksIn under old new r (λ x. Shown sql params old new (items x))
  looked_in items r ok err survives = asked_where sql params old new plain (IsPlacedIn under) (λ here. here) items r ok err survives

-- ---- reads, one after another

pub told_so : {X : Type 0} (r : Result X Error) (P Q : X → Type 0) → ((x : X) → P x → Q x) → IfOk r P → IfOk r Q
told_so (Ok x) P Q way h = way x h
told_so (Err e) P Q way h = tt

pub told_two : {X : Type 0} (r : Result X Error) (P Q R : X → Type 0) → ((x : X) → P x → Q x → R x) → IfOk r P → IfOk r Q → IfOk r R
told_two (Ok x) P Q R way h k = way x h k
told_two (Err e) P Q R way h k = tt

-- a disk that is clean after a call was clean before it
pub clean_before : {old new : State} {P : Trees → Type 0} → Survives old new P → HasCleanDisk new → HasCleanDisk old
clean_before s clean = let less = s.clean in omega (arith, less, clean)

-- of a database of which this is known
module _ (Known : State → Type 0) where
  pub told_where : {X : Type 0} (old new : State) (r : Result X Error) (P Q : X → Type 0) → (Known old → (x : X) → P x → Q x) → ReadsWhere Known old new r P → ReadsWhere Known old new r Q
  told_where old new r P Q way h = (h.0, h.1, λ clean known. let told = h.2 clean known in (told.0, told_so r P Q (way known) told.1))

  pub made_where : {X Y : Type 0} (old new : State) (x : X) (P : X → Type 0) (r : Result Y Error) (Q : Y → Type 0)
      → (Known old → P x → IfOk r Q) → ReadsWhere Known old new (Ok x) P → ReadsWhere Known old new r Q
  made_where old new x P (Ok y) Q way h = (h.0, h.1, λ clean known. let told = h.2 clean known in (told.0, way known told.1))
  made_where old new x P (Err e) Q way h = (h.0, h.1, λ clean known. (tt, tt))

  -- a second read finds what the first found
  pub then_where : {X Y : Type 0} (Later : State → Type 0) (a b c : State) → (Known a → IsTrue b.is_open → (b.now ≡ a.now) × (b.committed ≡ a.committed) → Later b)
      → (x : X) (P : X → Type 0) (r : Result Y Error) (Q : Database → Y → Type 0) (R : Y → Type 0)
      → (Known a → (y : Y) → P x → Q a.now y → R y) → ReadsWhere Known a b (Ok x) P → ReadsWhere Later b c r (Q b.now) → ReadsWhere Known a c r R
  then_where Later a b c still x P r Q R way p q =
      let clean_between = λ (clean : HasCleanDisk c). clean_before q.0 clean in
      let known_between = λ (clean : HasCleanDisk c) (known : Known a).
      let told = p.2 (clean_between clean) known in
      still known told.0 ((p.1 (clean_between clean) told.0).1 known) in (
        survives_then a b c (λ _. ¬ Known a) (λ _. ¬ Later b) (λ _. ¬ Known a) (λ _ db none. none) (λ clean db none known. none (known_between clean known)) p.0 q.0,
        λ clean now.
            let later = q.1 clean now in
            let first = p.1 (clean_between clean) later.0 in
            (first.0, λ known. let same = first.1 known in let more = later.1 (still known later.0 same) in (more.0 ∙ same.0, more.1 ∙ same.1)),
        λ clean known.
            let told = p.2 (clean_between clean) known in
            let same = (p.1 (clean_between clean) told.0).1 known in
            let last = q.2 clean (known_between clean known) in
            (last.0, told_so r (Q b.now) R (λ y h. way known y told.1 (subst (λ db. Q db y) same.0 h)) last.1),
      )

pub still_kept : (a b : State) → IsKept a → (b.now ≡ a.now) × (b.committed ≡ a.committed) → IsKept b
still_kept a b kept same = record { ours = subst IsOurs (sym same.0) kept.ours; settled = same.0 ∙ kept.settled ∙ sym same.1 }

-- of a keeper's database

pub reads_so : {X : Type 0} (old new : State) (r : Result X Error) (P Q : X → Type 0) → (IsKept old → (x : X) → P x → Q x) → ReadsKept old new r P → ReadsKept old new r Q
reads_so = told_where IsKept

pub reads_made : {X Y : Type 0} (old new : State) (x : X) (P : X → Type 0) (r : Result Y Error) (Q : Y → Type 0) → (IsKept old → P x → IfOk r Q) → ReadsKept old new (Ok x) P → ReadsKept old new r Q
reads_made = made_where IsKept

pub reads_then : {X Y : Type 0} (a b c : State) (x : X) (P : X → Type 0) (r : Result Y Error) (Q : Database → Y → Type 0) (R : Y → Type 0)
    → (IsKept a → (y : Y) → P x → Q a.now y → R y) → ReadsKept a b (Ok x) P → ReadsKept b c r (Q b.now) → ReadsKept a c r R
reads_then a b c = then_where IsKept IsKept a b c (λ kept now same. still_kept a b kept same)

-- of one in use

pub in_use : {X : Type 0} (old new : State) (r : Result X Error) (P : X → Type 0) → ReadsKept old new r P → ReadsInUse old new r P
in_use old new r P h = (
  survives_weaker old new _ _ (λ _ db none held. none held.0) h.0,
  λ clean now. let told = h.1 clean now in (told.0, λ held. told.1 held.0),
  λ clean held. h.2 clean held.0,
)

pub uses_made : {X Y : Type 0} (old new : State) (x : X) (P : X → Type 0) (r : Result Y Error) (Q : Y → Type 0) → (IsInUse old → P x → IfOk r Q) → ReadsInUse old new (Ok x) P → ReadsInUse old new r Q
uses_made = made_where IsInUse

-- nothing was done
pub survives_itself : (a : State) (P : Trees → Type 0) → Survives a a P
survives_itself a P = record {
  clean = omega arith;
  shield = λ shield. shield;
  counts = omega arith;
  limit = refl;
  closes = λ clean now. inl now;
  crash = λ clean db left. inl left;
}

-- ---- looks, one after another

pub looks_so : {X : Type 0} {under : Schema} (old new : State) (r : Result X Error) (P Q : X → Type 0)
    → (IsPlacedIn under old → (x : X) → P x → Q x) → LooksIn under old new r P → LooksIn under old new r Q
looks_so {X} {under} = told_where (IsPlacedIn under)

-- what is made of the answer
pub looks_made : {X Y : Type 0} {under : Schema} (old new : State) (x : X) (P : X → Type 0) (r : Result Y Error) (Q : Y → Type 0)
    → (IsPlacedIn under old → P x → IfOk r Q) → LooksIn under old new (Ok x) P → LooksIn under old new r Q
looks_made {X} {Y} {under} = made_where (IsPlacedIn under)

-- a second look finds what the first found
pub looks_then : {X Y : Type 0} {under : Schema} (a b c : State) (x : X) (P : X → Type 0) (r : Result Y Error) (Q : Database → Y → Type 0) (R : Y → Type 0)
    → (IsPlacedIn under a → (y : Y) → P x → Q a.now y → R y) → LooksIn under a b (Ok x) P → LooksIn under b c r (Q b.now) → LooksIn under a c r R
looks_then {X} {Y} {under} a b c = then_where (IsPlacedIn under) (IsPlacedIn under) a b c still_placed
  where
    still_placed : IsPlacedIn under a → IsTrue b.is_open → (b.now ≡ a.now) × (b.committed ≡ a.committed) → IsPlacedIn under b
    still_placed here now same = record { schema = ap (λ (d : Database). d.schema) same.0 ∙ here.schema; settled = same.0 ∙ here.settled ∙ sym same.1 }
