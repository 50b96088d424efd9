-- What a call of an open keeper reads or changes, as its trait says it.
use Rattle.std.proofs.Common.{◌≡◌, ◌⊎◌, inl, inr, ℕ, IsTrue, Result, Ok, Err, sym, ap, subst, ◌∙◌}
use Rattle.sqlite_trees.specs.Tree.{Trees}
use Rattle.sqlite_trees.specs.declared.store.Store.{Ghosts}
use Rattle.sqlite.specs.declared.error.Error.{Error}
use Rattle.sqlite.specs.Effect.{Database}
use Rattle.sqlite.specs.Held.{Held, state}
use Rattle.sqlite.specs.State.{State, HasCleanDisk, Survives}
use Rattle.mr_model.specs.Tables.{Tables}
use Rattle.mr_tables.specs.Change.{ChangeView, changed}
use Rattle.mr_store.specs.KeeperCalls.{failures_for}
use Rattle.mr_store.specs.declared.keeper.Fault.{Fault}
use Rattle.mr_store.proofs.CallsInTurn.{quiet_refused, atomic_refused, quiet_then, atomic_then, told_then}
use Rattle.mr_rows.specs.Database.{Applies, IsKept, IsReached, tables_in}
use Rattle.mr_rows.proofs.QueryLemmas.{clean_before}
use Rattle.mr_sql.specs.Calls.{IsAtomicCall, IsQuietCall}

module _ {S : Type 0} (g : Ghosts S) where
  abbrev pub Leaves : Held S × ℕ → Tables → Type 0
  Leaves k t = (trees : Trees) × (state g k.0).may_leave trees × (t ≡ tables_in trees)

  abbrev pub IsOpenIfClean : Held S × ℕ → Type 0
  IsOpenIfClean k = HasCleanDisk (state g k.0) → IsTrue (state g k.0).is_open

  -- what is known of an open keeper before the call, and what was read
  module _ (Known : State → Type 0) (at new : Held S × ℕ) (known : HasCleanDisk (state g at.0) → IsTrue (state g at.0).is_open → Known (state g at.0)) where
    left : Survives (state g at.0) (state g new.0) (λ _. ¬ Known (state g at.0)) → IsOpenIfClean at → HasCleanDisk (state g new.0) → (t : Tables) → Leaves new t → Leaves at t
    left survives is_open clean t (trees, leaves, is) =
        let before = clean_before survives clean in
        elim (survives.crash clean trees leaves) [ inl was ↦ (trees, was, is) | inr none ↦ absurd (none (known before (is_open before))) ]

    abbrev pub Stays : Type 0
    Stays = HasCleanDisk (state g new.0) → IsTrue (state g new.0).is_open
        → IsTrue (state g at.0).is_open × (Known (state g at.0) → ((state g new.0).now ≡ (state g at.0).now) × ((state g new.0).committed ≡ (state g at.0).committed))

    same : {P : Trees → Type 0} → Survives (state g at.0) (state g new.0) P → Stays → HasCleanDisk (state g new.0) → IsTrue (state g new.0).is_open
        → tables_in (state g new.0).now.trees ≡ tables_in (state g at.0).now.trees
    same survives stays clean now =
        let past = stays clean now in
        ap (λ (d : Database). tables_in d.trees) (past.1 (known (clean_before survives clean) past.0)).0

    pub quiet_ok : {Y : Type 0} (old : Held S × ℕ) (y : Y) → at ≡ old → IsOpenIfClean old → Survives (state g at.0) (state g new.0) (λ _. ¬ Known (state g at.0)) → Stays
        → (HasCleanDisk (state g new.0) → Known (state g at.0) → IsTrue (state g new.0).is_open) → new.1 ≡ at.1 → IsQuietCall g old new (Ok y)
    quiet_ok old y is is_open survives stays lasts counts =
        let here : IsOpenIfClean at = subst IsOpenIfClean (sym is) is_open in
        subst (λ k. IsQuietCall g k new (Ok y)) is (record {
          clean = λ clean. clean_before survives clean;
          opens = λ clean now. (stays clean now).0;
          lasts = λ clean was. lasts clean (known (clean_before survives clean) was);
          answered = λ clean. here (clean_before survives clean);
          same = λ clean now. same survives stays clean now;
          counts = counts;
          sure = λ none. absurd none;
          crash = λ clean t leaves. left survives here clean t leaves;
          settled = λ clean now settled t leaves. settled t (left survives here clean t leaves) ∙ sym (same survives stays clean now);
        })

    pub quiet_err : {Y : Type 0} (old : Held S × ℕ) (fault : Fault) → at ≡ old → IsOpenIfClean old → Survives (state g at.0) (state g new.0) (λ _. ¬ Known (state g at.0)) → Stays
        → new.1 ≡ failures_for fault at.1 → IsQuietCall {X = Y} g old new (Err fault)
    quiet_err {Y = Y} old fault is is_open survives stays counts =
        let here : IsOpenIfClean at = subst IsOpenIfClean (sym is) is_open in
        subst (λ k. IsQuietCall {X = Y} g k new (Err fault)) is (record {
          clean = λ clean. clean_before survives clean;
          opens = λ clean now. (stays clean now).0;
          lasts = λ clean was. tt;
          answered = λ clean. tt;
          same = λ clean now. same survives stays clean now;
          counts = counts;
          sure = λ none. absurd none;
          crash = λ clean t leaves. left survives here clean t leaves;
          settled = λ clean now settled t leaves. settled t (left survives here clean t leaves) ∙ sym (same survives stays clean now);
        })

  -- it was asked whether it is open: of a shut one nothing is known, and a crash leaves nothing more than before
  module _ (at new : Held S × ℕ) (kept : HasCleanDisk (state g at.0) → IsTrue (state g at.0).is_open → IsKept (state g at.0)) where
    asked_left : Survives (state g at.0) (state g new.0) (λ _. ⊥) → HasCleanDisk (state g new.0) → (t : Tables) → Leaves new t → Leaves at t
    asked_left survives clean t (trees, leaves, is) = elim (survives.crash clean trees leaves) [ inl was ↦ (trees, was, is) | inr none ↦ absurd none ]

    pub asked_ok : {Y : Type 0} (old : Held S × ℕ) (y : Y) → at ≡ old → Survives (state g at.0) (state g new.0) (λ _. ⊥) → Stays IsKept at new kept
        → (HasCleanDisk (state g new.0) → IsTrue (state g new.0).is_open) → (HasCleanDisk (state g new.0) → IsTrue (state g at.0).is_open) → new.1 ≡ at.1 → IsQuietCall g old new (Ok y)
    asked_ok old y is survives stays lasts was_open counts =
        subst (λ k. IsQuietCall g k new (Ok y)) is (record {
          clean = λ clean. clean_before survives clean;
          opens = λ clean now. (stays clean now).0;
          lasts = λ clean was. lasts clean;
          answered = was_open;
          same = λ clean now. same IsKept at new kept survives stays clean now;
          counts = counts;
          sure = λ none. absurd none;
          crash = λ clean t leaves. asked_left survives clean t leaves;
          settled = λ clean now settled t leaves. settled t (asked_left survives clean t leaves) ∙ sym (same IsKept at new kept survives stays clean now);
        })

    pub asked_err : {Y : Type 0} (old : Held S × ℕ) (fault : Fault) → at ≡ old → Survives (state g at.0) (state g new.0) (λ _. ⊥) → Stays IsKept at new kept
        → new.1 ≡ failures_for fault at.1 → IsQuietCall {X = Y} g old new (Err fault)
    asked_err {Y = Y} old fault is survives stays counts =
        subst (λ k. IsQuietCall {X = Y} g k new (Err fault)) is (record {
          clean = λ clean. clean_before survives clean;
          opens = λ clean now. (stays clean now).0;
          lasts = λ clean was. tt;
          answered = λ clean. tt;
          same = λ clean now. same IsKept at new kept survives stays clean now;
          counts = counts;
          sure = λ none. absurd none;
          crash = λ clean t leaves. asked_left survives clean t leaves;
          settled = λ clean now settled t leaves. settled t (asked_left survives clean t leaves) ∙ sym (same IsKept at new kept survives stays clean now);
        })

    -- a change, in one transaction
    abbrev Target : ChangeView → Tables
    Target change = changed change (tables_in (state g at.0).now.trees)

    reached : (change : ChangeView) → Survives (state g at.0) (state g new.0) (λ trees. IsReached (state g at.0) (Target change) trees) → IsOpenIfClean at → HasCleanDisk (state g new.0)
        → (t : Tables) → Leaves new t → Leaves at t ⊎ (IsTrue (state g at.0).is_open × (t ≡ Target change))
    reached change survives is_open clean t (trees, leaves, is) =
        let before = clean_before survives clean in
        elim (survives.crash clean trees leaves) [ inl was ↦ inl (trees, was, is) | inr makes ↦ inr (is_open before, is ∙ makes (kept before (is_open before))) ]

    pub atomic_ok : {Y : Type 0} (old : Held S × ℕ) (change : ChangeView) (y : Y) → at ≡ old → IsOpenIfClean old
        → ((db : Trees) → IsTrue (state g new.0).is_open → (state g new.0).may_leave db → db ≡ (state g new.0).committed.trees)
        → (HasCleanDisk (state g new.0) → IsTrue (state g new.0).is_open)
        → Applies (state g at.0) (state g new.0) (Target change) (Ok tt) → Survives (state g at.0) (state g new.0) (λ trees. IsReached (state g at.0) (Target change) trees)
        → new.1 ≡ at.1 → IsAtomicCall g change old new (Ok y)
    atomic_ok old change y is is_open alone lasts applies survives counts =
        let here : IsOpenIfClean at = subst IsOpenIfClean (sym is) is_open in
        let made = λ (clean : HasCleanDisk (state g new.0)) (now : IsTrue (state g new.0).is_open). let past = applies clean now in (past.1 (kept (clean_before survives clean) past.0)).0 in
        subst (λ k. IsAtomicCall g change k new (Ok y)) is (record {
          clean = λ clean. clean_before survives clean;
          opens = λ clean now. (applies clean now).0;
          lasts = λ clean was. lasts clean;
          answered = λ clean. here (clean_before survives clean);
          applied = λ clean now. (made clean now).tables_are;
          refused = λ clean now. tt;
          counts = counts;
          sure = λ none. absurd none;
          crash = λ clean t leaves. reached change survives here clean t leaves;
          settled = λ clean now settled t leaves. leaves.2 ∙ ap tables_in (alone leaves.0 now leaves.1) ∙ ap (λ (d : Database). tables_in d.trees) (sym (made clean now).kept.settled);
        })

    pub atomic_err : {Y : Type 0} (old : Held S × ℕ) (change : ChangeView) (e : Error) (fault : Fault) → at ≡ old → IsOpenIfClean old
        → ((db : Trees) → IsTrue (state g new.0).is_open → (state g new.0).may_leave db → db ≡ (state g new.0).committed.trees)
        → Applies (state g at.0) (state g new.0) (Target change) (Err e) → Survives (state g at.0) (state g new.0) (λ trees. IsReached (state g at.0) (Target change) trees)
        → new.1 ≡ failures_for fault at.1 → IsAtomicCall {X = Y} g change old new (Err fault)
    atomic_err {Y = Y} old change e fault is is_open alone applies survives counts =
        let here : IsOpenIfClean at = subst IsOpenIfClean (sym is) is_open in
        let held = λ (clean : HasCleanDisk (state g new.0)) (now : IsTrue (state g new.0).is_open). let past = applies clean now in kept (clean_before survives clean) past.0 in
        let stays = λ (clean : HasCleanDisk (state g new.0)) (now : IsTrue (state g new.0).is_open). let past = applies clean now in (past.1 (kept (clean_before survives clean) past.0)).1 in
        subst (λ k. IsAtomicCall {X = Y} g change k new (Err fault)) is (record {
          clean = λ clean. clean_before survives clean;
          opens = λ clean now. (applies clean now).0;
          lasts = λ clean was. tt;
          answered = λ clean. tt;
          applied = λ clean now. tt;
          refused = λ clean now. ap (λ (d : Database). tables_in d.trees) (stays clean now).0;
          counts = counts;
          sure = λ none. absurd none;
          crash = λ clean t leaves. reached change survives here clean t leaves;
          settled = λ clean now settled t leaves.
              let same = stays clean now in
              leaves.2 ∙ ap tables_in (alone leaves.0 now leaves.1) ∙ ap (λ (d : Database). tables_in d.trees) (same.1 ∙ sym (held clean now).settled ∙ sym same.0);
        })

  -- ---- it is asked whether it is open, and then something else

  abbrev shown : Held S × ℕ → Tables
  shown k = tables_in (state g k.0).now.trees

  abbrev is_clean : Held S × ℕ → Type 0
  is_clean k = HasCleanDisk (state g k.0)

  abbrev is_open : Held S × ℕ → Type 0
  is_open k = IsTrue (state g k.0).is_open

  pub refused_call : {X Y : Type 0} (old new : Held S × ℕ) (e : Fault) → IsQuietCall {X = X} g old new (Err e) → IsQuietCall {X = Y} g old new (Err e)
  refused_call {X = X} {Y = Y} old new e q = quiet_refused shown (λ k. k.1) is_clean is_open Leaves {X = X} {Y = Y} old new e q

  pub refused_change : {X Y : Type 0} (change : ChangeView) (old new : Held S × ℕ) (e : Fault) → IsQuietCall {X = X} g old new (Err e) → IsAtomicCall {X = Y} g change old new (Err e)
  refused_change {X = X} {Y = Y} change old new e q = atomic_refused shown (λ k. k.1) is_clean is_open Leaves {X = X} {Y = Y} change old new e q

  pub then_call : {X Y : Type 0} (old mid new : Held S × ℕ) (x : X) (r : Result Y Fault) → IsQuietCall g old mid (Ok x) → IsQuietCall g mid new r → IsQuietCall g old new r
  then_call old mid new x r first next = quiet_then shown (λ k. k.1) is_clean is_open Leaves old mid new x r first next

  pub then_change : {X Y : Type 0} (change : ChangeView) (old mid new : Held S × ℕ) (x : X) (r : Result Y Fault)
      → IsQuietCall g old mid (Ok x) → IsAtomicCall g change mid new r → IsAtomicCall g change old new r
  then_change change old mid new x r first next = atomic_then shown (λ k. k.1) is_clean is_open Leaves old mid new change x r first next

  pub then_told : {X Y : Type 0} (P : Tables → Type 0) (old mid new : Held S × ℕ) (x : X) (r : Result Y Fault) → IsQuietCall g old mid (Ok x) → IsQuietCall g mid new r
      → (is_clean new → is_open mid → P (shown mid)) → is_clean new → is_open old → P (shown old)
  then_told P old mid new x r first next told = told_then shown (λ k. k.1) is_clean is_open Leaves old mid new P x r first next told

  -- an open keeper is open when it is asked
  pub open_then : {X : Type 0} (old mid : Held S × ℕ) (x : X) → IsQuietCall g old mid (Ok x) → is_clean mid → is_open mid
  open_then old mid x first clean = first.lasts clean (first.answered clean)
