-- A keeper is asked whether it is open, and then something else.
use Rattle.std.specs.Prelude.{OnOk, OnErr}
use Rattle.std.proofs.Common.{◌≡◌, ◌⊎◌, inl, inr, ℕ, ap, subst, ◌∙◌, Result, Ok, Err}
use Rattle.mr_model.specs.Tables.{Tables}
use Rattle.mr_tables.specs.Change.{ChangeView, changed}
use Rattle.mr_store.specs.declared.keeper.Fault.{Fault}
use Rattle.mr_store.specs.KeeperCalls.{failures_after, IsAtomic, IsQuiet}

on_ok : {X : Type 0} (r : Result X Fault) {P Q : Type 0} → (P → Q) → OnOk r P → OnOk r Q
on_ok (Ok x) way p = way p
on_ok (Err e) way p = tt

on_err : {X : Type 0} (r : Result X Fault) {P Q : Type 0} → (P → Q) → OnErr r P → OnErr r Q
on_err (Ok x) way p = tt
on_err (Err e) way p = way p

-- A keeper by its ghosts, of which no tables are said to be sure.
module _ {K : Type 0} (tables : K → Tables) (failures : K → ℕ) (is_clean is_open : K → Type 0) (may_leave : K → Tables → Type 0) where
  abbrev pub Quiet : {X : Type 0} → K → K → Result X Fault → Type 0
  Quiet old new r = IsQuiet tables failures is_clean is_open may_leave ⊥ old new r

  abbrev pub Atomic : {X : Type 0} → ChangeView → K → K → Result X Fault → Type 0
  Atomic change old new r = IsAtomic tables failures is_clean is_open may_leave ⊥ change old new r

  -- it isn't open, and everything is refused so
  pub quiet_refused : {X Y : Type 0} (old new : K) (e : Fault) → Quiet {X = X} old new (Err e) → Quiet {X = Y} old new (Err e)
  quiet_refused old new e q = record {
    clean = q.clean;
    opens = q.opens;
    lasts = λ u o. tt;
    answered = λ u. tt;
    same = q.same;
    counts = q.counts;
    sure = λ none. absurd none;
    crash = q.crash;
    settled = q.settled;
  }

  pub atomic_refused : {X Y : Type 0} (change : ChangeView) (old new : K) (e : Fault) → Quiet {X = X} old new (Err e) → Atomic {X = Y} change old new (Err e)
  atomic_refused change old new e q = record {
    clean = q.clean;
    opens = q.opens;
    lasts = λ u o. tt;
    answered = λ u. tt;
    applied = λ u o. tt;
    refused = q.same;
    counts = q.counts;
    sure = λ none. absurd none;
    crash = λ u t left. inl (q.crash u t left);
    settled = q.settled;
  }

  module _ (old mid new : K) where
    -- it is, and answers as an open keeper does
    pub quiet_then : {X Y : Type 0} (x : X) (r : Result Y Fault) → Quiet old mid (Ok x) → Quiet mid new r → Quiet old new r
    quiet_then x r first next = record {
      clean = λ u. first.clean (next.clean u);
      opens = λ u o. first.opens (next.clean u) (next.opens u o);
      lasts = λ u o. next.lasts u (first.lasts (next.clean u) o);
      answered = λ u. on_ok r (first.opens (next.clean u)) (next.answered u);
      same = λ u o. next.same u o ∙ first.same (next.clean u) (next.opens u o);
      counts = next.counts ∙ ap (failures_after r) first.counts;
      sure = λ none. absurd none;
      crash = λ u t left. first.crash (next.clean u) t (next.crash u t left);
      settled = λ u o before. next.settled u o (first.settled (next.clean u) (next.opens u o) before);
    }

    left_of : (change : ChangeView) (t : Tables) → is_clean mid → (is_open mid → is_open old) → (is_open mid → tables mid ≡ tables old) → (may_leave mid t → may_leave old t)
        → may_leave mid t ⊎ (is_open mid × (t ≡ changed change (tables mid))) → may_leave old t ⊎ (is_open old × (t ≡ changed change (tables old)))
    left_of change t clean opens same crash (inl before) = inl (crash before)
    left_of change t clean opens same crash (inr (o, is)) = inr (opens o, is ∙ ap (changed change) (same o))

    pub atomic_then : {X Y : Type 0} (change : ChangeView) (x : X) (r : Result Y Fault) → Quiet old mid (Ok x) → Atomic change mid new r → Atomic change old new r
    atomic_then change x r first next = record {
      clean = λ u. first.clean (next.clean u);
      opens = λ u o. first.opens (next.clean u) (next.opens u o);
      lasts = λ u o. next.lasts u (first.lasts (next.clean u) o);
      answered = λ u. on_ok r (first.opens (next.clean u)) (next.answered u);
      applied = λ u o. on_ok r (λ is. is ∙ ap (changed change) (first.same (next.clean u) (next.opens u o))) (next.applied u o);
      refused = λ u o. on_err r (λ is. is ∙ first.same (next.clean u) (next.opens u o)) (next.refused u o);
      counts = next.counts ∙ ap (failures_after r) first.counts;
      sure = λ none. absurd none;
      crash = λ u t left. left_of change t (next.clean u) (first.opens (next.clean u)) (first.same (next.clean u)) (first.crash (next.clean u) t) (next.crash u t left);
      settled = λ u o before. next.settled u o (first.settled (next.clean u) (next.opens u o) before);
    }

    -- what is answered of its tables then is so of those before
    pub told_then : {X Y : Type 0} (P : Tables → Type 0) (x : X) (r : Result Y Fault) → Quiet old mid (Ok x)
        → Quiet mid new r → (is_clean new → is_open mid → P (tables mid)) → is_clean new → is_open old → P (tables old)
    told_then P x r first next told u o =
        let opened = first.lasts (next.clean u) o in
        subst P (first.same (next.clean u) opened) (told u opened)
