-- How the calls follow on one another of a keeper that has its rows in memory, and what these rows answer.
use Rattle.std.specs.Prelude.{OnOk, OnErr}
use Rattle.std.specs.Result.{is_err}
use Rattle.std.proofs.lemmas.Bool.{true≢false}
use Rattle.std.proofs.Common.{◌≡◌, ℕ, sym, ap, subst, ◌∙◌, false, Option, Some, None, Result, Ok, Err}
use Rattle.mr_model.specs.Tables.{Tables, Stands}
use Rattle.mr_tables.specs.Change.{ChangeView, changed}
use Rattle.mr_store.specs.declared.keeper.Fault.{Fault}
use Rattle.mr_store.specs.declared.keeper.Keeper.{Ghosts}
use Rattle.mr_store.specs.Cached.{IsMemoryAfter, IsMemoryOf, IsOpenWith, IsRecall, NeverFails}
use Rattle.mr_store.specs.KeeperCalls.{failures_after, IsAtomic, IsQuiet}

-- a call that leaves the tables, as it is said of the keeper below
abbrev pub Quiet : {K X : Type 0} → Ghosts K → K → K → Result X Fault → Type 0
Quiet k old new r = IsQuiet k.tables k.failures k.is_clean k.is_open k.may_leave k.never_fails old new r

-- as it is said of the one with its rows in memory
abbrev pub QuietAbove : {K X : Type 0} → Ghosts K → K → K → Result X Fault → Type 0
QuietAbove k old new r = IsQuiet k.tables k.failures k.is_clean k.is_open k.may_leave (NeverFails k) old new r

-- what leaves the tables below is such a call
below : {K X : Type 0} (k : Ghosts K) (old new : K) (r : Result X Fault) → Quiet k old new r → IsRecall k old new r
below k old new r q = record {
  clean = q.clean;
  opens = q.opens;
  lasts = q.lasts;
  same = q.same;
  counts = q.counts;
  sure = λ never. q.sure never.0;
  crash = q.crash;
  settled = q.settled;
}

-- a call that failed may be part of another, which fails so
pub recall_refused : {K X Y : Type 0} (k : Ghosts K) (old new : K) (e : Fault) → IsRecall {X = X} k old new (Err e) → IsRecall {X = Y} k old new (Err e)
recall_refused k old new e q = record {
  clean = q.clean;
  opens = q.opens;
  lasts = λ u o. tt;
  same = q.same;
  counts = q.counts;
  sure = q.sure;
  crash = q.crash;
  settled = q.settled;
}

pub recall_failed : {K X Y : Type 0} (k : Ghosts K) (old new : K) (e : Fault) → Quiet {X = X} k old new (Err e) → IsRecall {X = Y} k old new (Err e)
recall_failed {X = X} {Y = Y} k old new e q = recall_refused {X = X} {Y = Y} k old new e (below {X = X} k old new (Err e) q)

-- one call follows on another that answered
pub both : {K X Y : Type 0} (k : Ghosts K) (old mid new : K) (x : X) (r : Result Y Fault) → IsRecall k old mid (Ok x) → IsRecall k mid new r → IsRecall k old new r
both k old mid new x r first next =
    record {
      clean = λ u. first.clean (next.clean u);
      opens = λ u o. first.opens (next.clean u) (next.opens u o);
      lasts = λ u o. next.lasts u (first.lasts (next.clean u) o);
      same = λ u o. next.same u o ∙ first.same (next.clean u) (next.opens u o);
      counts = next.counts ∙ ap (failures_after r) first.counts;
      sure = λ never a h. let fine = never.1 mid in next.sure never a (subst (λ t. Stands t a) (sym (first.same fine.0 fine.1)) h) ∙ first.counts;
      crash = λ u t left. first.crash (next.clean u) t (next.crash u t left);
      settled = λ u o before. next.settled u o (first.settled (next.clean u) (next.opens u o) before);
    }

on_ok : {X : Type 0} (r : Result X Fault) {P Q : Type 0} → (P → Q) → OnOk r P → OnOk r Q
on_ok (Ok x) way p = way p
on_ok (Err e) way p = tt

-- the rows in memory were asked for, and then the keeper itself is asked
pub followed : {K X Y : Type 0} (k : Ghosts K) (old mid at new : K) (x : X) (r : Result Y Fault) → IsRecall k old mid (Ok x) → at ≡ mid → Quiet k at new r → QuietAbove k old new r
followed k old mid at new x r first is next =
    let last = subst (λ m. Quiet k m new r) is next in
    let whole = both k old mid new x r first (below k mid new r last) in
    record {
      clean = whole.clean;
      opens = whole.opens;
      lasts = whole.lasts;
      answered = λ u. on_ok r (first.opens (last.clean u)) (last.answered u);
      same = whole.same;
      counts = whole.counts;
      sure = whole.sure;
      crash = whole.crash;
      settled = whole.settled;
    }

so : {X : Type 0} (r : Result X Fault) {P : Type 0} → P → OnOk r P
so (Ok x) p = p
so (Err e) p = tt

-- the rows in memory were asked for, and they answer: no failure is counted
pub by_memory : {K Y : Type 0} (k : Ghosts K) (old mid at : K) (memory : Option Tables) (t : Tables) (r : Result Y Fault)
    → IsRecall k old mid (Ok memory) → at ≡ mid → memory ≡ Some t → IsOpenWith k mid memory
    → ((n : ℕ) → failures_after r n ≡ n) → QuietAbove k old at r
by_memory k old mid at memory t r first is some held counted =
    let opened = subst (λ m. IsOpenWith k mid m) some held in
    subst (λ m. QuietAbove k old m r) (sym is) (record {
      clean = first.clean;
      opens = first.opens;
      lasts = λ u o. so r (first.lasts u o);
      answered = λ u. so r (first.opens u (opened u));
      same = first.same;
      counts = first.counts ∙ sym (counted (k.failures old));
      sure = first.sure;
      crash = first.crash;
      settled = first.settled;
    })

-- what the keeper itself answers then holds of its tables before both
pub of_keeper : {K X Y : Type 0} (k : Ghosts K) (P : Tables → Type 0) (old mid at new : K) (x : X) (r : Result Y Fault) → IsRecall k old mid (Ok x)
    → at ≡ mid → Quiet k at new r → (k.is_clean new → k.is_open at → P (k.tables at)) → k.is_clean new → k.is_open old → P (k.tables old)
of_keeper k P old mid at new x r first is next told u o =
    let clean = subst (λ m. Quiet k m new r) is next in
    let opened = first.lasts (clean.clean u) o in
    subst P (first.same (clean.clean u) opened) (subst (λ m. k.is_clean new → k.is_open m → P (k.tables m)) is told u opened)

-- what holds of the rows in memory holds of the tables
pub of_memory : {K : Type 0} (k : Ghosts K) (P : Tables → Type 0) (old mid at : K) (memory : Option Tables) (t : Tables)
    → IsRecall k old mid (Ok memory) → at ≡ mid → IsMemoryOf k mid memory → memory ≡ Some t → P t → k.is_clean at → k.is_open old → P (k.tables old)
of_memory k P old mid at memory t first is has some p u o =
    let clean = subst (λ m. k.is_clean m) is u in
    let opened = first.lasts clean o in
    subst P (subst (λ m. IsMemoryOf k mid m) some has clean opened ∙ first.same clean opened) p

-- as it is said of the keeper below, and of the one with its rows in memory
abbrev pub Atomic : {K X : Type 0} → Ghosts K → ChangeView → K → K → Result X Fault → Type 0
Atomic k change old new r = IsAtomic k.tables k.failures k.is_clean k.is_open k.may_leave k.never_fails change old new r

abbrev pub AtomicAbove : {K X : Type 0} → Ghosts K → ChangeView → K → K → Result X Fault → Type 0
AtomicAbove k change old new r = IsAtomic k.tables k.failures k.is_clean k.is_open k.may_leave (NeverFails k) change old new r

-- a change of the keeper below is one of the keeper with its rows in memory
pub changed_above : {K X : Type 0} (k : Ghosts K) (change : ChangeView) (old at new : K) (r : Result X Fault) → at ≡ old → Atomic k change at new r → AtomicAbove k change old new r
changed_above k change old at new r is q =
    subst (λ o. AtomicAbove k change o new r) is (record {
      clean = q.clean;
      opens = q.opens;
      lasts = q.lasts;
      answered = q.answered;
      applied = q.applied;
      refused = q.refused;
      counts = q.counts;
      sure = λ never. q.sure never.0;
      crash = q.crash;
      settled = q.settled;
    })

changed_rows : {K X : Type 0} (k : Ghosts K) (change : ChangeView) (old new : K) (x : X) (before after : Option Tables)
    → Atomic k change old new (Ok x) → IsMemoryOf k old before → IsMemoryAfter change before after → IsMemoryOf k new after
changed_rows k change old new x before None q was is = tt
changed_rows k change old new x None (Some t) q was is = absurd is
changed_rows k change old new x (Some s) (Some t) q was is = λ u o. is ∙ ap (changed change) (was (q.clean u) (q.opens u o)) ∙ sym (q.applied u o)

kept_rows : {K X : Type 0} (k : Ghosts K) (change : ChangeView) (old new : K) (e : Fault) (rows : Option Tables)
    → Atomic {X = X} k change old new (Err e) → IsMemoryOf k old rows → IsMemoryOf k new rows
kept_rows k change old new e None q was = tt
kept_rows k change old new e (Some t) q was = λ u o. was (q.clean u) (q.opens u o) ∙ sym (q.refused u o)

-- the rows in memory are still those of the keeper, once both are changed, or neither is
pub changed_both : {K X : Type 0} (k : Ghosts K) (change : ChangeView) (old new : K) (r : Result X Fault) (before after : Option Tables)
    → Atomic k change old new r → IsMemoryOf k old before → OnOk r (IsMemoryAfter change before after) → OnErr r (after ≡ before) → IsMemoryOf k new after
changed_both k change old new (Ok x) before after q was made kept = changed_rows k change old new x before after q was made
changed_both k change old new (Err e) before after q was made kept = subst (λ m. IsMemoryOf k new m) (sym kept) (kept_rows k change old new e before q was)

-- and the keeper is open with them, if it has made the change
pub changed_open : {K X : Type 0} (k : Ghosts K) (change : ChangeView) (old new : K) (r : Result X Fault) (rows : Option Tables) → Atomic k change old new r → is_err r ≡ false → IsOpenWith k new rows
changed_open k change old new r None q made = tt
changed_open k change old new (Ok x) (Some t) q made = λ u. q.lasts u (q.answered u)
changed_open k change old new (Err e) (Some t) q made = absurd (true≢false made)
