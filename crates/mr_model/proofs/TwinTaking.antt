-- Two replicas that differ in dropped writes alone take items alike.
use Rattle.std.proofs.Common.{◌≡◌, refl, sym, ap, ◌∙◌, subst, ℕ, ◌+◌, ◌-◌, ◌<◌, ◌≤◌, Bool, true, false, not, cond, ◌&&◌, eqb, leb}
use Rattle.std.proofs.Common.{ltb, List, [], ◌∷◌, length, Result, Ok, Err, arith, IsTrue, leb-false, ltb-false, eqb-true}
use Rattle.std.proofs.lemmas.Bool.{true≢false}
use Rattle.std.specs.List.{AllByRecursion, slice_get}
use Rattle.mr_model.specs.Writes.{Id, Write, id_of, is_write}
use Rattle.mr_model.specs.Refusals.{Refusal, Forged, OwnWrite, Gap, OutOfOrder, PrimaryOnly}
use Rattle.mr_model.specs.Replica.{Replica, count_of, last_time, committed_count, is_dropped, write_with, IsReplica}
use Rattle.mr_model.specs.Exchange.{Item, W, C}
use Rattle.mr_model.specs.Taking.{Progress, is_that_write, is_that_id, with_new_write, with_new_commit, take_write, take_commit, take_items}
use Rattle.mr_model.specs.Dropped.{DifferInDropped}
use Rattle.mr_model.specs.Changes.{IsNext}
use Rattle.mr_model.proofs.TakingKeeps.{IsItem}
use Rattle.mr_model.proofs.ChangesKeep.{keeps-add_commit}
use Rattle.mr_model.proofs.RowsById.{slice_drop}
use Rattle.mr_model.proofs.TwinChanges.{next_over, twin_add_write, twin_commits}
use Rattle.mr_model.proofs.Orders.{added}

-- ---- taking items

pub record Twins (a b : Replica) : Type 0 where
  pub first : IsReplica a
  pub second : IsReplica b
  pub alike : DifferInDropped a b

pub record TwinProgress (p q : Progress) : Type 0 where
  pub replicas : Twins p.replica q.replica
  pub writes : p.writes ≡ q.writes
  pub commits : p.commits ≡ q.commits

abbrev pub TwinResult : Result Progress Refusal → Result Progress Refusal → Type 0
TwinResult (Ok p) (Ok q) = TwinProgress p q
TwinResult (Err e) (Err f) = e ≡ f
TwinResult (Ok p) (Err f) = ⊥
TwinResult (Err e) (Ok q) = ⊥

-- the cases of a write's line, by their tests
abbrev pub write_cases : ℕ → Progress → Write → Bool → Bool → Bool → Bool → Bool → Bool → Result Progress Refusal
write_cases line p w a b c d e f =
    cond (c && a) (Ok p) (cond (c && b) (Ok p) (cond c (Err (Forged line)) (cond d (Err (OwnWrite line)) (cond e (Err (Gap line)) (cond f (Err (OutOfOrder line)) (Ok (with_new_write p w)))))))

pub twin_write : (line : ℕ) (p q : Progress) (w : Write) → TwinProgress p q → IsTrue (is_write w) → TwinResult (take_write line p w) (take_write line q w)
twin_write line p q w t ok =
    subst (λ o. TwinResult (take_write line p w) o) (sym tests)
    (go (is_dropped a (id_of w)) refl (is_that_write (write_with a (id_of w)) w) (is_that_write (write_with b (id_of w)) w)
    (λ e. ap (λ o. is_that_write o w) (d.kept_writes (id_of w) e)) (leb w.stamp.n (count_of a w.stamp.server)) refl
    (eqb w.stamp.server a.server) (ltb (count_of a w.stamp.server + 1) w.stamp.n) refl (leb w.stamp.time (last_time a w.stamp.server)) refl)
  where
    a : Replica
    a = p.replica

    b : Replica
    b = q.replica

    d : DifferInDropped p.replica q.replica
    d = t.replicas.alike

    tests : take_write line q w ≡ write_cases line q w (is_dropped a (id_of w)) (is_that_write (write_with b (id_of w)) w) (leb w.stamp.n (count_of a w.stamp.server))
        (eqb w.stamp.server a.server) (ltb (count_of a w.stamp.server + 1) w.stamp.n) (leb w.stamp.time (last_time a w.stamp.server))
    tests =
        let g = sym (d.dropped_ids (id_of w)) in
        let c = sym (d.counts w.stamp.server) in
        let s = sym d.server in
        let l = sym (d.last_times w.stamp.server) in
        λ i. write_cases line q w (g i) (is_that_write (write_with b (id_of w)) w) (leb w.stamp.n (c i)) (eqb w.stamp.server (s i)) (ltb (c i + 1) w.stamp.n) (leb w.stamp.time (l i))

    next : leb w.stamp.n (count_of a w.stamp.server) ≡ false → ltb (count_of a w.stamp.server + 1) w.stamp.n ≡ false → leb w.stamp.time (last_time a w.stamp.server) ≡ false → IsNext a w
    next x y z =
        record {
          is_write = ok;
          number = omega (arith, leb-false w.stamp.n (count_of a w.stamp.server) x, ltb-false (count_of a w.stamp.server + 1) w.stamp.n y);
          late = leb-false w.stamp.time (last_time a w.stamp.server) z;
        }

    new : IsNext a w → TwinProgress (with_new_write p w) (with_new_write q w)
    new n =
        record {
          replicas = record { first = added a w t.replicas.first n; second = added b w t.replicas.second (next_over a b w d n); alike = twin_add_write a b w t.replicas.first t.replicas.second d n };
          writes = ap (λ k. k + 1) t.writes;
          commits = t.commits;
        }

    go : (g : Bool) → is_dropped a (id_of w) ≡ g → (x y : Bool) → (is_dropped a (id_of w) ≡ false → x ≡ y) → (c : Bool) → leb w.stamp.n (count_of a w.stamp.server) ≡ c
        → (o e : Bool) → ltb (count_of a w.stamp.server + 1) w.stamp.n ≡ e → (f : Bool) → leb w.stamp.time (last_time a w.stamp.server) ≡ f
        → TwinResult (write_cases line p w g x c o e f) (write_cases line q w g y c o e f)
    go true eg x y xy true ec o e ee f ef = t
    go false eg true true xy true ec o e ee f ef = t
    go false eg false false xy true ec o e ee f ef = refl
    go false eg true false xy true ec o e ee f ef = absurd (true≢false (xy eg))
    go false eg false true xy true ec o e ee f ef = absurd (true≢false (sym (xy eg)))
    go g eg x y xy false ec true e ee f ef = refl
    go g eg x y xy false ec false true ee f ef = refl
    go g eg x y xy false ec false false ee true ef = refl
    go g eg x y xy false ec false false ee false ef = new (next ec ee ef)

abbrev pub commit_cases : ℕ → Progress → Id → Bool → Bool → Bool → Bool → Bool → Bool → Bool → Result Progress Refusal
commit_cases line p id a b c d e f g = cond a (Ok p) (cond (c && b) (Ok p)
    (cond c (Err (Forged line)) (cond d (Err (PrimaryOnly line)) (cond e (Err (Gap line)) (cond f (Err (Gap line)) (cond (not g) (Err (OutOfOrder line)) (Ok (with_new_commit p id))))))))

-- a commit above the dropped ones is the same
pub same_commit_at : (a b : Replica) (n : ℕ) → DifferInDropped a b → a.dropped < n → slice_get a.commits (n - 1) ≡ slice_get b.commits (n - 1)
same_commit_at a b n d l =
    let e : n - 1 ≡ a.dropped + (n - 1 - a.dropped) = omega (arith, l) in
    let f : b.dropped + (n - 1 - a.dropped) ≡ n - 1 = let s = d.dropped in omega (arith, l, s) in
    ap (slice_get a.commits) e ∙ sym (slice_drop a.dropped (n - 1 - a.dropped) a.commits)
    ∙ ap (λ is. slice_get is (n - 1 - a.dropped)) d.kept_commits ∙ slice_drop b.dropped (n - 1 - a.dropped) b.commits ∙ ap (slice_get b.commits) f

pub twin_commit : (line : ℕ) (p q : Progress) (n : ℕ) (id : Id) → TwinProgress p q → TwinResult (take_commit line p n id) (take_commit line q n id)
twin_commit line p q n id t =
    subst (λ o. TwinResult (take_commit line p n id) o) (sym tests)
    (go (leb n a.dropped) refl (is_that_id (slice_get a.commits (n - 1)) id) (is_that_id (slice_get b.commits (n - 1)) id)
    (λ e. ap (λ o. is_that_id o id) (same_commit_at a b n d (leb-false n a.dropped e))) (leb n (length a.commits)) (eqb a.server a.primary)
    (ltb (length a.commits + 1) n) (ltb (count_of a id.server) id.n) refl (eqb id.n (committed_count a id.server + 1)) refl)
  where
    a : Replica
    a = p.replica

    b : Replica
    b = q.replica

    d : DifferInDropped p.replica q.replica
    d = t.replicas.alike

    tests : take_commit line q n id ≡ commit_cases line q id (leb n a.dropped) (is_that_id (slice_get b.commits (n - 1)) id) (leb n (length a.commits))
        (eqb a.server a.primary) (ltb (length a.commits + 1) n) (ltb (count_of a id.server) id.n) (eqb id.n (committed_count a id.server + 1))
    tests =
        let g = sym d.dropped in
        let l = sym d.commits in
        let s = sym d.server in
        let m = sym d.primary in
        let c = sym (d.counts id.server) in
        let k = sym (d.committed_counts id.server) in
        λ i. commit_cases line q id (leb n (g i)) (is_that_id (slice_get b.commits (n - 1)) id) (leb n (l i)) (eqb (s i) (m i)) (ltb (l i + 1) n) (ltb (c i) id.n) (eqb id.n (k i + 1))

    new : id.n ≡ committed_count a id.server + 1 → id.n ≤ count_of a id.server → TwinProgress (with_new_commit p id) (with_new_commit q id)
    new e l =
        let first = keeps-add_commit a id t.replicas.first e l in
        let same : count_of a id.server ≡ count_of b id.server = d.counts id.server in
        let second = keeps-add_commit b id t.replicas.second (e ∙ ap (λ k. k + 1) (d.committed_counts id.server)) (omega (arith, l, same)) in
        record {
          replicas = record { first = first; second = second; alike = twin_commits a b (id ∷ []) t.replicas.first t.replicas.second first second d };
          writes = t.writes;
          commits = ap (λ k. k + 1) t.commits;
        }

    go : (g : Bool) → leb n a.dropped ≡ g → (x y : Bool) → (leb n a.dropped ≡ false → x ≡ y) → (c s e f : Bool)
        → ltb (count_of a id.server) id.n ≡ f → (k : Bool) → eqb id.n (committed_count a id.server + 1) ≡ k
        → TwinResult (commit_cases line p id g x c s e f k) (commit_cases line q id g y c s e f k)
    go true eg x y xy c s e f ef k ek = t
    go false eg true true xy true s e f ef k ek = t
    go false eg false false xy true s e f ef k ek = refl
    go false eg true false xy true s e f ef k ek = absurd (true≢false (xy eg))
    go false eg false true xy true s e f ef k ek = absurd (true≢false (sym (xy eg)))
    go false eg x y xy false true e f ef k ek = refl
    go false eg x y xy false false true f ef k ek = refl
    go false eg x y xy false false false true ef k ek = refl
    go false eg x y xy false false false false ef false ek = refl
    go false eg x y xy false false false false ef true ek = new (eqb-true id.n (committed_count a id.server + 1) ek) (ltb-false (count_of a id.server) id.n ef)

pub twin_items : (xs : List Item) (line : ℕ) (o u : Result Progress Refusal) → AllByRecursion IsItem xs → TwinResult o u → TwinResult (take_items xs line o) (take_items xs line u)
twin_items [] line (Ok p) (Ok q) all t = t
twin_items [] line (Err e) (Err f) all t = t
twin_items [] line (Ok p) (Err f) all t = absurd t
twin_items [] line (Err e) (Ok q) all t = absurd t
twin_items (W w ∷ xs) line (Ok p) (Ok q) all t = twin_items xs (line + 1) (take_write line p w) (take_write line q w) all.1 (twin_write line p q w t all.0)
twin_items (C n id ∷ xs) line (Ok p) (Ok q) all t = twin_items xs (line + 1) (take_commit line p n id) (take_commit line q n id) all.1 (twin_commit line p q n id t)
twin_items (x ∷ xs) line (Err e) (Err f) all t = t
twin_items (x ∷ xs) line (Ok p) (Err f) all t = absurd t
twin_items (x ∷ xs) line (Err e) (Ok q) all t = absurd t
