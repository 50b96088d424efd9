-- The commit numbers of a replica's writes, by their places in the order of execution.
use Rattle.std.proofs.Common.{◌≡◌, sym, ap, ◌∙◌, subst, ℕ, zero, suc, ◌+◌, ◌-◌, ◌<◌, ◌≤◌, leb, List, [], ◌∷◌, ◌++◌}
use Rattle.std.proofs.Common.{length, map, take, ◌⊎◌, inl, inr, Some, arith, le-leb, leb-true, length-append, refl}
use Rattle.std.proofs.lemmas.Bool.{true≢false, cond-true, cond-false, false_from_ne_true, cases_order}
use Rattle.std.proofs.lemmas.List.{length-map, length-take-le, map-append, length-take}
use Rattle.std.specs.List.{slice_get}
use Rattle.mr_model.specs.Writes.{Id, Write, id_of}
use Rattle.mr_model.specs.Replica.{Replica, IsReplica, committed, tentative, order_of}
use Rattle.mr_model.specs.Kept.{dropped_in_order, kept_in_order, kept_committed}
use Rattle.mr_model.specs.Tables.{seq_of}
use Rattle.mr_model.specs.Dropped.{Has}
use Rattle.mr_model.proofs.CommitRows.{slice_map, slice_behind}
use Rattle.mr_model.proofs.DroppedApart.{committed-parts, order-parts}
use Rattle.mr_model.proofs.KnownById.{commit_found, found_ids, committed_ids, distinct_commits, tentative_known, distinct_order}
use Rattle.mr_model.proofs.Members.{Distinct, has_among, slice_has}
use Rattle.mr_model.proofs.Orders.{taken_has}
use Rattle.mr_model.proofs.RowsById.{seq_at, seq_not}
use Rattle.mr_replay.specs.Holds.{AreDistinct, HaveDistinctIds}
use Rattle.mr_tables.specs.ExecutionRows.{seq_on}
use Rattle.mr_model.specs.Changes.{after_commit}
use Rattle.mr_model.proofs.CommitsKeep.{keeps-commit}
use Rattle.mr_tables.proofs.CountLimits.{few_commits}

pub le_or_lt : (a b : ℕ) → (a ≤ b) ⊎ (b < a)
le_or_lt a b = go (cases_order a b)
  where
    go : (a ≡ b) ⊎ ((a < b) ⊎ (b < a)) → (a ≤ b) ⊎ (b < a)
    go (inl e) = inl (omega (arith, e))
    go (inr (inl l)) = inl (omega (arith, l))
    go (inr (inr l)) = inr l

pub slice_left : {A : Type 0} (xs ys : List A) (i : ℕ) → i < length xs → slice_get (xs ++ ys) i ≡ slice_get xs i
slice_left [] ys i l = absurd (Rattle.std.proofs.Common.not-suc-le-zero l)
slice_left (x ∷ xs) ys zero l = refl
slice_left (x ∷ xs) ys (suc i) l = slice_left xs ys i (Rattle.std.proofs.Common.le_of_suc-le-suc l)

-- ---- numbers in the order

-- up to the last commit a place is a number
pub within_commits : (c k : ℕ) → k ≤ c → seq_on c k ≡ k
within_commits c k low = cond-true (leb k c) k 0 (le-leb k c low)

-- behind it there is none
pub behind_commits : (c k : ℕ) → c < k → seq_on c k ≡ 0
behind_commits c k high = cond-false (leb k c) k 0 (false_from_ne_true (leb k c) (λ b. let m = leb-true k c b in omega (arith, high, m)))

-- as a tentative write has none
pub no_number : (r : Replica) (k : ℕ) (w : Write) → Has w (tentative r) → length r.commits < k → seq_of r w ≡ seq_on (length r.commits) k
no_number r k w h high =
    let t = tentative_known r w h in
    seq_not 1 r.commits (id_of w) (λ a. true≢false (sym (has_among (id_of w) r.commits a) ∙ t.1)) ∙ sym (behind_commits (length r.commits) k high)

pub committed_long : (r : Replica) → IsReplica r → length (committed r) ≡ length r.commits
committed_long r h = sym (length-map (committed r) id_of) ∙ ap length (committed_ids r h)

-- the number of each write of the order is its place in it, where it is committed
pub order_numbers : (r : Replica) (i : ℕ) (w : Write) → IsReplica r → slice_get (order_of r) i ≡ Some w → seq_of r w ≡ seq_on (length r.commits) (1 + i)
order_numbers r i w h e = go (le_or_lt (suc i) (length (committed r)))
  where
    go : (suc i ≤ length (committed r)) ⊎ (length (committed r) < suc i) → seq_of r w ≡ seq_on (length r.commits) (1 + i)
    go (inl l) =
        let there : slice_get (committed r) i ≡ Some w = sym (slice_left (committed r) (tentative r) i l) ∙ e in
        let id : slice_get r.commits i ≡ Some (id_of w) = ap (λ ids. slice_get ids i) (sym (committed_ids r h)) ∙ slice_map id_of (committed r) i w there in
        let long = committed_long r h in
        seq_at 1 r.commits (id_of w) i (distinct_commits r h) id ∙ sym (within_commits (length r.commits) (1 + i) (omega (arith, l, long)))
    go (inr l) =
        let at : i ≡ length (committed r) + (i - length (committed r)) = omega (arith, l) in
        let there : slice_get (tentative r) (i - length (committed r)) ≡ Some w = sym (slice_behind (committed r) (tentative r) (i - length (committed r)))
        ∙ ap (slice_get (order_of r)) (sym at) ∙ e in
        let long = committed_long r h in
        no_number r (1 + i) w (slice_has (tentative r) (i - length (committed r)) w there) (omega (arith, l, long))

pub dropped_long : (r : Replica) → IsReplica r → length (dropped_in_order r) ≡ r.dropped
dropped_long r h =
    sym (length-map (dropped_in_order r) id_of)
    ∙ ap length (found_ids r (take r.dropped r.commits) (λ id a. commit_found r id h (taken_has r.dropped id r.commits a)))
    ∙ length-take-le r.dropped r.commits h.dropped_committed

pub kept_committed_long : (r : Replica) → IsReplica r → r.dropped + length (kept_committed r) ≡ length r.commits
kept_committed_long r h =
    let all : length (committed r) ≡ length (dropped_in_order r) + length (kept_committed r) = ap length (committed-parts r) ∙ length-append (dropped_in_order r) (kept_committed r) in
    let ids = committed_long r h in
    let long = dropped_long r h in
    omega (arith, all, ids, long)

-- a replica orders no more writes than there can be commits
pub few_kept : (a : Replica) → IsReplica a → a.dropped + length (kept_in_order a) ≤ 999_999_999_999
few_kept a sound =
    let n = length (tentative a) in
    let few : length (after_commit a n).commits ≤ 999_999_999_999 = few_commits (after_commit a n) (keeps-commit a n sound) in
    let all = length-append a.commits (map id_of (take n (tentative a))) ∙ ap (λ m. length a.commits + m) (length-map (take n (tentative a)) id_of ∙ length-take n (tentative a)) in
    let kept = length-append (kept_committed a) (tentative a) in
    let front = kept_committed_long a sound in
    omega arith

-- the kept writes stand behind the dropped ones
pub kept_numbers : (r : Replica) (i : ℕ) (w : Write) → IsReplica r → slice_get (kept_in_order r) i ≡ Some w → seq_of r w ≡ seq_on (length r.commits) (r.dropped + 1 + i)
kept_numbers r i w h e =
    let long : length (dropped_in_order r) ≡ r.dropped = dropped_long r h in
    let at : 1 + (length (dropped_in_order r) + i) ≡ r.dropped + 1 + i = omega (arith, long) in
    order_numbers r (length (dropped_in_order r) + i) w h (ap (λ ws. slice_get ws (length (dropped_in_order r) + i)) (order-parts r) ∙ slice_behind (dropped_in_order r) (kept_in_order r) i ∙ e)
    ∙ ap (seq_on (length r.commits)) at

-- ---- ids in the order

distinct_ids : (ids : List Id) → Distinct ids → AreDistinct ids
distinct_ids [] d = tt
distinct_ids (x ∷ xs) d = (d.0, distinct_ids xs d.1)

pub order_distinct : (r : Replica) → IsReplica r → HaveDistinctIds (order_of r)
order_distinct r h =
    subst AreDistinct (sym (map-append id_of (committed r) (tentative r))) (distinct_ids (map id_of (committed r) ++ map id_of (tentative r)) (distinct_order r h))
