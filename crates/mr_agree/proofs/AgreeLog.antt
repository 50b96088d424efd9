-- The log of a replica has the writes that are not dropped: of each server its last ones.
use Rattle.std.proofs.Common.{◌≡◌, length-drop, refl, sym, ap, ◌∙◌, subst, ℕ, zero, suc, ◌+◌, ◌-◌, ◌<◌, ◌≤◌, min, Bool, true, false, not}
use Rattle.std.proofs.Common.{◌&&◌, ◌||◌, eqb, ◌++◌, length, map, take, drop, ◌⊎◌, inl, inr, arith, eqb-true, eq-eqb, length-append}
use Rattle.std.proofs.lemmas.Bool.{and_from, and_parts, true≢false, cases_eq, cond-true, cond-false, false_from_ne_true, not-true, or_left, or_right}
use Rattle.std.proofs.lemmas.List.{length-map, length-take-le}
use Rattle.std.proofs.lemmas.List.Elements.{filter-append}
use Rattle.std.specs.Prelude.{flat_map}
use Rattle.std.specs.List.{list_all, sum_by, filter}
use Rattle.mr_model.specs.Dropped.{Has}
use Rattle.mr_model.specs.Texts.{within, numbers_on}
use Rattle.mr_model.specs.Writes.{Id, Write, id_of}
use Rattle.mr_model.specs.Replica.{Replica, IsReplica, count_of, committed_count, commits_of, writes_of, is_among, is_committed, is_dropped}
use Rattle.mr_model.specs.Tables.{VectorRow, ErrorRow, CancelRow, LogRow, PlaceRow, Booked, Erred, Cancelled, Cancel, Tables, by_id, seq_of, kept, log_row, place_row, tables_of}
use Rattle.mr_model.specs.Queries.{booking_id, error_id, cancelled_id, cancel_id, log_id, row_id, IsRowIn}
use Rattle.mr_agree.specs.Agreeing.{is_first, same_mark, row_ids, are_distinct, log_ids, is_last, next_id, is_in_log, does_log_agree, is_log_whole}
use Rattle.mr_model.proofs.Members.{has_left, has_right, has_map, map_has, has_all, filter_has, has_among, not_among}
use Rattle.mr_model.proofs.KnownById.{known_at, known_bounds, numbered_commits, numbered_writes}
use Rattle.mr_model.proofs.CommitsKeep.{among-has, has_within, has_not, filter-take, take-numbers_on, length-numbers_on, filter_above}
use Rattle.mr_model.proofs.DroppedApart.{not_committed_kept}
use Rattle.mr_model.proofs.RowsOfKnown.{rows_of_known}
use Rattle.mr_model.proofs.RowsTell.{one_row, row_is_in}
use Rattle.mr_model.proofs.KeyOrder.{tables_in_order}
use Rattle.mr_model.proofs.TruncateRows.{front-seq}
use Rattle.mr_model.proofs.Orders.{taken_has}
use Rattle.mr_agree.proofs.AgreeCounts.{total_count, all_counted, commit_server, all_true, all_three, all_four, same_mark_from}
use Rattle.mr_agree.proofs.AgreeCounts.{vector-at, known_first, row_id_known, rise_distinct, distinct_test, of_error, of_cancel}
use Rattle.mr_agree.proofs.AgreeMarks.{row_tells}
use Rattle.mr_model.proofs.Lists.{map-take}

-- ---- ids of rows and of the log

-- a known write has a row
pub known_row_id : (r : Replica) (w : Write) → IsReplica r → Has w r.known → Has (id_of w) (row_ids (tables_of r))
known_row_id r w h a = subst (λ i. Has i (row_ids (tables_of r))) (one_row r w h a).1 (go (tables_of r) (place_row r w) (row_is_in r (place_row r w) h w a refl))
  where
    go : (t : Tables) (p : PlaceRow) → IsRowIn t p → Has (row_id p) (row_ids t)
    go t (Booked row) g =
        has_left (booking_id row) (map booking_id t.booking) (map error_id t.errorlog ++ (map cancelled_id t.cancelled ++ map cancel_id t.cancels)) (has_map booking_id row t.booking g)
    go t (Erred row) g = has_right (error_id row) (map booking_id t.booking) (map error_id t.errorlog ++ (map cancelled_id t.cancelled ++ map cancel_id t.cancels))
        (has_left (error_id row) (map error_id t.errorlog) (map cancelled_id t.cancelled ++ map cancel_id t.cancels) (has_map error_id row t.errorlog g))
    go t (Cancelled row) g =
        has_right (cancelled_id row) (map booking_id t.booking) (map error_id t.errorlog ++ (map cancelled_id t.cancelled ++ map cancel_id t.cancels))
        (has_right (cancelled_id row) (map error_id t.errorlog) (map cancelled_id t.cancelled ++ map cancel_id t.cancels)
        (has_left (cancelled_id row) (map cancelled_id t.cancelled) (map cancel_id t.cancels) (has_map cancelled_id row t.cancelled g)))
    go t (Cancel row) g =
        has_right (cancel_id row) (map booking_id t.booking) (map error_id t.errorlog ++ (map cancelled_id t.cancelled ++ map cancel_id t.cancels))
        (has_right (cancel_id row) (map error_id t.errorlog) (map cancelled_id t.cancelled ++ map cancel_id t.cancels)
        (has_right (cancel_id row) (map cancelled_id t.cancelled) (map cancel_id t.cancels) (has_map cancel_id row t.cancels g)))

-- a known write is in the log just where it is not dropped
pub in-log : (r : Replica) (w : Write) → IsReplica r → Has w r.known → is_in_log (tables_of r) (id_of w) ≡ not (is_dropped r (id_of w))
in-log r w h a = go (is_dropped r (id_of w)) refl
  where
    go : (b : Bool) → is_dropped r (id_of w) ≡ b → is_in_log (tables_of r) (id_of w) ≡ not (is_dropped r (id_of w))
    go false d = has_among (id_of w) (log_ids (tables_of r)) (has_map log_id (log_row r w) (tables_of r).log (((rows_of_known r h).log (log_row r w)).1 (w, a, d, refl))) ∙ sym (ap not d)
    go true d =
        not_among (id_of w) (log_ids (tables_of r))
        (λ g. let (row, b, e) = map_has log_id (id_of w) (tables_of r).log g in
        let (v, k, f, s) = ((rows_of_known r h).log row).0 b in
        let same : id_of v ≡ id_of w = sym (ap log_id s) ∙ sym e in
        true≢false (sym d ∙ ap (is_dropped r) (sym same) ∙ f))
        ∙ sym (ap not d)

pub log_id_known : (r : Replica) (id : Id) → IsReplica r → Has id (log_ids (tables_of r)) → (w : Write) × Has w r.known × (is_dropped r (id_of w) ≡ false) × (id_of w ≡ id)
log_id_known r id h g =
    let (row, b, e) = map_has log_id id (tables_of r).log g in
    let (w, k, d, s) = ((rows_of_known r h).log row).0 b in
    (w, k, d, sym (ap log_id s) ∙ sym e)

-- ---- the dropped writes of a server are its first

-- the first commits have of each server its first writes
pub commit_front : (r : Replica) (d s : ℕ) → IsReplica r → (m : ℕ) × (map (λ (i : Id). i.n) (commits_of s (take d r.commits)) ≡ numbers_on 1 m) × (m ≤ committed_count r s)
commit_front r d s h =
    let (j, e) = filter-take (λ (i : Id). eqb i.server s) d r.commits in (
      min j (committed_count r s),
      ap (map (λ (i : Id). i.n)) e ∙ map-take (λ (i : Id). i.n) j (commits_of s r.commits) ∙ ap (take j) (numbered_commits r s h) ∙ take-numbers_on j 1 (committed_count r s),
      omega arith,
    )

pub front-has : (r : Replica) (d s i m : ℕ) → map (λ (x : Id). x.n) (commits_of s (take d r.commits)) ≡ numbers_on 1 m
    → is_among (record { server = s; n = i }) (take d r.commits) ≡ Rattle.mr_model.proofs.CommitsKeep.has i (numbers_on 1 m)
front-has r d s i m e = among-has (record { server = s; n = i }) (take d r.commits) ∙ ap (Rattle.mr_model.proofs.CommitsKeep.has i) e

-- so of two writes of a server the earlier is among them where the later is
pub front_before : (r : Replica) (d s n k : ℕ) → IsReplica r → 1 ≤ n → n ≤ k
    → is_among (record { server = s; n = k }) (take d r.commits) ≡ true → is_among (record { server = s; n = n }) (take d r.commits) ≡ true
front_before r d s n k h low l x =
    let (m, e, few) = commit_front r d s h in
    front-has r d s n m e ∙ has_within n 1 m low (top m (Rattle.std.proofs.lemmas.Bool.cases_lt m k) (sym (front-has r d s k m e) ∙ x))
  where
    top : (m : ℕ) → (m < k) ⊎ (k ≤ m) → Rattle.mr_model.proofs.CommitsKeep.has k (numbers_on 1 m) ≡ true → n < 1 + m
    top m (inl b) t = absurd (true≢false (sym t ∙ has_not k 1 m (omega (arith, b))))
    top m (inr b) t = omega (arith, b, l)

pub dropped_before : (r : Replica) (s n k : ℕ) → IsReplica r → 1 ≤ n → n ≤ k → is_dropped r (record { server = s; n = k }) ≡ true → is_dropped r (record { server = s; n = n }) ≡ true
dropped_before r s n k h low l d = front_before r r.dropped s n k h low l d

pub dropped-number : (r : Replica) (w : Write) → is_dropped r (id_of w) ≡ within 1 r.dropped (seq_of r w)
dropped-number r w = front-seq r.dropped r.commits (id_of w)

pub log_agrees : (r : Replica) → IsReplica r → does_log_agree (tables_of r) ≡ true
log_agrees r h =
    all_three (are_distinct (log_ids t) && list_all among (log_ids t) && list_all tentative_in (row_ids t) && list_all next_in (log_ids t) && list_all erred t.errorlog)
    (list_all cancels t.cancels) (list_all logged t.log)
    (and_from (are_distinct (log_ids t) && list_all among (log_ids t) && list_all tentative_in (row_ids t) && list_all next_in (log_ids t)) (list_all erred t.errorlog)
    (all_four (are_distinct (log_ids t)) (list_all among (log_ids t)) (list_all tentative_in (row_ids t)) (list_all next_in (log_ids t))
    (distinct_test (log_ids t) (rise_distinct (log_ids t) (tables_in_order r h).log))
    (all_true among (log_ids t) (λ id g. let (w, k, d, e) = log_id_known r id h g in has_among id (row_ids t) (subst (λ i. Has i (row_ids t)) e (known_row_id r w h k))))
    (all_true tentative_in (row_ids t) (λ id g. let k = row_id_known r id h g in subst (λ i. tentative_in i ≡ true) k.is_id (tentative_there k.write k.known (is_committed r (id_of k.write)) refl)))
    (all_true next_in (log_ids t) (λ id g. let (w, k, d, e) = log_id_known r id h g in subst (λ i. next_in i ≡ true) e (next_there w k d (eqb w.stamp.n (count_of r w.stamp.server)) refl))))
    (all_true erred t.errorlog (λ row g. let (w, k, made, id) = of_error r row h g in kept_number w (error_id row) row.seq k id (row_tells r w (Erred row) made).0)))
    (all_true cancels t.cancels (λ row g. let (w, k, made, id) = of_cancel r row h g in kept_number w (cancel_id row) row.seq k id (row_tells r w (Cancel row) made).0))
    (all_true logged t.log (λ row g. let (w, k, d, e) = ((rows_of_known r h).log row).0 g in ap not (ap (λ (x : LogRow). within 1 r.dropped x.seq) e ∙ sym (dropped-number r w) ∙ d)))
  where
    t : Tables
    t = tables_of r

    among : Id → Bool
    among id = is_among id (row_ids t)

    tentative_in : Id → Bool
    tentative_in id = is_first t id || is_in_log t id

    next_in : Id → Bool
    next_in id = is_last t id || is_in_log t (next_id id)

    erred : ErrorRow → Bool
    erred row = same_mark (is_in_log t (error_id row)) (not (within 1 t.meta.dropped row.seq))

    cancels : CancelRow → Bool
    cancels row = same_mark (is_in_log t (cancel_id row)) (not (within 1 t.meta.dropped row.seq))

    logged : LogRow → Bool
    logged row = not (within 1 t.meta.dropped row.seq)

    tentative_there : (w : Write) → Has w r.known → (b : Bool) → is_committed r (id_of w) ≡ b → tentative_in (id_of w) ≡ true
    tentative_there w k true e = or_left (is_first t (id_of w)) (is_in_log t (id_of w)) (known_first r w h k ∙ e)
    tentative_there w k false e = or_right (is_first t (id_of w)) (is_in_log t (id_of w)) (in-log r w h k ∙ ap not (not_committed_kept r (id_of w) e))

    last-is : (w : Write) → is_last t (id_of w) ≡ eqb w.stamp.n (count_of r w.stamp.server)
    last-is w = ap (λ (v : VectorRow). eqb w.stamp.n v.count) (vector-at r w.stamp.server h)

    next_there : (w : Write) → Has w r.known → is_dropped r (id_of w) ≡ false → (b : Bool) → eqb w.stamp.n (count_of r w.stamp.server) ≡ b → next_in (id_of w) ≡ true
    next_there w k d true e = or_left (is_last t (id_of w)) (is_in_log t (next_id (id_of w))) (last-is w ∙ e)
    next_there w k d false e =
        let b = known_bounds r w h k in
        let low : 1 ≤ w.stamp.n = b.0 in
        let high : w.stamp.n ≤ count_of r w.stamp.server = b.1 in
        let (v, j, s) = known_at r (next_id (id_of w)) h (omega arith) (more (cases_eq w.stamp.n (count_of r w.stamp.server)) high) in
        let stays : is_dropped r (next_id (id_of w)) ≡ false =
        false_from_ne_true (is_dropped r (next_id (id_of w))) (λ x. true≢false (sym (dropped_before r w.stamp.server w.stamp.n (w.stamp.n + 1) h low (omega arith) x) ∙ d)) in
        or_right (is_last t (id_of w)) (is_in_log t (next_id (id_of w))) (ap (is_in_log t) (sym s) ∙ in-log r v h j ∙ ap not (ap (is_dropped r) s ∙ stays))
      where
        more : (w.stamp.n ≡ count_of r w.stamp.server) ⊎ (w.stamp.n ≡ count_of r w.stamp.server → ⊥) → w.stamp.n ≤ count_of r w.stamp.server → w.stamp.n + 1 ≤ count_of r w.stamp.server
        more (inl x) l = absurd (true≢false (sym (eq-eqb w.stamp.n (count_of r w.stamp.server) x) ∙ e))
        more (inr x) l = omega (arith, x, l)

    kept_number : (w : Write) (id : Id) (seq : ℕ) → Has w r.known → id_of w ≡ id → seq ≡ seq_of r w → same_mark (is_in_log t id) (not (within 1 r.dropped seq)) ≡ true
    kept_number w id seq k e s =
        same_mark_from (is_in_log t id) (not (within 1 r.dropped seq))
        (ap (is_in_log t) (sym e) ∙ in-log r w h k ∙ ap not (dropped-number r w ∙ ap (within 1 r.dropped) (sym s)))

-- ---- as many as are not dropped

-- of each server's writes all but those dropped are left
left_of : (r : Replica) (s : ℕ) → IsReplica r
    → length (filter (λ w. not (is_dropped r (id_of w))) (writes_of s r.known)) + length (commits_of s (take r.dropped r.commits)) ≡ length (writes_of s r.known)
left_of r s h =
    let (m, e, few) = commit_front r r.dropped s h in
    let known : committed_count r s ≤ count_of r s = h.commits_known s in
    let front : length (commits_of s (take r.dropped r.commits)) ≡ m = sym (length-map (commits_of s (take r.dropped r.commits)) (λ (i : Id). i.n)) ∙ ap length e ∙ length-numbers_on 1 m in
    let left : filter (λ w. not (is_dropped r (id_of w))) (writes_of s r.known) ≡ drop (m - 0) (writes_of s r.known) =
    filter_above (λ w. not (is_dropped r (id_of w))) m 0 (writes_of s r.known) (numbered_writes r s h) (has_all _ (writes_of s r.known) (λ w g. each m e w g)) in
    let long : length (drop (m - 0) (writes_of s r.known)) ≡ length (writes_of s r.known) - (m - 0) = length-drop (m - 0) (writes_of s r.known) in
    let same = ap length left in
    let all : committed_count r s ≤ length (writes_of s r.known) = known in
    omega (arith, front, same, long, all, few)
  where
    each : (m : ℕ) → map (λ (i : Id). i.n) (commits_of s (take r.dropped r.commits)) ≡ numbers_on 1 m → (w : Write) → Has w (writes_of s r.known)
        → (w.stamp.n ≤ m → not (is_dropped r (id_of w)) ≡ false) × (m < w.stamp.n → not (is_dropped r (id_of w)) ≡ true)
    each m e w g =
        let f = filter_has (λ v. eqb v.stamp.server s) w r.known g in
        let own : w.stamp.server ≡ s = eqb-true w.stamp.server s f.1 in
        let low : 1 ≤ w.stamp.n = (known_bounds r w h f.0).0 in
        let test : is_dropped r (id_of w) ≡ Rattle.mr_model.proofs.CommitsKeep.has w.stamp.n (numbers_on 1 m) =
        ap (λ x. is_dropped r (record { server = x; n = w.stamp.n })) own ∙ front-has r r.dropped s w.stamp.n m e in
        ((λ l. ap not (test ∙ has_within w.stamp.n 1 m low (omega (arith, l)))), (λ l. ap not (test ∙ has_not w.stamp.n 1 m (omega (arith, l)))))

left_in : (r : Replica) (k n : ℕ) → IsReplica r → length (filter (λ w. not (is_dropped r (id_of w))) (flat_map (λ s. writes_of s r.known) (numbers_on k n)))
    + length (flat_map (λ s. commits_of s (take r.dropped r.commits)) (numbers_on k n)) ≡ length (flat_map (λ s. writes_of s r.known) (numbers_on k n))
left_in r k zero h = refl
left_in r k (suc n) h =
    let here = left_of r k h in
    let rest = left_in r (k + 1) n h in
    let a = ap length (filter-append (λ (w : Write). not (is_dropped r (id_of w))) (writes_of k r.known) (flat_map (λ s. writes_of s r.known) (numbers_on (k + 1) n))) in
    let b = length-append (filter (λ (w : Write). not (is_dropped r (id_of w))) (writes_of k r.known))
    (filter (λ (w : Write). not (is_dropped r (id_of w))) (flat_map (λ s. writes_of s r.known) (numbers_on (k + 1) n))) in
    let c = length-append (commits_of k (take r.dropped r.commits)) (flat_map (λ s. commits_of s (take r.dropped r.commits)) (numbers_on (k + 1) n)) in
    let d = length-append (writes_of k r.known) (flat_map (λ s. writes_of s r.known) (numbers_on (k + 1) n)) in
    omega (arith, here, rest, a, b, c, d)

pub log_whole : (r : Replica) → IsReplica r → is_log_whole (tables_of r) ≡ true
log_whole r h =
    let all = left_in r 1 99 h in
    let front : length (flat_map (λ s. commits_of s (take r.dropped r.commits)) (numbers_on 1 99)) ≡ length (take r.dropped r.commits) =
    all_counted (take r.dropped r.commits) 1 99 (λ x g. commit_server r x h (taken_has r.dropped x r.commits g)) in
    let few : length (take r.dropped r.commits) ≡ r.dropped = length-take-le r.dropped r.commits h.dropped_committed in
    let rows : length (tables_of r).log ≡ length (kept r) = length-map (kept r) (log_row r) in
    let total = total_count r in
    eq-eqb (length (tables_of r).log + r.dropped) (sum_by (λ (row : VectorRow). row.count) (tables_of r).vector)
    (go (length (kept r)) (length (flat_map (λ s. commits_of s (take r.dropped r.commits)) (numbers_on 1 99))) (length (by_id r.known)) all (front ∙ few) rows total)
  where
    go : (a b c : ℕ) → a + b ≡ c → b ≡ r.dropped → length (tables_of r).log ≡ a → sum_by (λ (row : VectorRow). row.count) (tables_of r).vector ≡ c
        → length (tables_of r).log + r.dropped ≡ sum_by (λ (row : VectorRow). row.count) (tables_of r).vector
    go a b c p q u v = (λ i. u i + sym q i) ∙ p ∙ sym v

-- no row has the id of a write that is not known, as the next of a server
pub next_is_free : (r : Replica) (id : Id) → IsReplica r → count_of r id.server < id.n → (Has id (row_ids (tables_of r)) → ⊥) × (Has id (log_ids (tables_of r)) → ⊥)
next_is_free r id h l = ((λ g. let k = row_id_known r id h g in beyond k.write k.known k.is_id), (λ g. let (w, k, d, e) = log_id_known r id h g in beyond w k e))
  where
    beyond : (w : Write) → Has w r.known → id_of w ≡ id → ⊥
    beyond w k e =
        let top : w.stamp.n ≤ count_of r w.stamp.server = (known_bounds r w h k).1 in
        let s : w.stamp.server ≡ id.server = ap (λ (i : Id). i.server) e in
        let n : w.stamp.n ≡ id.n = ap (λ (i : Id). i.n) e in
        let same : count_of r w.stamp.server ≡ count_of r id.server = ap (count_of r) s in
        omega (arith, top, n, same, l)
