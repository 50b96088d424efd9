-- The rows that a truncation takes away.
use Rattle.std.proofs.Common.{◌≡◌, refl, sym, ap, ◌∙◌, subst, ℕ, zero, suc, ◌+◌, ◌-◌, ◌<◌, ◌≤◌, max, Bool, true, false, not, cond, leb}
use Rattle.std.proofs.Common.{List, [], ◌∷◌, take, inl, inr, Some, arith, le_refl, leb-true, le-leb, not-suc-le-zero, le_of_suc-le-suc}
use Rattle.std.proofs.lemmas.Bool.{true≢false, and_parts, and_from, false_from_ne_true, not-true}
use Rattle.std.specs.List.{filter, slice_get}
use Rattle.mr_model.specs.Texts.{within}
use Rattle.mr_model.specs.Writes.{Id, Write, id_of, same_id}
use Rattle.mr_model.specs.Replica.{Replica, is_among, is_dropped, IsReplica}
use Rattle.mr_model.specs.Tables.{LogRow, by_id, seq_among, seq_of, log_row, tables_of}
use Rattle.mr_model.specs.Dropped.{Has}
use Rattle.mr_model.specs.Changes.{after_truncate, TruncateChanges}
use Rattle.mr_model.proofs.Members.{has_filter, filter_has, has_map, map_has, has_among, among_has, same_id_refl}
use Rattle.mr_model.proofs.RowsById.{seq_has, at_seq}
use Rattle.mr_model.proofs.MembersAlike.{bool_same}
use Rattle.mr_model.proofs.Orders.{taken_has}
use Rattle.mr_model.proofs.UniqueReplay.{some_inj, none_some}

-- ---- a truncation

seq_high : (k n : ℕ) (ids : List Id) (id : Id) → Has id (take n ids) → seq_among k ids id < k + n
seq_high k zero ids id h = absurd h
seq_high k (suc n) [] id h = absurd h
seq_high k (suc n) (x ∷ xs) id h = go (same_id x id) refl h (seq_high (k + 1) n xs id)
  where
    go : (b : Bool) → same_id x id ≡ b → Has id (x ∷ take n xs) → (Has id (take n xs) → seq_among (k + 1) xs id < k + 1 + n) → cond b k (seq_among (k + 1) xs id) < k + suc n
    go true e a ih = omega arith
    go false e (inl s) ih = absurd (true≢false (sym (subst (λ i. same_id i id ≡ true) s (same_id_refl id)) ∙ e))
    go false e (inr a) ih = let l : seq_among (k + 1) xs id < k + 1 + n = ih a in omega (arith, l)

-- the element at a place before n is one of the first n
pub slice_in_front : {A : Type 0} (n i : ℕ) (x : A) (xs : List A) → slice_get xs i ≡ Some x → i < n → Has x (take n xs)
slice_in_front zero i x xs e l = absurd (not-suc-le-zero l)
slice_in_front (suc n) i x [] e l = absurd (none_some x e)
slice_in_front (suc n) zero x (y ∷ ys) e l = inl (sym (some_inj y x e))
slice_in_front (suc n) (suc i) x (y ∷ ys) e l = inr (slice_in_front n i x ys e (le_of_suc-le-suc l))

-- the first n of a list of ids are those with the numbers 1 to n
pub front-seq : (n : ℕ) (ids : List Id) (id : Id) → is_among id (take n ids) ≡ within 1 n (seq_among 1 ids id)
front-seq n ids id = bool_same (is_among id (take n ids)) (within 1 n (seq_among 1 ids id)) there back
  where
    there : is_among id (take n ids) ≡ true → within 1 n (seq_among 1 ids id) ≡ true
    there e =
        let a = among_has id (take n ids) e in
        let low : 1 ≤ seq_among 1 ids id = seq_has 1 ids id (taken_has n id ids a) in
        let high : seq_among 1 ids id < 1 + n = seq_high 1 n ids id a in
        and_from (leb 1 (seq_among 1 ids id)) (leb (seq_among 1 ids id) n) (le-leb 1 (seq_among 1 ids id) low) (le-leb (seq_among 1 ids id) n (omega (arith, high)))

    back : within 1 n (seq_among 1 ids id) ≡ true → is_among id (take n ids) ≡ true
    back e =
        let p = and_parts (leb 1 (seq_among 1 ids id)) (leb (seq_among 1 ids id) n) e in
        let low : 1 ≤ seq_among 1 ids id = leb-true 1 (seq_among 1 ids id) p.0 in
        let high : seq_among 1 ids id ≤ n = leb-true (seq_among 1 ids id) n p.1 in
        has_among id (take n ids) (slice_in_front n (seq_among 1 ids id - 1) id ids (at_seq 1 ids id (seq_among 1 ids id - 1) (le_refl 1) (omega (arith, low))) (omega (arith, low, high)))

-- a truncation takes the rows of the dropped writes out of the log, and changes nothing else
pub truncate_changes : (r : Replica) (n : ℕ) → IsReplica r → TruncateChanges r n
truncate_changes r n h =
    record {
      dropped = λ v. front-seq (max r.dropped n) r.commits (id_of v);
      meta = refl;
      room = refl;
      vector = refl;
      booking = refl;
      errorlog = refl;
      log = λ row. (log_to row, log_from row);
      cancelled = refl;
      cancels = refl;
    }
  where
    -- what stays kept was kept
    was_kept : (v : Write) → is_dropped (after_truncate r n) (id_of v) ≡ false → is_dropped r (id_of v) ≡ false
    was_kept v e =
        false_from_ne_true (is_dropped r (id_of v))
        (λ t. true≢false (sym (front-seq (max r.dropped n) r.commits (id_of v) ∙ more v (sym (front-seq r.dropped r.commits (id_of v)) ∙ t)) ∙ e))
      where
        more : (x : Write) → within 1 r.dropped (seq_of r x) ≡ true → within 1 (max r.dropped n) (seq_of r x) ≡ true
        more x f =
            let p = and_parts (leb 1 (seq_of r x)) (leb (seq_of r x) r.dropped) f in
            let high : seq_of r x ≤ r.dropped = leb-true (seq_of r x) r.dropped p.1 in
            and_from (leb 1 (seq_of r x)) (leb (seq_of r x) (max r.dropped n)) p.0 (le-leb (seq_of r x) (max r.dropped n) (omega (arith, high)))

    kept_from : (x : Replica) (v : Write) → Has v (filter (λ u. not (is_dropped x (id_of u))) (by_id x.known)) → Has v (by_id x.known) × (is_dropped x (id_of v) ≡ false)
    kept_from x v a = let p = filter_has (λ u. not (is_dropped x (id_of u))) v (by_id x.known) a in (p.0, not-true (is_dropped x (id_of v)) p.1)

    to_kept : (x : Replica) (v : Write) → Has v (by_id x.known) → is_dropped x (id_of v) ≡ false → Has v (filter (λ u. not (is_dropped x (id_of u))) (by_id x.known))
    to_kept x v a e = has_filter (λ u. not (is_dropped x (id_of u))) v (by_id x.known) (ap not e) a

    log_to : (row : LogRow) → Has row (tables_of (after_truncate r n)).log → Has row (tables_of r).log × (within 1 (max r.dropped n) row.seq ≡ false)
    log_to row a =
        let (v, b, e) = map_has (log_row (after_truncate r n)) row (filter (λ u. not (is_dropped (after_truncate r n) (id_of u))) (by_id r.known)) a in
        let p = kept_from (after_truncate r n) v b in (
          subst (λ x. Has x (tables_of r).log) (sym e) (has_map (log_row r) v (filter (λ u. not (is_dropped r (id_of u))) (by_id r.known)) (to_kept r v p.0 (was_kept v p.1))),
          ap (λ (x : LogRow). within 1 (max r.dropped n) x.seq) e ∙ sym (front-seq (max r.dropped n) r.commits (id_of v)) ∙ p.1,
        )

    log_from : (row : LogRow) → Has row (tables_of r).log × (within 1 (max r.dropped n) row.seq ≡ false) → Has row (tables_of (after_truncate r n)).log
    log_from row q =
        let (v, b, e) = map_has (log_row r) row (filter (λ u. not (is_dropped r (id_of u))) (by_id r.known)) q.0 in
        let p = kept_from r v b in
        let gone : is_dropped (after_truncate r n) (id_of v) ≡ false = front-seq (max r.dropped n) r.commits (id_of v) ∙ ap (λ (x : LogRow). within 1 (max r.dropped n) x.seq) (sym e) ∙ q.1 in
        subst (λ x. Has x (tables_of (after_truncate r n)).log) (sym e)
        (has_map (log_row (after_truncate r n)) v (filter (λ u. not (is_dropped (after_truncate r n) (id_of u))) (by_id r.known)) (to_kept (after_truncate r n) v p.0 gone))
