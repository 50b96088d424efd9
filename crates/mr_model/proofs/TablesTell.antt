-- Equal tables: the replicas differ in dropped writes alone; and such replicas have equal tables.
use Rattle.std.proofs.Common.{◌≡◌, refl, sym, ap, ◌∙◌, subst, ℕ, suc, ◌+◌, ◌≤◌, Bool, true, false, not, cond, eqb, List, []}
use Rattle.std.proofs.Common.{◌∷◌, length, map, take, drop, ◌⊎◌, inl, inr, Option, Some, None, arith, IsTrue, eqb-true}
use Rattle.std.proofs.lemmas.Bool.{cond-true, cond-false, false_from_ne_true, cases_eq}
use Rattle.std.proofs.lemmas.List.{length-drop}
use Rattle.std.specs.Prelude.{flat_map}
use Rattle.std.specs.List.{filter_map, slice_get}
use Rattle.mr_model.specs.Texts.{numbers_on}
use Rattle.mr_model.specs.Slots.{Slot}
use Rattle.mr_model.specs.Writes.{Id, Action, Books, Cancels, Write, id_of, stamp_before}
use Rattle.mr_model.specs.Replay.{Place, slot_at}
use Rattle.mr_model.specs.Replica.{Replica, writes_of, count_of, last_time, greatest, committed_count, is_committed, is_dropped, write_with, tentative, IsReplica}
use Rattle.mr_model.specs.Tables.{VectorRow, LogRow, PlaceRow, Tables, by_id, seq_among, seq_of, vector_row, log_row, booking_place_row}
use Rattle.mr_model.specs.Tables.{place_row_for, place_row, as_booking, as_error, as_cancelled, as_cancel, tables_of}
use Rattle.mr_model.specs.Tables as rows
use Rattle.mr_model.specs.View.{place_of, canceller_of}
use Rattle.mr_model.specs.Queries.{booking_id, error_id, cancelled_id, cancel_id, row_id}
use Rattle.mr_model.specs.Dropped.{Has, DifferInDropped}
use Rattle.mr_model.proofs.OrderedSets.{Before, before-true, before_from, before_trans}
use Rattle.mr_model.proofs.Members.{has_filter, filter_has, slice_has, sorted_same, among_not, not_among, Distinct, distinct_parts, take_drop}
use Rattle.mr_model.proofs.KnownById.{partner, known_with, with_id, commit_known, distinct_commits, tentative_known, tentative_sorted}
use Rattle.mr_model.proofs.RowsById.{has_flat, flat_has, has_numbers, server_bounds, known_write, Paired, pairs_from_rows}
use Rattle.mr_model.proofs.RowsById.{map_filter, log_row_same, seq_not, seq_has, seq_at, at_seq, list_ext, slice_drop}
use Rattle.mr_model.proofs.UniqueReplay.{some_inj, none_some}
use Rattle.mr_model.proofs.RowsTell.{booked_is, erred_is, cancelled_is, cancel_is}
use Rattle.mr_model.proofs.DroppedApart.{dropped_commit, not_committed_kept}

-- ---- the vector

abbrev pub vector_entry : Replica → ℕ → VectorRow
vector_entry r s = record { server = s; count = count_of r s; last_time = last_time r s; committed = committed_count r s }

pub in_row : (r : Replica) (s : ℕ) (v : VectorRow) → Has v (vector_row r s) → (v ≡ vector_entry r s)
in_row r s v h = go (eqb (count_of r s) 0) h
  where
    go : (b : Bool) → Has v (cond b [] (vector_entry r s ∷ [])) → v ≡ vector_entry r s
    go true g = absurd g
    go false (inl e) = e
    go false (inr g) = absurd g

-- a server of which writes are known is within the limits
pub counted_server : (r : Replica) (s : ℕ) → IsReplica r → (count_of r s ≡ 0 → ⊥) → (1 ≤ s) × (s ≤ 99)
counted_server r s h ne = go (writes_of s r.known) refl
  where
    go : (ws : List Write) → writes_of s r.known ≡ ws → (1 ≤ s) × (s ≤ 99)
    go [] e = absurd (ne (ap length e))
    go (w ∷ ws) e =
        let f = filter_has (λ v. eqb v.stamp.server s) w r.known (subst (λ vs. Has w vs) (sym e) (inl refl)) in
        let b = server_bounds w (known_write r w h f.0) in
        let same : w.stamp.server ≡ s = eqb-true w.stamp.server s f.1 in
        let low : 1 ≤ w.stamp.server = b.0 in
        let top : w.stamp.server ≤ 99 = b.1 in
        (omega (arith, same, low), omega (arith, same, top))

same_entry : (a b : Replica) (s : ℕ) → IsReplica a → tables_of a ≡ tables_of b → (count_of a s ≡ 0 → ⊥) → vector_entry a s ≡ vector_entry b s
same_entry a b s ha e ne =
    let bounds = counted_server a s ha ne in
    let top : s ≤ 99 = bounds.1 in
    let here : Has (vector_entry a s) (vector_row a s) = subst (λ (vs : List VectorRow). Has (vector_entry a s) vs)
    (sym (cond-false (eqb (count_of a s) 0) [] (vector_entry a s ∷ []) (false_from_ne_true (eqb (count_of a s) 0) (λ z. ne (eqb-true (count_of a s) 0 z))))) (inl refl) in
    let there : Has (vector_entry a s) (flat_map (vector_row b) (numbers_on 1 99)) = subst (λ (t : Tables). Has (vector_entry a s) t.vector) e
    (has_flat (vector_row a) (vector_entry a s) s (numbers_on 1 99) (has_numbers s 1 99 bounds.0 (omega (arith, top))) here) in
    let (t, i, j) = flat_has (vector_row b) (vector_entry a s) (numbers_on 1 99) there in
    let row : vector_entry a s ≡ vector_entry b t = in_row b t (vector_entry a s) j in
    let same : s ≡ t = ap (λ (v : VectorRow). v.server) row in
    row ∙ ap (vector_entry b) (sym same)

record Vectors (a b : Replica) (s : ℕ) : Type 0 where
  count : count_of a s ≡ count_of b s
  last : last_time a s ≡ last_time b s
  committed : committed_count a s ≡ committed_count b s

none_of_server : (r : Replica) (s : ℕ) → IsReplica r → count_of r s ≡ 0 → (last_time r s ≡ 0) × (committed_count r s ≡ 0)
none_of_server r s h e = (go (writes_of s r.known) e, (let k : committed_count r s ≤ count_of r s = h.commits_known s in omega (arith, k, e)))
  where
    go : (ws : List Write) → length ws ≡ 0 → greatest (map (λ w. w.stamp.time) ws) ≡ 0
    go [] z = refl
    go (w ∷ ws) z = absurd (let t : suc (length ws) ≡ 0 = z in omega (arith, t))

same_vector : (a b : Replica) (s : ℕ) → IsReplica a → IsReplica b → tables_of a ≡ tables_of b → Vectors a b s
same_vector a b s ha hb e = go (cases_eq (count_of a s) 0) (cases_eq (count_of b s) 0)
  where
    of_entry : vector_entry a s ≡ vector_entry b s → Vectors a b s
    of_entry v = record { count = ap (λ (r : VectorRow). r.count) v; last = ap (λ (r : VectorRow). r.last_time) v; committed = ap (λ (r : VectorRow). r.committed) v }

    go : (count_of a s ≡ 0) ⊎ (count_of a s ≡ 0 → ⊥) → (count_of b s ≡ 0) ⊎ (count_of b s ≡ 0 → ⊥) → Vectors a b s
    go (inr ne) q = of_entry (same_entry a b s ha e ne)
    go (inl p) (inr ne) = of_entry (sym (same_entry b a s hb (sym e) ne))
    go (inl p) (inl q) =
        let x = none_of_server a s ha p in
        let y = none_of_server b s hb q in
        record { count = p ∙ sym q; last = x.0 ∙ sym y.0; committed = x.1 ∙ sym y.1 }

-- ---- the log

abbrev pub kept_log : Replica → Write → Option LogRow
kept_log r w = cond (is_dropped r (id_of w)) None (Some (log_row r w))

log-rows : (r : Replica) → (tables_of r).log ≡ filter_map (kept_log r) (by_id r.known)
log-rows r = map_filter (λ w. is_dropped r (id_of w)) (log_row r) (by_id r.known)

log_key : (r : Replica) (x : Write) (row : LogRow) → kept_log r x ≡ Some row → record { server = row.server; n = row.n } ≡ id_of x
log_key r x row e = go (is_dropped r (id_of x)) e
  where
    go : (b : Bool) → cond b None (Some (log_row r x)) ≡ Some row → record { server = row.server; n = row.n } ≡ id_of x
    go true f = absurd (let g : ◌≡◌ {A = Option LogRow} None (Some row) = f in cc)
    go false f = let g : log_row r x ≡ row = (let k : Some (log_row r x) ≡ Some row = f in cc) in ap (λ (l : LogRow). record { server = l.server; n = l.n }) (sym g)

-- ---- from equal tables

record Pair (a b : Replica) : Type 0 where
  first : IsReplica a
  second : IsReplica b
  counts : (s : ℕ) → count_of a s ≡ count_of b s
  dropped : a.dropped ≡ b.dropped
  commits : length a.commits ≡ length b.commits
  logs : Paired a b (kept_log a) (kept_log b)

turned : (a b : Replica) → Pair a b → Pair b a
turned a b p =
    record {
      first = p.second;
      second = p.first;
      counts = λ s. sym (p.counts s);
      dropped = sym p.dropped;
      commits = sym p.commits;
      logs = λ x y h g e. sym (p.logs y x g h (sym e));
    }

not_dropped_both : (a b : Replica) (id : Id) → Pair a b → is_dropped a id ≡ true → is_dropped b id ≡ false → ⊥
not_dropped_both a b id p da db =
    let (x, h, e) = commit_known a id p.first (dropped_commit a id da) in
    let (y, g, f) = partner a b x p.first p.second p.counts h in
    let left : kept_log a x ≡ None = cond-true (is_dropped a (id_of x)) None (Some (log_row a x)) (ap (is_dropped a) e ∙ da) in
    let right : kept_log b y ≡ Some (log_row b y) = cond-false (is_dropped b (id_of y)) None (Some (log_row b y)) (ap (is_dropped b) (f ∙ e) ∙ db) in
    none_some (log_row b y) (sym left ∙ p.logs x y h g (sym f) ∙ right)

same_dropped : (a b : Replica) (id : Id) → Pair a b → is_dropped a id ≡ is_dropped b id
same_dropped a b id p = go (is_dropped a id) refl (is_dropped b id) refl
  where
    go : (c : Bool) → is_dropped a id ≡ c → (d : Bool) → is_dropped b id ≡ d → is_dropped a id ≡ is_dropped b id
    go true e true f = e ∙ sym f
    go false e false f = e ∙ sym f
    go true e false f = absurd (not_dropped_both a b id p e f)
    go false e true f = absurd (not_dropped_both b a id (turned a b p) f e)

same_log : (a b : Replica) (x y : Write) → Pair a b → Has x a.known → Has y b.known → id_of x ≡ id_of y → is_dropped a (id_of x) ≡ false → log_row a x ≡ log_row b y
same_log a b x y p h g e d =
    some_inj (log_row a x) (log_row b y) (
    sym (cond-false (is_dropped a (id_of x)) None (Some (log_row a x)) d) ∙ p.logs x y h g e
    ∙ cond-false (is_dropped b (id_of y)) None (Some (log_row b y)) (ap (is_dropped b) (sym e) ∙ sym (same_dropped a b (id_of x) p) ∙ d))

same_kept : (a b : Replica) (x y : Write) → Pair a b → Has x a.known → Has y b.known → id_of x ≡ id_of y → is_dropped a (id_of x) ≡ false → (x ≡ y) × (seq_of a x ≡ seq_of b y)
same_kept a b x y p h g e d =
    let row = same_log a b x y p h g e d in
    (log_row_same a b x y (known_write a x p.first h) (known_write b y p.second g) row, ap (λ (l : LogRow). l.seq) row)

-- the write of a kept id, and its commit number, at the other replica
over : (a b : Replica) (x : Write) → Pair a b → Has x a.known → is_dropped a (id_of x) ≡ false → Has x b.known × (seq_of a x ≡ seq_of b x)
over a b x p h d =
    let (y, g, f) = partner a b x p.first p.second p.counts h in
    let s = same_kept a b x y p h g (sym f) d in
    (subst (λ w. Has w b.known) (sym s.0) g, s.1 ∙ ap (seq_of b) (sym s.0))

same_with : (a b : Replica) (id : Id) → Pair a b → is_dropped a id ≡ false → write_with a id ≡ write_with b id
same_with a b id p d = go (write_with a id) refl (write_with b id) refl
  where
    there : (x : Write) → write_with a id ≡ Some x → write_with b id ≡ Some x
    there x e =
        let k = known_with a id x e in
        with_id b x id p.second (over a b x p k.0 (ap (is_dropped a) k.1 ∙ d)).0 k.1

    back : (y : Write) → write_with b id ≡ Some y → write_with a id ≡ Some y
    back y e =
        let k = known_with b id y e in
        with_id a y id p.first (over b a y (turned a b p) k.0 (ap (is_dropped b) k.1 ∙ sym (same_dropped a b id p) ∙ d)).0 k.1

    go : (o : Option Write) → write_with a id ≡ o → (u : Option Write) → write_with b id ≡ u → write_with a id ≡ write_with b id
    go (Some x) e u f = e ∙ sym (there x e)
    go None e (Some y) f = back y f ∙ sym f
    go None e None f = e ∙ sym f

tentative_over : (a b : Replica) (x : Write) → Pair a b → Has x (tentative a) → Has x (tentative b)
tentative_over a b x p h =
    let t = tentative_known a x h in
    let o = over a b x p t.0 (not_committed_kept a (id_of x) t.1) in
    let none : seq_of a x ≡ 0 = seq_not 1 a.commits (id_of x) (among_not (id_of x) a.commits t.1) in
    has_filter (λ v. not (is_committed b (id_of v))) x b.known
    (ap not (not_among (id_of x) b.commits (λ g. let low : 1 ≤ seq_of b x = seq_has 1 b.commits (id_of x) g in let same : seq_of a x ≡ seq_of b x = o.1 in omega (arith, low, same, none))))
    o.0

pub stamp_irreflexive : (x : Write) → IsTrue (stamp_before x x) → ⊥
stamp_irreflexive v b = go (before-true v v b)
  where
    go : Before v v → ⊥
    go (inl t) = omega (arith, t)
    go (inr t) = omega (arith, t.1)

same_tentative : (a b : Replica) → Pair a b → tentative a ≡ tentative b
same_tentative a b p =
    sorted_same (λ x y. IsTrue (stamp_before x y)) stamp_irreflexive
    (λ x y z s t. before_from x z (before_trans x y z (before-true x y s) (before-true y z t)))
    (tentative a) (tentative b) (tentative_sorted a p.first) (tentative_sorted b p.second)
    (λ x h. tentative_over a b x p h) (λ x h. tentative_over b a x (turned a b p) h)

commit_over : (a b : Replica) (i : ℕ) (id : Id) → Pair a b → slice_get (drop a.dropped a.commits) i ≡ Some id → slice_get (drop b.dropped b.commits) i ≡ Some id
commit_over a b i id p e =
    let here : slice_get a.commits (a.dropped + i) ≡ Some id = sym (slice_drop a.dropped i a.commits) ∙ e in
    let (x, h, s) = commit_known a id p.first (slice_has a.commits (a.dropped + i) id here) in
    let parts = distinct_parts (take a.dropped a.commits) (drop a.dropped a.commits) (subst Distinct (sym (take_drop a.dropped a.commits)) (distinct_commits a p.first)) in
    let kept_id : is_dropped a id ≡ false = not_among id (take a.dropped a.commits) (λ g. parts.2 id g (slice_has (drop a.dropped a.commits) i id e)) in
    let o = over a b x p h (ap (is_dropped a) s ∙ kept_id) in
    let number : seq_among 1 a.commits id ≡ 1 + (a.dropped + i) = seq_at 1 a.commits id (a.dropped + i) (distinct_commits a p.first) here in
    let there : seq_among 1 b.commits id ≡ 1 + (a.dropped + i) = ap (seq_among 1 b.commits) (sym s) ∙ sym o.1 ∙ ap (seq_among 1 a.commits) s ∙ number in
    slice_drop b.dropped i b.commits ∙ ap (λ d. slice_get b.commits (d + i)) (sym p.dropped) ∙ at_seq 1 b.commits id (a.dropped + i) (omega arith) there

same_commits : (a b : Replica) → Pair a b → drop a.dropped a.commits ≡ drop b.dropped b.commits
same_commits a b p =
    list_ext (drop a.dropped a.commits) (drop b.dropped b.commits)
    (let x = length-drop a.dropped a.commits in let y = length-drop b.dropped b.commits in let l = p.commits in let d = p.dropped in omega (arith, x, y, l, d))
    (λ i id e. commit_over a b i id p e)

-- ---- rows of what became of a write

row_key : (w : Write) (a : Action) (p : Place) (by : Option Id) (m : Bool) (n : ℕ) → row_id (place_row_for w a p by m n) ≡ id_of w
row_key w (Books m) p by c n = go (slot_at w p) by
  where
    go : (o : Option Slot) (by : Option Id) → row_id (booking_place_row w m o by c n) ≡ id_of w
    go None by = refl
    go (Some s) None = refl
    go (Some s) (Some x) = refl
row_key w (Cancels t) p by c n = refl

pub key-row : (r : Replica) (w : Write) → row_id (place_row r w) ≡ id_of w
key-row r w = row_key w w.action (place_of r w) (canceller_of r w) (is_committed r (id_of w)) (seq_of r w)

-- a row is told by the four tables it may be in
pub one_of_four : (p q : PlaceRow) → as_booking p ≡ as_booking q → as_error p ≡ as_error q → as_cancelled p ≡ as_cancelled q → as_cancel p ≡ as_cancel q → p ≡ q
one_of_four (rows.Booked x) q a b c d = sym (booked_is x q (sym a))
one_of_four (rows.Erred x) q a b c d = sym (erred_is x q (sym b))
one_of_four (rows.Cancelled x) q a b c d = sym (cancelled_is x q (sym c))
one_of_four (rows.Cancel x) q a b c d = sym (cancel_is x q (sym d))

-- the rows of one table pair by id
pairs_of : {R : Type 0} (f : PlaceRow → Option R) (key : R → Id) (a b : Replica) → IsReplica a → IsReplica b → ((p : PlaceRow) (row : R) → f p ≡ Some row → key row ≡ row_id p)
    → filter_map (λ w. f (place_row a w)) (by_id a.known) ≡ filter_map (λ w. f (place_row b w)) (by_id b.known) → Paired a b (λ w. f (place_row a w)) (λ w. f (place_row b w))
pairs_of f key a b ha hb keyed e =
    pairs_from_rows a b (λ w. f (place_row a w)) (λ w. f (place_row b w)) key ha hb
    (λ x row g. keyed (place_row a x) row g ∙ key-row a x) (λ y row g. keyed (place_row b y) row g ∙ key-row b y) e

pub row_pairs : (a b : Replica) → IsReplica a → IsReplica b → tables_of a ≡ tables_of b → Paired a b (place_row a) (place_row b)
row_pairs a b ha hb e = λ x y h g s.
    one_of_four (place_row a x) (place_row b y)
    (pairs_of as_booking booking_id a b ha hb (λ p row f. sym (ap row_id (booked_is row p f))) (ap (λ (t : Tables). t.booking) e) x y h g s)
    (pairs_of as_error error_id a b ha hb (λ p row f. sym (ap row_id (erred_is row p f))) (ap (λ (t : Tables). t.errorlog) e) x y h g s)
    (pairs_of as_cancelled cancelled_id a b ha hb (λ p row f. sym (ap row_id (cancelled_is row p f))) (ap (λ (t : Tables). t.cancelled) e) x y h g s)
    (pairs_of as_cancel cancel_id a b ha hb (λ p row f. sym (ap row_id (cancel_is row p f))) (ap (λ (t : Tables). t.cancels) e) x y h g s)

-- ---- equal tables, and replicas that differ in dropped writes alone

-- replicas with equal tables differ in dropped writes alone
pub from_tables : (a b : Replica) → IsReplica a → IsReplica b → tables_of a ≡ tables_of b → DifferInDropped a b
from_tables a b ha hb e =
    record {
      server = ap (λ (t : Tables). t.meta.server) e;
      primary = ap (λ (t : Tables). t.meta.primary) e;
      commits = p.commits;
      dropped = p.dropped;
      rooms = ap (λ (t : Tables). t.room) e;
      clock = ap (λ (t : Tables). t.meta.clock) e;
      counts = p.counts;
      last_times = λ s. (same_vector a b s ha hb e).last;
      committed_counts = λ s. (same_vector a b s ha hb e).committed;
      kept_commits = same_commits a b p;
      dropped_ids = λ id. same_dropped a b id p;
      kept_writes = λ id d. same_with a b id p d;
      tentative = same_tentative a b p;
      rows = λ x y h g s d. row_pairs a b ha hb e x y h g s;
    }
  where
    p : Pair a b
    p =
        record {
          first = ha;
          second = hb;
          counts = λ s. (same_vector a b s ha hb e).count;
          dropped = ap (λ (t : Tables). t.meta.dropped) e;
          commits = ap (λ (t : Tables). t.meta.commits) e;
          logs =
              pairs_from_rows a b (kept_log a) (kept_log b) (λ r. record { server = r.server; n = r.n }) ha hb (log_key a) (log_key b)
              (sym (log-rows a) ∙ ap (λ (t : Tables). t.log) e ∙ log-rows b);
        }
