-- Times and commit numbers of a replica's rows: of one server's writes the later ones have the greater.
use Rattle.std.proofs.Common.{◌≡◌, refl, sym, ap, ◌∙◌, subst, ℕ, ◌+◌, ◌-◌, ◌<◌, ◌≤◌, Bool, true, false, not, cond, ◌&&◌, ◌||◌, eqb, ltb, leb, List, [], ◌∷◌}
use Rattle.std.proofs.Common.{◌++◌, length, map, take, drop, ◌⊎◌, inl, inr, arith, IsTrue, eqb-true, eq-eqb, le-leb, leb-true, lt-ltb, slice_index, le_refl}
use Rattle.std.proofs.lemmas.Bool.{and_from, and_parts, true≢false, cases_eq, cond-true, cond-false, false_from_ne_true, not-true, or_left, or_right}
use Rattle.std.specs.List.{list_all}
use Rattle.mr_model.specs.Dropped.{Has}
use Rattle.mr_model.specs.Texts.{within, numbers_on}
use Rattle.mr_model.specs.Writes.{Id, Write, id_of, same_id, stamp_before}
use Rattle.mr_model.specs.Replica.{Replica, IsReplica, last_time, count_of, writes_of, is_among}
use Rattle.mr_model.specs.Tables.{VectorRow, ErrorRow, CancelRow, LogRow, Erred, Cancel, Tables, seq_of, tables_of}
use Rattle.mr_agree.specs.Agreeing.{Note, log_note, error_note, cancel_note, notes, does_time_agree, are_numbers_in_order, do_two_agree, do_times_agree}
use Rattle.mr_model.proofs.Members.{has_split, map_has, filter_has, all_has, Sorted, same_id-true, same_id_from}
use Rattle.mr_model.proofs.OrderedSets.{before-true}
use Rattle.mr_model.proofs.KnownById.{known_at, known_bounds, one_known, numbered_writes, numbered_bounds, own_has_at, order-filter}
use Rattle.mr_model.proofs.RowsById.{at_seq}
use Rattle.mr_model.proofs.RowsOfKnown.{rows_of_known}
use Rattle.mr_model.proofs.TruncateRows.{front-seq}
use Rattle.mr_model.proofs.UniqueReplay.{some_inj}
use Rattle.mr_agree.proofs.AgreeCounts.{all_true, vector-at, late, time_of, of_error, of_cancel, greatest_below}
use Rattle.mr_agree.proofs.AgreeMarks.{row_tells}
use Rattle.mr_agree.proofs.AgreeLog.{front_before}

-- ---- the notes are those of known writes

pub record IsNoteOf (r : Replica) (a : Note) (w : Write) : Type 0 where
  pub known : Has w r.known
  pub id : a.id ≡ id_of w
  pub time : a.time ≡ w.stamp.time
  pub seq : a.seq ≡ seq_of r w

pub noted : (r : Replica) (a : Note) → IsReplica r → Has a (notes (tables_of r)) → (w : Write) × IsNoteOf r a w
noted r a h g = go (has_split a (map log_note (tables_of r).log) (map error_note (tables_of r).errorlog ++ map cancel_note (tables_of r).cancels) g)
  where
    more : Has a (map error_note (tables_of r).errorlog) ⊎ Has a (map cancel_note (tables_of r).cancels) → (w : Write) × IsNoteOf r a w
    more (inl x) =
        let (row, b, e) = map_has error_note a (tables_of r).errorlog x in
        let (w, k, made, id) = of_error r row h b in
        let told = row_tells r w (Erred row) made in
        (w, record { known = k; id = ap (λ (n : Note). n.id) e ∙ sym id; time = ap (λ (n : Note). n.time) e ∙ told.1; seq = ap (λ (n : Note). n.seq) e ∙ told.0 })
    more (inr x) =
        let (row, b, e) = map_has cancel_note a (tables_of r).cancels x in
        let (w, k, made, id) = of_cancel r row h b in
        let told = row_tells r w (Cancel row) made in
        (w, record { known = k; id = ap (λ (n : Note). n.id) e ∙ sym id; time = ap (λ (n : Note). n.time) e ∙ told.1; seq = ap (λ (n : Note). n.seq) e ∙ told.0 })

    go : Has a (map log_note (tables_of r).log) ⊎ Has a (map error_note (tables_of r).errorlog ++ map cancel_note (tables_of r).cancels) → (w : Write) × IsNoteOf r a w
    go (inl x) =
        let (row, b, e) = map_has log_note a (tables_of r).log x in
        let (w, k, d, s) = ((rows_of_known r h).log row).0 b in
        let same = e ∙ ap log_note s in
        (w, record { known = k; id = ap (λ (n : Note). n.id) same; time = ap (λ (n : Note). n.time) same; seq = ap (λ (n : Note). n.seq) same })
    go (inr x) = more (has_split a (map error_note (tables_of r).errorlog) (map cancel_note (tables_of r).cancels) x)

-- ---- of one server's writes

numbered_sorted : (lt : Write → Write → Type 0) (k : ℕ) (v w : Write) (xs : List Write)
    → map (λ x. x.stamp.n) xs ≡ numbers_on k (length xs) → Sorted lt xs → Has v xs → Has w xs → v.stamp.n < w.stamp.n → lt v w
numbered_sorted lt k v w [] e s a b l = absurd a
numbered_sorted lt k v w (x ∷ xs) e s (inl p) (inl q) l = absurd (let same : v.stamp.n ≡ w.stamp.n = ap (λ (y : Write). y.stamp.n) (p ∙ sym q) in omega (arith, same, l))
numbered_sorted lt k v w (x ∷ xs) e s (inl p) (inr b) l = subst (λ y. lt y w) (sym p) (all_has (lt x) w xs s.0 b)
numbered_sorted lt k v w (x ∷ xs) e s (inr a) (inl q) l =
    let first : x.stamp.n ≡ k = ap (λ (ms : List ℕ). slice_index ms 0) e in
    let here : w.stamp.n ≡ x.stamp.n = ap (λ (y : Write). y.stamp.n) q in
    let low : k + 1 ≤ v.stamp.n = (numbered_bounds (λ (y : Write). y.stamp.n) (k + 1) v xs (ap (λ (ms : List ℕ). drop 1 ms) e) a).0 in
    absurd (omega (arith, first, here, low, l))
numbered_sorted lt k v w (x ∷ xs) e s (inr a) (inr b) l = numbered_sorted lt (k + 1) v w xs (ap (λ (ms : List ℕ). drop 1 ms) e) s.1 a b l

pub times_rise : (r : Replica) (v w : Write) → IsReplica r → Has v r.known → Has w r.known → v.stamp.server ≡ w.stamp.server → v.stamp.n < w.stamp.n → v.stamp.time < w.stamp.time
times_rise r v w h a b s l =
    go (before-true v w (numbered_sorted (λ x y. IsTrue (stamp_before x y)) 1 v w (writes_of w.stamp.server r.known) (numbered_writes r w.stamp.server h)
    (order-filter (λ x. eqb x.stamp.server w.stamp.server) r.known h.in_stamp_order) (own_has_at w.stamp.server v r.known s a) (own_has_at w.stamp.server w r.known refl b) l))
  where
    go : (v.stamp.time < w.stamp.time) ⊎ ((v.stamp.time ≡ w.stamp.time) × (v.stamp.server < w.stamp.server)) → v.stamp.time < w.stamp.time
    go (inl x) = x
    go (inr x) = absurd (omega (arith, x.1, s))

-- a committed write has only committed ones of its server before it, with smaller numbers
pub numbers_rise : (r : Replica) (v w : Write) → IsReplica r → Has v r.known → v.stamp.server ≡ w.stamp.server → v.stamp.n < w.stamp.n → 1 ≤ seq_of r w → (1 ≤ seq_of r v) × (seq_of r v < seq_of r w)
numbers_rise r v w h a s l c =
    let own : is_among (id_of w) (take (seq_of r w) r.commits) ≡ true = front-seq (seq_of r w) r.commits (id_of w)
    ∙ and_from (leb 1 (seq_of r w)) (leb (seq_of r w) (seq_of r w)) (le-leb 1 (seq_of r w) c) (le-leb (seq_of r w) (seq_of r w) (omega arith)) in
    let low : 1 ≤ v.stamp.n = (known_bounds r v h a).0 in
    let first : is_among (record { server = w.stamp.server; n = v.stamp.n }) (take (seq_of r w) r.commits)
    ≡ true = front_before r (seq_of r w) w.stamp.server v.stamp.n w.stamp.n h low (omega (arith, l)) own in
    let there : within 1 (seq_of r w) (seq_of r v) ≡ true = sym (front-seq (seq_of r w) r.commits (id_of v))
    ∙ ap (λ x. is_among (record { server = x; n = v.stamp.n }) (take (seq_of r w) r.commits)) s ∙ first in
    let p = and_parts (leb 1 (seq_of r v)) (leb (seq_of r v) (seq_of r w)) there in
    let positive : 1 ≤ seq_of r v = leb-true 1 (seq_of r v) p.0 in
    let few : seq_of r v ≤ seq_of r w = leb-true (seq_of r v) (seq_of r w) p.1 in
    (positive, less (cases_eq (seq_of r v) (seq_of r w)) few)
  where
    less : (seq_of r v ≡ seq_of r w) ⊎ (seq_of r v ≡ seq_of r w → ⊥) → seq_of r v ≤ seq_of r w → seq_of r v < seq_of r w
    less (inl e) f = absurd (let n : v.stamp.n ≡ w.stamp.n = ap (λ (i : Id). i.n) (one_number r (id_of v) (id_of w) (seq_of r w) e refl c) in omega (arith, n, l))
      where
        one_number : (r : Replica) (x y : Id) (q : ℕ) → Rattle.mr_model.specs.Tables.seq_among 1 r.commits x ≡ q → Rattle.mr_model.specs.Tables.seq_among 1 r.commits y ≡ q → 1 ≤ q → x ≡ y
        one_number r x y q e f low =
            some_inj x y (sym (at_seq 1 r.commits x (q - 1) (le_refl 1) (omega (arith, e, low))) ∙ at_seq 1 r.commits y (q - 1) (le_refl 1) (omega (arith, f, low)))
    less (inr ne) f = omega (arith, ne, f)

pub one_number : (r : Replica) (x y : Id) (q : ℕ) → Rattle.mr_model.specs.Tables.seq_among 1 r.commits x ≡ q → Rattle.mr_model.specs.Tables.seq_among 1 r.commits y ≡ q → 1 ≤ q → x ≡ y
one_number r x y q e f low =
    some_inj x y (sym (at_seq 1 r.commits x (q - 1) (le_refl 1) (omega (arith, e, low))) ∙ at_seq 1 r.commits y (q - 1) (le_refl 1) (omega (arith, f, low)))

-- ---- the last of each server

pub last_is : (r : Replica) (w : Write) → IsReplica r → Has w r.known → w.stamp.n ≡ count_of r w.stamp.server → w.stamp.time ≡ last_time r w.stamp.server
last_is r w h a e =
    let low : w.stamp.time ≤ last_time r w.stamp.server = late r w a in
    let high : last_time r w.stamp.server ≤ w.stamp.time =
    greatest_below w.stamp.time (map time_of (writes_of w.stamp.server r.known))
    (λ n g. let (v, i, s) = map_has time_of n (writes_of w.stamp.server r.known) g in
    let f = filter_has (λ x. eqb x.stamp.server w.stamp.server) v r.known i in
    let own : v.stamp.server ≡ w.stamp.server = eqb-true v.stamp.server w.stamp.server f.1 in
    let t : v.stamp.time ≤ w.stamp.time = earlier v f.0 own (cases_eq v.stamp.n w.stamp.n) in
    omega (arith, s, t)) in
    omega (arith, low, high)
  where
    earlier : (v : Write) → Has v r.known → v.stamp.server ≡ w.stamp.server → (v.stamp.n ≡ w.stamp.n) ⊎ (v.stamp.n ≡ w.stamp.n → ⊥) → v.stamp.time ≤ w.stamp.time
    earlier v k s (inl n) = let same : v ≡ w = one_known r v w h k a (λ i. record { server = s i; n = n i }) in let t : v.stamp.time ≡ w.stamp.time = ap time_of same in omega (arith, t)
    earlier v k s (inr ne) =
        let top : v.stamp.n ≤ count_of r v.stamp.server = (known_bounds r v h k).1 in
        let same : count_of r v.stamp.server ≡ count_of r w.stamp.server = ap (count_of r) s in
        let t = times_rise r v w h k a s (omega (arith, top, same, ne, e)) in
        omega (arith, t)

not_last : (r : Replica) (w : Write) → IsReplica r → Has w r.known → (w.stamp.n ≡ count_of r w.stamp.server → ⊥) → w.stamp.time < last_time r w.stamp.server
not_last r w h a ne =
    let b = known_bounds r w h a in
    let low : 1 ≤ w.stamp.n = b.0 in
    let high : w.stamp.n ≤ count_of r w.stamp.server = b.1 in
    let (v, k, e) = known_at r (record { server = w.stamp.server; n = count_of r w.stamp.server }) h (omega (arith, low, high)) (omega arith) in
    let s : v.stamp.server ≡ w.stamp.server = ap (λ (i : Id). i.server) e in
    let n : v.stamp.n ≡ count_of r w.stamp.server = ap (λ (i : Id). i.n) e in
    let t : w.stamp.time < v.stamp.time = times_rise r w v h a k (sym s) (omega (arith, n, high, ne)) in
    let l : v.stamp.time ≤ last_time r v.stamp.server = late r v k in
    let same : last_time r v.stamp.server ≡ last_time r w.stamp.server = ap (last_time r) s in
    omega (arith, t, l, same)

time_agrees : (r : Replica) (a : Note) (w : Write) → IsReplica r → IsNoteOf r a w → does_time_agree (tables_of r) a ≡ true
time_agrees r a w h is =
    let id = is.id in
    let time = is.time in
    subst (λ (b : Note). does_time_agree (tables_of r) b ≡ true) (λ i. record { id = sym id i; time = sym time i; seq = a.seq })
    (ap (λ (v : VectorRow). cond (eqb w.stamp.n v.count) (eqb w.stamp.time v.last_time) (ltb w.stamp.time v.last_time)) (vector-at r w.stamp.server h)
    ∙ go (eqb w.stamp.n (count_of r w.stamp.server)) refl)
  where
    go : (b : Bool) → eqb w.stamp.n (count_of r w.stamp.server) ≡ b → cond b (eqb w.stamp.time (last_time r w.stamp.server)) (ltb w.stamp.time (last_time r w.stamp.server)) ≡ true
    go true e = eq-eqb w.stamp.time (last_time r w.stamp.server) (last_is r w h is.known (eqb-true w.stamp.n (count_of r w.stamp.server) e))
    go false e = lt-ltb w.stamp.time (last_time r w.stamp.server) (not_last r w h is.known (λ n. true≢false (sym (eq-eqb w.stamp.n (count_of r w.stamp.server) n) ∙ e)))

-- ---- two of them

note_of : Replica → Write → Note
note_of r w = record { id = id_of w; time = w.stamp.time; seq = seq_of r w }

two_agree : (r : Replica) (v w : Write) → IsReplica r → Has v r.known → Has w r.known
    → do_two_agree (record { id = id_of v; time = v.stamp.time; seq = seq_of r v }) (record { id = id_of w; time = w.stamp.time; seq = seq_of r w }) ≡ true
two_agree r v w h a b = go (same_id (id_of v) (id_of w)) refl
  where
    same : id_of v ≡ id_of w → (eqb v.stamp.time w.stamp.time && eqb (seq_of r v) (seq_of r w)) ≡ true
    same e =
        let is : v ≡ w = one_known r v w h a b e in
        and_from (eqb v.stamp.time w.stamp.time) (eqb (seq_of r v) (seq_of r w)) (eq-eqb v.stamp.time w.stamp.time (ap time_of is)) (eq-eqb (seq_of r v) (seq_of r w) (ap (seq_of r) is))

    numbers : same_id (id_of v) (id_of w) ≡ false → (x : Bool) → eqb (seq_of r v) 0 ≡ x → (y : Bool) → eqb (seq_of r v) (seq_of r w) ≡ y → (x || not y) ≡ true
    numbers ne true e y f = refl
    numbers ne false e false f = refl
    numbers ne false e true f = absurd
        (true≢false (sym (same_id_from (id_of v) (id_of w) (one_number r (id_of v) (id_of w) (seq_of r w) (eqb-true (seq_of r v) (seq_of r w) f) refl (positive (cases_eq (seq_of r w) 0)))) ∙ ne))
      where
        positive : (seq_of r w ≡ 0) ⊎ (seq_of r w ≡ 0 → ⊥) → 1 ≤ seq_of r w
        positive (inl z) = absurd (true≢false (sym (eq-eqb (seq_of r v) 0 (eqb-true (seq_of r v) (seq_of r w) f ∙ z)) ∙ e))
        positive (inr z) = omega (arith, z)

    later : v.stamp.server ≡ w.stamp.server → v.stamp.n < w.stamp.n → (z : Bool) → eqb (seq_of r w) 0 ≡ z → (z || (not (eqb (seq_of r v) 0) && ltb (seq_of r v) (seq_of r w))) ≡ true
    later s l true e = refl
    later s l false e =
        let p = numbers_rise r v w h a s l (positive (cases_eq (seq_of r w) 0)) in
        let low : 1 ≤ seq_of r v = p.0 in
        and_from (not (eqb (seq_of r v) 0)) (ltb (seq_of r v) (seq_of r w))
        (ap not (false_from_ne_true (eqb (seq_of r v) 0) (λ z. let n = eqb-true (seq_of r v) 0 z in omega (arith, n, low)))) (lt-ltb (seq_of r v) (seq_of r w) p.1)
      where
        positive : (seq_of r w ≡ 0) ⊎ (seq_of r w ≡ 0 → ⊥) → 1 ≤ seq_of r w
        positive (inl z) = absurd (true≢false (sym (eq-eqb (seq_of r w) 0 z) ∙ e))
        positive (inr z) = omega (arith, z)

    rising : (x : Bool) → (eqb v.stamp.server w.stamp.server && ltb v.stamp.n w.stamp.n) ≡ x → (not x || (ltb v.stamp.time w.stamp.time && are_numbers_in_order (seq_of r v) (seq_of r w))) ≡ true
    rising false e = refl
    rising true e =
        let p = and_parts (eqb v.stamp.server w.stamp.server) (ltb v.stamp.n w.stamp.n) e in
        let s = eqb-true v.stamp.server w.stamp.server p.0 in
        let l = Rattle.std.proofs.lemmas.Bool.ltb-true v.stamp.n w.stamp.n p.1 in
        and_from (ltb v.stamp.time w.stamp.time) (are_numbers_in_order (seq_of r v) (seq_of r w)) (lt-ltb v.stamp.time w.stamp.time (times_rise r v w h a b s l)) (later s l (eqb (seq_of r w) 0) refl)

    go : (x : Bool) → same_id (id_of v) (id_of w) ≡ x
        → cond x (eqb v.stamp.time w.stamp.time && eqb (seq_of r v) (seq_of r w))
        ((eqb (seq_of r v) 0 || not (eqb (seq_of r v) (seq_of r w)))
        && (not (eqb v.stamp.server w.stamp.server && ltb v.stamp.n w.stamp.n) || (ltb v.stamp.time w.stamp.time && are_numbers_in_order (seq_of r v) (seq_of r w)))) ≡ true
    go true e = same (same_id-true (id_of v) (id_of w) e)
    go false e =
        and_from (eqb (seq_of r v) 0 || not (eqb (seq_of r v) (seq_of r w)))
        (not (eqb v.stamp.server w.stamp.server && ltb v.stamp.n w.stamp.n) || (ltb v.stamp.time w.stamp.time && are_numbers_in_order (seq_of r v) (seq_of r w)))
        (numbers e (eqb (seq_of r v) 0) refl (eqb (seq_of r v) (seq_of r w)) refl)
        (rising (eqb v.stamp.server w.stamp.server && ltb v.stamp.n w.stamp.n) refl)

pub times_agree : (r : Replica) → IsReplica r → do_times_agree (tables_of r) ≡ true
times_agree r h =
    and_from (list_all (does_time_agree (tables_of r)) (notes (tables_of r))) (list_all (λ a. list_all (do_two_agree a) (notes (tables_of r))) (notes (tables_of r)))
    (all_true (does_time_agree (tables_of r)) (notes (tables_of r)) (λ a g. let (w, is) = noted r a h g in time_agrees r a w h is))
    (all_true (λ a. list_all (do_two_agree a) (notes (tables_of r))) (notes (tables_of r))
    (λ a g. all_true (do_two_agree a) (notes (tables_of r)) (λ b k.
    let (v, x) = noted r a h g in
    let (w, y) = noted r b h k in
    let i = x.id in
    let t = x.time in
    let q = x.seq in
    let j = y.id in
    let u = y.time in
    let p = y.seq in
    subst (λ (n : Note). do_two_agree n b ≡ true) (λ l. record { id = sym i l; time = sym t l; seq = sym q l })
    (subst (λ (n : Note). do_two_agree (record { id = id_of v; time = v.stamp.time; seq = seq_of r v }) n ≡ true)
    (λ l. record { id = sym j l; time = sym u l; seq = sym p l }) (two_agree r v w h x.known y.known)))))
