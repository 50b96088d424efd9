-- The rows of a replica's tables agree: meta, the vector, and the rows of what became of writes.
use Rattle.std.proofs.Common.{◌≡◌, refl, sym, ap, ◌∙◌, subst, ℕ, zero, suc, ◌+◌, ◌<◌, ◌≤◌, Bool, true, false, not, cond, ◌&&◌, ◌||◌, eqb, leb, List, [], ◌∷◌, ◌++◌}
use Rattle.std.proofs.Common.{length, map, take, drop, ◌⊎◌, inl, inr, Option, Some, None, arith, IsTrue, eqb-true, eq-eqb, ne_eqb, le-leb, leb-true, length-append}
use Rattle.std.proofs.lemmas.Bool.{and_from, true≢false, cases_eq, cond-true, cond-false, false_from_ne_true}
use Rattle.std.proofs.lemmas.List.{length-map}
use Rattle.std.proofs.lemmas.List.Sums.{sum_by-append}
use Rattle.std.specs.Prelude.{flat_map}
use Rattle.std.specs.List.{list_all, sum_by, filter_map, cons_option}
use Rattle.mr_model.specs.Dropped.{Has}
use Rattle.mr_model.specs.Texts.{within, numbers_on}
use Rattle.mr_model.specs.Writes.{Id, Write, id_of}
use Rattle.mr_model.specs.Replica.{Replica, IsReplica, greatest, last_time, clock_of, count_of, committed_count, commits_of, writes_of, is_among, is_committed}
use Rattle.mr_model.specs.Tables.{VectorRow, BookingRow, ErrorRow, CancelledRow, CancelRow, PlaceRow, Booked, Erred, Cancelled, Cancel, Tables, by_id, vector_row}
use Rattle.mr_model.specs.Tables.{as_booking, as_error, as_cancelled, as_cancel, place_row, booking_row, error_row, cancelled_row, cancel_row, tables_of}
use Rattle.mr_model.specs.Queries.{booking_id, error_id, cancelled_id, cancel_id, row_id}
use Rattle.mr_model.specs.Changes.{IdBefore, RiseById}
use Rattle.mr_agree.specs.Agreeing.{vector_in, is_counted, is_first, same_mark, does_meta_agree, do_counts_agree, row_ids, are_distinct, do_ids_agree}
use Rattle.mr_model.proofs.Members.{has_split, has_map, map_has, filter_has, all_has, not_among, Distinct, distinct_append}
use Rattle.mr_model.proofs.KnownById.{own_has_at, known_bounds, one_known, commit_known, numbered_commits}
use Rattle.mr_model.proofs.CommitsKeep.{among-has, has_within, has_not}
use Rattle.mr_model.proofs.RowsById.{server_bounds, known_write}
use Rattle.mr_model.proofs.RowsOfKnown.{rows_of_known}
use Rattle.mr_model.proofs.RowsTell.{one_row, known_of, booked_is, erred_is, cancelled_is, cancel_is}
use Rattle.mr_model.proofs.KeyOrder.{tables_in_order}
use Rattle.mr_model.proofs.TablesTell.{vector_entry}

-- ---- tests of lists

pub all_true : {A : Type 0} (p : A → Bool) (xs : List A) → ((x : A) → Has x xs → p x ≡ true) → list_all p xs ≡ true
all_true p [] f = refl
all_true p (x ∷ xs) f = and_from (p x) (list_all p xs) (f x (inl refl)) (all_true p xs (λ y h. f y (inr h)))

pub all_three : (a b c : Bool) → a ≡ true → b ≡ true → c ≡ true → (a && b && c) ≡ true
all_three a b c p q r = and_from (a && b) c (and_from a b p q) r

pub all_four : (a b c d : Bool) → a ≡ true → b ≡ true → c ≡ true → d ≡ true → (a && b && c && d) ≡ true
all_four a b c d p q r s = and_from (a && b && c) d (all_three a b c p q r) s

pub all_five : (a b c d e : Bool) → a ≡ true → b ≡ true → c ≡ true → d ≡ true → e ≡ true → (a && b && c && d && e) ≡ true
all_five a b c d e p q r s t = and_from (a && b && c && d) e (all_four a b c d p q r s) t

pub same_mark_from : (a b : Bool) → a ≡ b → same_mark a b ≡ true
same_mark_from true b e = sym e
same_mark_from false b e = ap not (sym e)

-- ---- the row of a server

row_found : (rows : List VectorRow) (v : VectorRow) (s : ℕ) → Has v rows → v.server ≡ s → ((u : VectorRow) → Has u rows → u.server ≡ s → u ≡ v) → vector_in rows s ≡ v
row_found [] v s h e one = absurd h
row_found (u ∷ rows) v s h e one = go (eqb u.server s) refl h (λ g. row_found rows v s g e (λ x k. one x (inr k)))
  where
    go : (b : Bool) → eqb u.server s ≡ b → Has v (u ∷ rows) → (Has v rows → vector_in rows s ≡ v) → cond b u (vector_in rows s) ≡ v
    go true t g ih = one u (inl refl) (eqb-true u.server s t)
    go false t (inl same) ih = absurd (true≢false (sym (eq-eqb u.server s (ap (λ (x : VectorRow). x.server) (sym same) ∙ e)) ∙ t))
    go false t (inr g) ih = ih g

row_missing : (rows : List VectorRow) (s : ℕ) → ((u : VectorRow) → Has u rows → u.server ≡ s → ⊥) → vector_in rows s ≡ record { server = s; count = 0; last_time = 0; committed = 0 }
row_missing [] s none = refl
row_missing (u ∷ rows) s none =
    cond-false (eqb u.server s) u (vector_in rows s) (false_from_ne_true (eqb u.server s) (λ e. none u (inl refl) (eqb-true u.server s e)))
    ∙ row_missing rows s (λ x k. none x (inr k))

no_times : (ws : List Write) → length ws ≡ 0 → greatest (map (λ w. w.stamp.time) ws) ≡ 0
no_times [] e = refl
no_times (w ∷ ws) e = absurd (let n : suc (length ws) ≡ 0 = e in omega (arith, n))

pub vector-at : (r : Replica) (s : ℕ) → IsReplica r → vector_in (tables_of r).vector s ≡ vector_entry r s
vector-at r s h = go (cases_eq (count_of r s) 0)
  where
    go : (count_of r s ≡ 0) ⊎ (count_of r s ≡ 0 → ⊥) → vector_in (tables_of r).vector s ≡ vector_entry r s
    go (inl z) =
        let time : last_time r s ≡ 0 = no_times (writes_of s r.known) z in
        let known : committed_count r s ≤ count_of r s = h.commits_known s in
        let commits : committed_count r s ≡ 0 = omega (arith, known, z) in
        row_missing (tables_of r).vector s
        (λ u k e. let p = ((rows_of_known r h).vector u).0 k in p.0 (ap (count_of r) e ∙ z))
        ∙ (λ i. record { server = s; count = sym z i; last_time = sym time i; committed = sym commits i })
    go (inr ne) =
        row_found (tables_of r).vector (vector_entry r s) s (((rows_of_known r h).vector (vector_entry r s)).1 (ne, refl)) refl
        (λ u k e. let p = ((rows_of_known r h).vector u).0 k in p.1 ∙ ap (vector_entry r) e)

pub counted : (r : Replica) (w : Write) → IsReplica r → Has w r.known → is_counted (tables_of r) (id_of w) ≡ true
counted r w h a =
    let b = known_bounds r w h a in
    let low : 1 ≤ w.stamp.n = b.0 in
    let high : w.stamp.n ≤ count_of r w.stamp.server = b.1 in
    ap (λ (v : VectorRow). within 1 v.count w.stamp.n) (vector-at r w.stamp.server h)
    ∙ and_from (leb 1 w.stamp.n) (leb w.stamp.n (count_of r w.stamp.server)) (le-leb 1 w.stamp.n low) (le-leb w.stamp.n (count_of r w.stamp.server) high)

-- a write is committed just where it is among the first of its server
pub first-committed : (r : Replica) (id : Id) → IsReplica r → 1 ≤ id.n → is_first (tables_of r) id ≡ is_committed r id
first-committed r id h low =
    ap (λ (v : VectorRow). leb id.n v.committed) (vector-at r id.server h) ∙ go (leb id.n (committed_count r id.server)) refl
    ∙ sym (among-has id r.commits ∙ ap (Rattle.mr_model.proofs.CommitsKeep.has id.n) (numbered_commits r id.server h))
  where
    go : (b : Bool) → leb id.n (committed_count r id.server) ≡ b → b ≡ Rattle.mr_model.proofs.CommitsKeep.has id.n (numbers_on 1 (length (commits_of id.server r.commits)))
    go true e = let l = leb-true id.n (committed_count r id.server) e in sym (has_within id.n 1 (length (commits_of id.server r.commits)) low (omega (arith, l)))
    go false e = let l = Rattle.std.proofs.Common.leb-false id.n (committed_count r id.server) e in sym (has_not id.n 1 (length (commits_of id.server r.commits)) (omega (arith, l)))

pub known_first : (r : Replica) (w : Write) → IsReplica r → Has w r.known → is_first (tables_of r) (id_of w) ≡ is_committed r (id_of w)
known_first r w h a = first-committed r (id_of w) h (known_bounds r w h a).0

-- ---- meta and the vector

pub below_greatest : (n : ℕ) (ns : List ℕ) → Has n ns → n ≤ greatest ns
below_greatest n [] h = absurd h
below_greatest n (m ∷ ms) (inl e) = omega (arith, e)
below_greatest n (m ∷ ms) (inr h) = let l : n ≤ greatest ms = below_greatest n ms h in omega (arith, l)

pub greatest_below : (g : ℕ) (ns : List ℕ) → ((n : ℕ) → Has n ns → n ≤ g) → greatest ns ≤ g
greatest_below g [] f = omega arith
greatest_below g (m ∷ ms) f =
    let first : m ≤ g = f m (inl refl) in
    let rest : greatest ms ≤ g = greatest_below g ms (λ n h. f n (inr h)) in
    omega (arith, first, rest)

abbrev pub time_of : Write → ℕ
time_of w = w.stamp.time

last_before : (a : Replica) (s : ℕ) → last_time a s ≤ clock_of a
last_before a s =
    greatest_below (clock_of a) (map time_of (writes_of s a.known))
    (λ n h.
    let (w, g, e) = map_has time_of n (writes_of s a.known) h in
    subst (λ m. m ≤ clock_of a) (sym e) (below_greatest w.stamp.time (map time_of a.known) (has_map time_of w a.known (filter_has (λ v. eqb v.stamp.server s) w a.known g).0)))

some_there : (w : Write) (ws : List Write) → Has w ws → length ws ≡ 0 → ⊥
some_there w [] h e = h
some_there w (v ∷ vs) h e = let n : suc (length vs) ≡ 0 = e in omega (arith, n)

pub known_counts : (r : Replica) (w : Write) → Has w r.known → count_of r w.stamp.server ≡ 0 → ⊥
known_counts r w a = some_there w (writes_of w.stamp.server r.known) (own_has_at w.stamp.server w r.known refl a)

-- no known write of a server is later than its last
pub late : (r : Replica) (w : Write) → Has w r.known → w.stamp.time ≤ last_time r w.stamp.server
late r w a = below_greatest w.stamp.time (map time_of (writes_of w.stamp.server r.known)) (has_map time_of w (writes_of w.stamp.server r.known) (own_has_at w.stamp.server w r.known refl a))

latest : (a : Replica) → IsReplica a → clock_of a ≡ greatest (map (λ (r : VectorRow). r.last_time) (tables_of a).vector)
latest a h = omega (arith, there, back)
  where
    back : greatest (map (λ (r : VectorRow). r.last_time) (tables_of a).vector) ≤ clock_of a
    back =
        greatest_below (clock_of a) (map (λ (r : VectorRow). r.last_time) (tables_of a).vector)
        (λ n g.
        let (row, b, e) = map_has (λ (r : VectorRow). r.last_time) n (tables_of a).vector g in
        let (some, f) = ((rows_of_known a h).vector row).0 b in
        let last : row.last_time ≡ last_time a row.server = ap (λ (r : VectorRow). r.last_time) f in
        let low = last_before a row.server in
        omega (arith, e, last, low))

    there : clock_of a ≤ greatest (map (λ (r : VectorRow). r.last_time) (tables_of a).vector)
    there =
        greatest_below (greatest (map (λ (r : VectorRow). r.last_time) (tables_of a).vector)) (map time_of a.known)
        (λ n g.
        let (w, b, e) = map_has time_of n a.known g in
        let last : w.stamp.time ≤ last_time a w.stamp.server = late a w b in
        let row = ((rows_of_known a h).vector (vector_entry a w.stamp.server)).1 (known_counts a w b, refl) in
        let in_table : last_time a w.stamp.server ≤ greatest (map (λ (r : VectorRow). r.last_time) (tables_of a).vector) =
        below_greatest (last_time a w.stamp.server) (map (λ (r : VectorRow). r.last_time) (tables_of a).vector)
        (has_map (λ (r : VectorRow). r.last_time) (vector_entry a w.stamp.server) (tables_of a).vector row) in
        omega (arith, e, last, in_table))

abbrev of_servers : List Id → List ℕ → List Id
of_servers ids ss = flat_map (λ s. commits_of s ids) ss

sum_committed : (a : Replica) (k n : ℕ) → IsReplica a → sum_by (λ (r : VectorRow). r.committed) (flat_map (vector_row a) (numbers_on k n)) ≡ length (of_servers a.commits (numbers_on k n))
sum_committed a k zero h = refl
sum_committed a k (suc n) h =
    let here = one (eqb (count_of a k) 0) refl in
    let rest = sum_committed a (k + 1) n h in
    sum_by-append (λ (r : VectorRow). r.committed) (vector_row a k) (flat_map (vector_row a) (numbers_on (k + 1) n)) ∙ (λ i. here i + rest i)
    ∙ sym (length-append (commits_of k a.commits) (of_servers a.commits (numbers_on (k + 1) n)))
  where
    one : (b : Bool) → eqb (count_of a k) 0 ≡ b → sum_by (λ (r : VectorRow). r.committed) (cond b [] (vector_entry a k ∷ [])) ≡ committed_count a k
    one true e =
        let none : count_of a k ≡ 0 = eqb-true (count_of a k) 0 e in
        let known = h.commits_known k in
        omega (arith, none, known)
    one false e = let z : 0 + committed_count a k ≡ committed_count a k = omega arith in z

missed : (x : Id) (ids : List Id) (k n : ℕ) → x.server < k → length (of_servers (x ∷ ids) (numbers_on k n)) ≡ length (of_servers ids (numbers_on k n))
missed x ids k zero l = refl
missed x ids k (suc n) l =
    let other = cond-false (eqb x.server k) (x ∷ commits_of k ids) (commits_of k ids) (false_from_ne_true (eqb x.server k) (λ e. let s = eqb-true x.server k e in omega (arith, s, l))) in
    let rest = missed x ids (k + 1) n (omega (arith, l)) in
    length-append (commits_of k (x ∷ ids)) (of_servers (x ∷ ids) (numbers_on (k + 1) n)) ∙ (λ i. length (other i) + rest i)
    ∙ sym (length-append (commits_of k ids) (of_servers ids (numbers_on (k + 1) n)))

counted_once : (x : Id) (ids : List Id) (k n : ℕ) → k ≤ x.server → x.server < k + n → length (of_servers (x ∷ ids) (numbers_on k n)) ≡ suc (length (of_servers ids (numbers_on k n)))
counted_once x ids k zero low high = absurd (omega (arith, low, high))
counted_once x ids k (suc n) low high = go (cases_eq x.server k) (λ l. counted_once x ids (k + 1) n l (let t : x.server < k + suc n = high in omega (arith, t)))
  where
    parts : length (of_servers (x ∷ ids) (numbers_on k (suc n))) ≡ length (commits_of k (x ∷ ids)) + length (of_servers (x ∷ ids) (numbers_on (k + 1) n))
    parts = length-append (commits_of k (x ∷ ids)) (of_servers (x ∷ ids) (numbers_on (k + 1) n))

    others : length (of_servers ids (numbers_on k (suc n))) ≡ length (commits_of k ids) + length (of_servers ids (numbers_on (k + 1) n))
    others = length-append (commits_of k ids) (of_servers ids (numbers_on (k + 1) n))

    go : (x.server ≡ k) ⊎ (x.server ≡ k → ⊥) → (k + 1 ≤ x.server → length (of_servers (x ∷ ids) (numbers_on (k + 1) n)) ≡ suc (length (of_servers ids (numbers_on (k + 1) n))))
        → length (of_servers (x ∷ ids) (numbers_on k (suc n))) ≡ suc (length (of_servers ids (numbers_on k (suc n))))
    go (inl e) ih =
        let here : length (commits_of k (x ∷ ids)) ≡ suc (length (commits_of k ids)) = ap length (cond-true (eqb x.server k) (x ∷ commits_of k ids) (commits_of k ids) (eq-eqb x.server k e)) in
        let rest = missed x ids (k + 1) n (omega (arith, e)) in
        let p = parts in
        let q = others in
        omega (arith, here, rest, p, q)
    go (inr ne) ih =
        let here : length (commits_of k (x ∷ ids)) ≡ length (commits_of k ids) =
        ap length (cond-false (eqb x.server k) (x ∷ commits_of k ids) (commits_of k ids) (false_from_ne_true (eqb x.server k) (λ t. ne (eqb-true x.server k t)))) in
        let rest = ih (omega (arith, low, ne)) in
        let p = parts in
        let q = others in
        omega (arith, here, rest, p, q)

none_at_all : (k n : ℕ) → length (of_servers [] (numbers_on k n)) ≡ 0
none_at_all k zero = refl
none_at_all k (suc n) = none_at_all (k + 1) n

pub all_counted : (ids : List Id) (k n : ℕ) → ((x : Id) → Has x ids → (k ≤ x.server) × (x.server < k + n)) → length (flat_map (λ s. commits_of s ids) (numbers_on k n)) ≡ length ids
all_counted [] k n f = none_at_all k n
all_counted (x ∷ ids) k n f = let b = f x (inl refl) in counted_once x ids k n b.0 b.1 ∙ ap (λ m. suc m) (all_counted ids k n (λ y g. f y (inr g)))

pub commit_server : (r : Replica) (x : Id) → IsReplica r → Has x r.commits → (1 ≤ x.server) × (x.server < 1 + 99)
commit_server r x h g =
    let (w, known, e) = commit_known r x h g in
    let b = server_bounds w (known_write r w h known) in
    let low : 1 ≤ w.stamp.server = b.0 in
    let high : w.stamp.server ≤ 99 = b.1 in
    let same : w.stamp.server ≡ x.server = ap (λ (i : Id). i.server) e in
    (omega (arith, low, same), omega (arith, high, same))

total_committed : (r : Replica) → IsReplica r → length r.commits ≡ sum_by (λ (row : VectorRow). row.committed) (tables_of r).vector
total_committed r h = sym (sum_committed r 1 99 h ∙ all_counted r.commits 1 99 (λ x g. commit_server r x h g))

pub meta_agrees : (r : Replica) → IsReplica r → does_meta_agree (tables_of r) ≡ true
meta_agrees r h =
    all_four (leb r.dropped (length r.commits)) (not (eqb r.server r.primary) || eqb r.dropped 0) (eqb (length r.commits) (sum_by (λ (row : VectorRow). row.committed) (tables_of r).vector))
    (eqb (clock_of r) (greatest (map (λ (row : VectorRow). row.last_time) (tables_of r).vector)))
    (le-leb r.dropped (length r.commits) h.dropped_committed) (go (eqb r.server r.primary) refl)
    (eq-eqb (length r.commits) (sum_by (λ (row : VectorRow). row.committed) (tables_of r).vector) (total_committed r h))
    (eq-eqb (clock_of r) (greatest (map (λ (row : VectorRow). row.last_time) (tables_of r).vector)) (latest r h))
  where
    go : (b : Bool) → eqb r.server r.primary ≡ b → (not b || eqb r.dropped 0) ≡ true
    go true e = eq-eqb r.dropped 0 (h.primary_keeps_all (eqb-true r.server r.primary e))
    go false e = refl

pub counts_agree : (r : Replica) → IsReplica r → do_counts_agree (tables_of r) ≡ true
counts_agree r h = all_true (λ (row : VectorRow). leb 1 row.count && leb row.committed row.count) (tables_of r).vector each
  where
    each : (row : VectorRow) → Has row (tables_of r).vector → (leb 1 row.count && leb row.committed row.count) ≡ true
    each row g =
        let (some, e) = ((rows_of_known r h).vector row).0 g in
        let count : row.count ≡ count_of r row.server = ap (λ (v : VectorRow). v.count) e in
        let committed : row.committed ≡ committed_count r row.server = ap (λ (v : VectorRow). v.committed) e in
        let known = h.commits_known row.server in
        let low : 1 ≤ row.count = at_least (cases_eq row.count 0) (λ z. some (sym count ∙ z)) in
        and_from (leb 1 row.count) (leb row.committed row.count) (le-leb 1 row.count low) (le-leb row.committed row.count (omega (arith, count, committed, known)))
      where
        at_least : (row.count ≡ 0) ⊎ (row.count ≡ 0 → ⊥) → (row.count ≡ 0 → ⊥) → 1 ≤ row.count
        at_least (inl z) f = absurd (f z)
        at_least (inr n) f = omega (arith, n)

-- ---- the rows of what became of writes

-- the known write whose row has this id
pub record IsRowId (r : Replica) (id : Id) : Type 0 where
  pub write : Write
  pub known : Has write r.known
  pub is_id : id_of write ≡ id

pub of_table : {R : Type 0} (r : Replica) (f : PlaceRow → Option R) (key : R → Id) (make : R → PlaceRow) → IsReplica r
    → ((row : R) (q : PlaceRow) → f q ≡ Some row → q ≡ make row) → ((row : R) → row_id (make row) ≡ key row)
    → (row : R) → Has row (filter_map (λ v. f (place_row r v)) (by_id r.known)) → (w : Write) × Has w r.known × (place_row r w ≡ make row) × (id_of w ≡ key row)
of_table r f key make h is same row g =
    let (w, known, e) = known_of f r row g in
    let made = is row (place_row r w) e in
    (w, known, made, sym (one_row r w h known).1 ∙ ap row_id made ∙ same row)

pub of_booking : (r : Replica) (row : BookingRow) → IsReplica r → Has row (tables_of r).booking → (w : Write) × Has w r.known × (place_row r w ≡ Booked row) × (id_of w ≡ booking_id row)
of_booking r row h g = of_table r as_booking booking_id Booked h booked_is (λ x. refl) row g

pub of_error : (r : Replica) (row : ErrorRow) → IsReplica r → Has row (tables_of r).errorlog → (w : Write) × Has w r.known × (place_row r w ≡ Erred row) × (id_of w ≡ error_id row)
of_error r row h g = of_table r as_error error_id Erred h erred_is (λ x. refl) row g

pub of_cancelled : (r : Replica) (row : CancelledRow) → IsReplica r → Has row (tables_of r).cancelled → (w : Write) × Has w r.known × (place_row r w ≡ Cancelled row) × (id_of w ≡ cancelled_id row)
of_cancelled r row h g = of_table r as_cancelled cancelled_id Cancelled h cancelled_is (λ x. refl) row g

pub of_cancel : (r : Replica) (row : CancelRow) → IsReplica r → Has row (tables_of r).cancels → (w : Write) × Has w r.known × (place_row r w ≡ Cancel row) × (id_of w ≡ cancel_id row)
of_cancel r row h g = of_table r as_cancel cancel_id Cancel h cancel_is (λ x. refl) row g

-- an id of one of the four tables
pub data InTable (t : Tables) (id : Id) : Type 0 where
  in_booking : (row : BookingRow) → Has row t.booking → id ≡ booking_id row → InTable t id
  in_errorlog : (row : ErrorRow) → Has row t.errorlog → id ≡ error_id row → InTable t id
  in_cancelled : (row : CancelledRow) → Has row t.cancelled → id ≡ cancelled_id row → InTable t id
  in_cancels : (row : CancelRow) → Has row t.cancels → id ≡ cancel_id row → InTable t id

pub in_table : (t : Tables) (id : Id) → Has id (row_ids t) → InTable t id
in_table t id h = go (has_split id (map booking_id t.booking) (map error_id t.errorlog ++ (map cancelled_id t.cancelled ++ map cancel_id t.cancels)) h)
  where
    last : Has id (map cancelled_id t.cancelled) ⊎ Has id (map cancel_id t.cancels) → InTable t id
    last (inl g) = let (row, k, e) = map_has cancelled_id id t.cancelled g in in_cancelled row k e
    last (inr g) = let (row, k, e) = map_has cancel_id id t.cancels g in in_cancels row k e

    more : Has id (map error_id t.errorlog) ⊎ Has id (map cancelled_id t.cancelled ++ map cancel_id t.cancels) → InTable t id
    more (inl g) = let (row, k, e) = map_has error_id id t.errorlog g in in_errorlog row k e
    more (inr g) = last (has_split id (map cancelled_id t.cancelled) (map cancel_id t.cancels) g)

    go : Has id (map booking_id t.booking) ⊎ Has id (map error_id t.errorlog ++ (map cancelled_id t.cancelled ++ map cancel_id t.cancels)) → InTable t id
    go (inl g) = let (row, k, e) = map_has booking_id id t.booking g in in_booking row k e
    go (inr g) = more (has_split id (map error_id t.errorlog) (map cancelled_id t.cancelled ++ map cancel_id t.cancels) g)

pub row_id_known : (r : Replica) (id : Id) → IsReplica r → Has id (row_ids (tables_of r)) → IsRowId r id
row_id_known r id h g = go (in_table (tables_of r) id g)
  where
    go : InTable (tables_of r) id → IsRowId r id
    go (in_booking row k e) = let (w, known, made, same) = of_booking r row h k in record { write = w; known = known; is_id = same ∙ sym e }
    go (in_errorlog row k e) = let (w, known, made, same) = of_error r row h k in record { write = w; known = known; is_id = same ∙ sym e }
    go (in_cancelled row k e) = let (w, known, made, same) = of_cancelled r row h k in record { write = w; known = known; is_id = same ∙ sym e }
    go (in_cancels row k e) = let (w, known, made, same) = of_cancel r row h k in record { write = w; known = known; is_id = same ∙ sym e }

pub rise_distinct : (ids : List Id) → RiseById ids → Distinct ids
rise_distinct [] s = tt
rise_distinct (x ∷ xs) s = (not_among x xs (λ h. go (all_has (IdBefore x) x xs s.0 h)), rise_distinct xs s.1)
  where
    go : IdBefore x x → ⊥
    go (inl l) = omega (arith, l)
    go (inr p) = omega (arith, p.1)

pub distinct_test : (ids : List Id) → Distinct ids → are_distinct ids ≡ true
distinct_test [] d = refl
distinct_test (x ∷ xs) d = and_from (not (is_among x xs)) (are_distinct xs) (ap not d.0) (distinct_test xs d.1)

-- rows of two tables are not of one write
two_rows : (r : Replica) (v w : Write) (p q : PlaceRow) (i j : Id) → IsReplica r → Has v r.known → Has w r.known → place_row r v ≡ p → place_row r w ≡ q → id_of v ≡ i → id_of w ≡ j → i ≡ j → p ≡ q
two_rows r v w p q i j h a b d e f g s = sym d ∙ ap (place_row r) (one_known r v w h a b (f ∙ s ∙ sym g)) ∙ e

distinct_rows : (r : Replica) → IsReplica r → Distinct (row_ids (tables_of r))
distinct_rows r h =
    distinct_append (map booking_id t.booking) (map error_id t.errorlog ++ (map cancelled_id t.cancelled ++ map cancel_id t.cancels))
    (rise_distinct (map booking_id t.booking) (tables_in_order r h).booking)
    (distinct_append (map error_id t.errorlog) (map cancelled_id t.cancelled ++ map cancel_id t.cancels) (rise_distinct (map error_id t.errorlog) (tables_in_order r h).errorlog)
    (distinct_append (map cancelled_id t.cancelled) (map cancel_id t.cancels) (rise_distinct (map cancelled_id t.cancelled) (tables_in_order r h).cancelled)
    (rise_distinct (map cancel_id t.cancels) (tables_in_order r h).cancels)
    (λ id a b.
    let (x, k, e) = map_has cancelled_id id t.cancelled a in
    let (y, l, f) = map_has cancel_id id t.cancels b in
    let (v, kv, mv, sv) = of_cancelled r x h k in
    let (w, kw, mw, sw) = of_cancel r y h l in
    absurd (let z : Cancelled x ≡ Cancel y = two_rows r v w (Cancelled x) (Cancel y) (cancelled_id x) (cancel_id y) h kv kw mv mw sv sw (sym e ∙ f) in cc)))
    (λ id a b.
    let (x, k, e) = map_has error_id id t.errorlog a in
    let (v, kv, mv, sv) = of_error r x h k in
    errors x id v kv mv (sv ∙ sym e) (has_split id (map cancelled_id t.cancelled) (map cancel_id t.cancels) b)))
    (λ id a b.
    let (x, k, e) = map_has booking_id id t.booking a in
    let (v, kv, mv, sv) = of_booking r x h k in
    bookings x id v kv mv (sv ∙ sym e) (has_split id (map error_id t.errorlog) (map cancelled_id t.cancelled ++ map cancel_id t.cancels) b))
  where
    t : Tables
    t = tables_of r

    errors : (x : ErrorRow) (id : Id) (v : Write) → Has v r.known → place_row r v ≡ Erred x → id_of v ≡ id → Has id (map cancelled_id t.cancelled) ⊎ Has id (map cancel_id t.cancels) → ⊥
    errors x id v kv mv s (inl b) =
        let (y, l, f) = map_has cancelled_id id t.cancelled b in
        let (w, kw, mw, sw) = of_cancelled r y h l in
        absurd (let z : Erred x ≡ Cancelled y = two_rows r v w (Erred x) (Cancelled y) id (cancelled_id y) h kv kw mv mw s sw f in cc)
    errors x id v kv mv s (inr b) =
        let (y, l, f) = map_has cancel_id id t.cancels b in
        let (w, kw, mw, sw) = of_cancel r y h l in
        absurd (let z : Erred x ≡ Cancel y = two_rows r v w (Erred x) (Cancel y) id (cancel_id y) h kv kw mv mw s sw f in cc)

    behind : (x : BookingRow) (id : Id) (v : Write) → Has v r.known → place_row r v ≡ Booked x → id_of v ≡ id → Has id (map cancelled_id t.cancelled) ⊎ Has id (map cancel_id t.cancels) → ⊥
    behind x id v kv mv s (inl b) =
        let (y, l, f) = map_has cancelled_id id t.cancelled b in
        let (w, kw, mw, sw) = of_cancelled r y h l in
        absurd (let z : Booked x ≡ Cancelled y = two_rows r v w (Booked x) (Cancelled y) id (cancelled_id y) h kv kw mv mw s sw f in cc)
    behind x id v kv mv s (inr b) =
        let (y, l, f) = map_has cancel_id id t.cancels b in
        let (w, kw, mw, sw) = of_cancel r y h l in
        absurd (let z : Booked x ≡ Cancel y = two_rows r v w (Booked x) (Cancel y) id (cancel_id y) h kv kw mv mw s sw f in cc)

    bookings : (x : BookingRow) (id : Id) (v : Write) → Has v r.known → place_row r v ≡ Booked x → id_of v ≡ id
        → Has id (map error_id t.errorlog) ⊎ Has id (map cancelled_id t.cancelled ++ map cancel_id t.cancels) → ⊥
    bookings x id v kv mv s (inl b) =
        let (y, l, f) = map_has error_id id t.errorlog b in
        let (w, kw, mw, sw) = of_error r y h l in
        absurd (let z : Booked x ≡ Erred y = two_rows r v w (Booked x) (Erred y) id (error_id y) h kv kw mv mw s sw f in cc)
    bookings x id v kv mv s (inr b) = behind x id v kv mv s (has_split id (map cancelled_id t.cancelled) (map cancel_id t.cancels) b)

-- ---- how many they are

sum_counts : (a : Replica) (k n : ℕ) → sum_by (λ (r : VectorRow). r.count) (flat_map (vector_row a) (numbers_on k n)) ≡ length (flat_map (λ s. writes_of s a.known) (numbers_on k n))
sum_counts a k zero = refl
sum_counts a k (suc n) =
    let here = one (eqb (count_of a k) 0) refl in
    let rest = sum_counts a (k + 1) n in
    sum_by-append (λ (r : VectorRow). r.count) (vector_row a k) (flat_map (vector_row a) (numbers_on (k + 1) n)) ∙ (λ i. here i + rest i)
    ∙ sym (length-append (writes_of k a.known) (flat_map (λ s. writes_of s a.known) (numbers_on (k + 1) n)))
  where
    one : (b : Bool) → eqb (count_of a k) 0 ≡ b → sum_by (λ (r : VectorRow). r.count) (cond b [] (vector_entry a k ∷ [])) ≡ count_of a k
    one true e = sym (eqb-true (count_of a k) 0 e)
    one false e = let z : 0 + count_of a k ≡ count_of a k = omega arith in z

pub total_count : (r : Replica) → sum_by (λ (row : VectorRow). row.count) (tables_of r).vector ≡ length (by_id r.known)
total_count r = sum_counts r 1 99

one_more : (p : PlaceRow) (bs : List BookingRow) (es : List ErrorRow) (gs : List CancelledRow) (cs : List CancelRow)
    → length (cons_option (as_booking p) bs) + length (cons_option (as_error p) es) + length (cons_option (as_cancelled p) gs) + length (cons_option (as_cancel p) cs)
    ≡ suc (length bs + length es + length gs + length cs)
one_more (Booked row) bs es gs cs = omega arith
one_more (Erred row) bs es gs cs = omega arith
one_more (Cancelled row) bs es gs cs = omega arith
one_more (Cancel row) bs es gs cs = omega arith

one_each : (a : Replica) (ws : List Write)
    → length (filter_map (booking_row a) ws) + length (filter_map (error_row a) ws) + length (filter_map (cancelled_row a) ws) + length (filter_map (cancel_row a) ws) ≡ length ws
one_each a [] = refl
one_each a (w ∷ ws) =
    one_more (place_row a w) (filter_map (booking_row a) ws) (filter_map (error_row a) ws) (filter_map (cancelled_row a) ws) (filter_map (cancel_row a) ws)
    ∙ ap (λ n. suc n) (one_each a ws)

all_rows : (r : Replica) → length (row_ids (tables_of r)) ≡ length (by_id r.known)
all_rows r = go (tables_of r) (one_each r (by_id r.known))
  where
    go : (t : Tables) → length t.booking + length t.errorlog + length t.cancelled + length t.cancels ≡ length (by_id r.known) → length (row_ids t) ≡ length (by_id r.known)
    go t e =
        let a = length-append (map booking_id t.booking) (map error_id t.errorlog ++ (map cancelled_id t.cancelled ++ map cancel_id t.cancels)) in
        let b = length-append (map error_id t.errorlog) (map cancelled_id t.cancelled ++ map cancel_id t.cancels) in
        let c = length-append (map cancelled_id t.cancelled) (map cancel_id t.cancels) in
        let p = length-map t.booking booking_id in
        let q = length-map t.errorlog error_id in
        let u = length-map t.cancelled cancelled_id in
        let v = length-map t.cancels cancel_id in
        omega (arith, a, b, c, p, q, u, v, e)

pub ids_agree : (r : Replica) → IsReplica r → do_ids_agree (tables_of r) ≡ true
ids_agree r h =
    all_three (list_all (is_counted (tables_of r)) (row_ids (tables_of r))) (are_distinct (row_ids (tables_of r)))
    (eqb (length (row_ids (tables_of r))) (sum_by (λ (row : VectorRow). row.count) (tables_of r).vector))
    (all_true (is_counted (tables_of r)) (row_ids (tables_of r)) (λ id g. let k = row_id_known r id h g in subst (λ i. is_counted (tables_of r) i ≡ true) k.is_id (counted r k.write h k.known)))
    (distinct_test (row_ids (tables_of r)) (distinct_rows r h))
    (eq-eqb (length (row_ids (tables_of r))) (sum_by (λ (row : VectorRow). row.count) (tables_of r).vector) (all_rows r ∙ sym (total_count r)))
