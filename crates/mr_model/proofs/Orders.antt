-- What a write more and a commit change of the order, and of the places.
use Rattle.std.proofs.Common.{◌≡◌, refl, sym, ap, ◌∙◌, subst, ℕ, zero, suc, ◌+◌, ◌<◌, ◌≤◌, Bool, true, false, not, cond, ◌||◌, List, [], ◌∷◌}
use Rattle.std.proofs.Common.{◌++◌, length, map, take, drop, ◌⊎◌, inl, inr, arith, append_assoc, le_refl, IsTrue, Option, Some, None}
use Rattle.std.proofs.lemmas.Bool.{not-false, or_left, cond-true, cond-false, false_from_ne_true}
use Rattle.std.proofs.lemmas.List.{map-append, length-map}
use Rattle.std.proofs.lemmas.List.Elements.{filter-append, filter_map-append}
use Rattle.std.specs.List.{AllByRecursion, filter, filter_map, cons_option}
use Rattle.mr_model.specs.Writes.{Id, Stamp, Write, id_of, same_id, is_write, stamp_before}
use Rattle.mr_model.specs.Replica.{Replica, count_of, clock_of, last_time, knows_room, commits_of, committed_count, is_among, is_committed}
use Rattle.mr_model.specs.Replica.{write_with, committed, tentative, order_of, with_write, add_write, add_commit, IsReplica}
use Rattle.std.specs.Str.{bytes_eq}
use Rattle.mr_model.specs.Texts.{Text}
use Rattle.mr_model.specs.Refusals.{first_refusal}
use Rattle.mr_model.specs.Step.{Submission, submit_faults, cancel_faults, next_stamp, write_of, cancel_write}
use Rattle.mr_model.specs.Laws.{fate_of}
use Rattle.mr_model.specs.View.{of_room, view_of, whole_list, place_of}
use Rattle.mr_model.specs.Board.{place_on, replay_on, board_replay, board_after}
use Rattle.mr_model.specs.Dropped.{Has}
use Rattle.mr_model.specs.Changes.{IsNext, WriteInserted, CommitMoved, after_commit}
use Rattle.mr_model.proofs.OrderedSets.{before-true, Before, greatest_bound}
use Rattle.mr_model.proofs.ChangesKeep.{keeps-add_write, keeps-add_commit}
use Rattle.mr_model.proofs.Members.{has_left, has_right, has_filter, has_map, all_has, has_all, Sorted, Distinct}
use Rattle.mr_model.proofs.Members.{distinct_parts, among_not, not_among, has_among, take_drop, same_id-true, same_id_refl}
use Rattle.mr_model.proofs.KnownById.{known_bounds, commit_known, numbered_bounds, numbered_commits, own_id, known_at, with_id, tentative_known, tentative_sorted, distinct_order}
use Rattle.mr_model.proofs.WithWrite.{filter-with_write, find-with_write}
use Rattle.mr_model.proofs.StepsKeep.{last_below_clock, times_below, none_apply, submitted_within, cancelled_within}
use Rattle.mr_model.proofs.CalendarsShow.{fates_by_order}
use Rattle.mr_model.proofs.RoomsApart.{replay_on-append}
use Rattle.mr_model.proofs.PlacesOfOrder.{order-places, known_in_order, length-replay_on, map_at, append_parts}

pub filter_map_same : {A B : Type 0} (f g : A → Option B) (xs : List A) → ((x : A) → Has x xs → f x ≡ g x) → filter_map f xs ≡ filter_map g xs
filter_map_same f g [] e = refl
filter_map_same f g (x ∷ xs) e = ap (λ o. cons_option o (filter_map f xs)) (e x (inl refl)) ∙ ap (λ ys. cons_option (g x) ys) (filter_map_same f g xs (λ y h. e y (inr h)))

pub among-append : (id : Id) (xs ys : List Id) → is_among id (xs ++ ys) ≡ (is_among id xs || is_among id ys)
among-append id [] ys = refl
among-append id (x ∷ xs) ys = go (same_id id x) (among-append id xs ys)
  where
    go : (b : Bool) → is_among id (xs ++ ys) ≡ (is_among id xs || is_among id ys) → (b || is_among id (xs ++ ys)) ≡ ((b || is_among id xs) || is_among id ys)
    go true e = refl
    go false e = e

-- ---- a write more at a replica

pub added : (r : Replica) (w : Write) → IsReplica r → IsNext r w → IsReplica (add_write r w)
added r w h n = keeps-add_write r w h n.is_write n.number n.late

pub new_id : (r : Replica) (w v : Write) → IsReplica r → IsNext r w → Has v r.known → id_of v ≡ id_of w → ⊥
new_id r w v h next a e =
    let b = known_bounds r v h a in
    let top : v.stamp.n ≤ count_of r v.stamp.server = b.1 in
    let s : v.stamp.server ≡ w.stamp.server = ap (λ (i : Id). i.server) e in
    let n : v.stamp.n ≡ w.stamp.n = ap (λ (i : Id). i.n) e in
    let same : count_of r v.stamp.server ≡ count_of r w.stamp.server = ap (count_of r) s in
    let new : w.stamp.n ≡ count_of r w.stamp.server + 1 = next.number in
    omega (arith, top, n, same, new)

pub new_not_committed : (r : Replica) (w : Write) → IsReplica r → IsNext r w → Has (id_of w) r.commits → ⊥
new_not_committed r w h next c = let (v, a, e) = commit_known r (id_of w) h c in new_id r w v h next a e

pub with-add_write : (r : Replica) (w : Write) (id : Id) → IsReplica r → IsNext r w → write_with (add_write r w) id ≡ cond (same_id (id_of w) id) (Some w) (write_with r id)
with-add_write r w id h next =
    find-with_write (λ v. same_id (id_of v) id) w r.known
    (λ t v a. false_from_ne_true (same_id (id_of v) id) (λ s. new_id r w v h next a (same_id-true (id_of v) id s ∙ sym (same_id-true (id_of w) id t))))

pub tentative-add_write : (r : Replica) (w : Write) → IsReplica r → IsNext r w → tentative (add_write r w) ≡ with_write w (tentative r)
tentative-add_write r w h next =
    filter-with_write (λ v. not (is_committed r (id_of v))) w r.known h.in_stamp_order (ap not (not_among (id_of w) r.commits (new_not_committed r w h next)))

pub committed-with : (r : Replica) (w : Write) (ids : List Id) → IsReplica r → IsNext r w
    → ((id : Id) → Has id ids → Has id r.commits) → filter_map (write_with (add_write r w)) ids ≡ filter_map (write_with r) ids
committed-with r w ids h next inside =
    filter_map_same (write_with (add_write r w)) (write_with r) ids
    (λ id a. with-add_write r w id h next ∙ cond-false (same_id (id_of w) id) (Some w) (write_with r id)
    (false_from_ne_true (same_id (id_of w) id) (λ s. new_not_committed r w h next (subst (λ i. Has i r.commits) (sym (same_id-true (id_of w) id s)) (inside id a)))))

filter_or : {A : Type 0} (p q pq : A → Bool) (xs : List A) → ((x : A) → pq x ≡ (p x || q x)) → filter (λ x. not (pq x)) xs ≡ filter (λ x. not (q x)) (filter (λ x. not (p x)) xs)
filter_or p q pq [] e = refl
filter_or p q pq (x ∷ xs) e =
    ap (λ b. cond (not b) (x ∷ filter (λ y. not (pq y)) xs) (filter (λ y. not (pq y)) xs)) (e x)
    ∙ ap (λ ys. cond (not (p x || q x)) (x ∷ ys) ys) (filter_or p q pq xs e) ∙ go (p x)
  where
    go : (b : Bool) → cond (not (b || q x)) (x ∷ filter (λ y. not (q y)) (filter (λ y. not (p y)) xs)) (filter (λ y. not (q y)) (filter (λ y. not (p y)) xs))
        ≡ filter (λ y. not (q y)) (cond (not b) (x ∷ filter (λ y. not (p y)) xs) (filter (λ y. not (p y)) xs))
    go true = refl
    go false = refl

abbrev pub with_commits : Replica → List Id → Replica
with_commits r ids = record r { commits = r.commits ++ ids }

pub tentative-commits : (r : Replica) (ids : List Id) → tentative (with_commits r ids) ≡ filter (λ w. not (is_among (id_of w) ids)) (tentative r)
tentative-commits r ids =
    filter_or (λ (w : Write). is_among (id_of w) r.commits) (λ w. is_among (id_of w) ids) (λ w. is_among (id_of w) (r.commits ++ ids)) r.known (λ w. among-append (id_of w) r.commits ids)

-- ---- a submission

put_last : (w : Write) (ws : List Write) → AllByRecursion (λ v. v.stamp.time < w.stamp.time) ws → with_write w ws ≡ ws ++ w ∷ []
put_last w [] a = refl
put_last w (x ∷ xs) a =
    cond-false (stamp_before w x) (w ∷ x ∷ xs) (x ∷ with_write w xs) (false_from_ne_true (stamp_before w x) (λ e. go (before-true w x e)))
    ∙ ap (λ (vs : List Write). x ∷ vs) (put_last w xs a.1)
  where
    early : x.stamp.time < w.stamp.time
    early = a.0

    go : Before w x → ⊥
    go (inl t) = omega (arith, t, early)
    go (inr t) = let e = t.0 in omega (arith, e, early)

pub order-submit : (r : Replica) (w : Write) → IsReplica r → IsNext r w → clock_of r < w.stamp.time → order_of (add_write r w) ≡ order_of r ++ w ∷ []
order-submit r w h n late =
    let early : AllByRecursion (λ v. v.stamp.time < w.stamp.time) (tentative r) =
    has_all (λ v. v.stamp.time < w.stamp.time) (tentative r)
    (λ v a. let t : v.stamp.time ≤ clock_of r = all_has (λ u. u.stamp.time ≤ clock_of r) v r.known (greatest_bound (clock_of r) r.known (le_refl (clock_of r))) (tentative_known r v a).0 in
    omega (arith, t, late)) in
    ap (λ ws. committed (add_write r w) ++ ws) (tentative-add_write r w h n ∙ put_last w (tentative r) early)
    ∙ ap (λ ws. ws ++ (tentative r ++ w ∷ [])) (committed-with r w r.commits h n (λ id a. a))
    ∙ sym (append_assoc (committed r) (tentative r) (w ∷ []))

pub places-submit : (r : Replica) (w : Write) → IsReplica r → IsNext r w → clock_of r < w.stamp.time
    → (map (place_of (add_write r w)) (order_of r) ≡ map (place_of r) (order_of r)) × (place_of (add_write r w) w ≡ place_on (board_after [] (order_of r)) w)
places-submit r w h n late =
    append_parts (map (place_of (add_write r w)) (order_of r)) (map (place_of r) (order_of r)) (place_of (add_write r w) w) (place_on (board_after [] (order_of r)) w)
    (length-map (order_of r) (place_of (add_write r w)) ∙ sym (length-map (order_of r) (place_of r)))
    (sym (map-append (place_of (add_write r w)) (order_of r) (w ∷ []))
    ∙ ap (map (place_of (add_write r w))) (sym (order-submit r w h n late))
    ∙ order-places (add_write r w) (added r w h n)
    ∙ ap board_replay (order-submit r w h n late)
    ∙ replay_on-append [] (order_of r) (w ∷ [])
    ∙ ap (λ ps. ps ++ place_on (board_after [] (order_of r)) w ∷ []) (sym (order-places r h)))

pub place-submit : (r : Replica) (w v : Write) → IsReplica r → IsNext r w → clock_of r < w.stamp.time → Has v r.known → place_of (add_write r w) v ≡ place_of r v
place-submit r w v h n late a = map_at (place_of (add_write r w)) (place_of r) v (order_of r) (places-submit r w h n late).0 (in_order v a)
  where
    in_order : (x : Write) → Has x r.known → Has x (order_of r)
    in_order x b = go (known_in_order r x h b)
      where
        go : Has x (committed r) ⊎ Has x (tentative r) → Has x (order_of r)
        go (inl g) = has_left x (committed r) (tentative r) g
        go (inr g) = has_right x (committed r) (tentative r) g

-- ---- a commit of the first k

without_front : (k : ℕ) (ws : List Write) → Distinct (map id_of ws) → filter (λ w. not (is_among (id_of w) (map id_of (take k ws)))) ws ≡ drop k ws
without_front zero ws d = all ws
  where
    all : (vs : List Write) → filter (λ w. not false) vs ≡ vs
    all [] = refl
    all (v ∷ vs) = ap (λ (us : List Write). v ∷ us) (all vs)
without_front (suc k) [] d = refl
without_front (suc k) (w ∷ ws) d =
    cond-false (not (same_id (id_of w) (id_of w) || is_among (id_of w) (map id_of (take k ws))))
    (w ∷ filter (λ v. not (is_among (id_of v) (id_of w ∷ map id_of (take k ws)))) ws) (filter (λ v. not (is_among (id_of v) (id_of w ∷ map id_of (take k ws)))) ws)
    (ap not (or_left (same_id (id_of w) (id_of w)) (is_among (id_of w) (map id_of (take k ws))) (same_id_refl (id_of w))))
    ∙ without_it ws (λ v a. a) ∙ without_front k ws d.1
  where
    other : (v : Write) → Has v ws → same_id (id_of v) (id_of w) ≡ false
    other v a = false_from_ne_true (same_id (id_of v) (id_of w))
        (λ e. among_not (id_of w) (map id_of ws) d.0 (subst (λ i. Has i (map id_of ws)) (same_id-true (id_of v) (id_of w) e) (has_map id_of v ws a)))

    without_it : (vs : List Write) → ((v : Write) → Has v vs → Has v ws)
        → filter (λ v. not (is_among (id_of v) (id_of w ∷ map id_of (take k ws)))) vs ≡ filter (λ v. not (is_among (id_of v) (map id_of (take k ws)))) vs
    without_it [] f = refl
    without_it (v ∷ vs) f =
        ap (λ b. cond (not (b || is_among (id_of v) (map id_of (take k ws)))) (v ∷ filter (λ u. not (is_among (id_of u) (id_of w ∷ map id_of (take k ws)))) vs)
        (filter (λ u. not (is_among (id_of u) (id_of w ∷ map id_of (take k ws)))) vs)) (other v (f v (inl refl)))
        ∙ ap (λ us. cond (not (is_among (id_of v) (map id_of (take k ws)))) (v ∷ us) us) (without_it vs (λ u a. f u (inr a)))

pub tentative-commit : (r : Replica) (k : ℕ) → IsReplica r → tentative (with_commits r (map id_of (take k (tentative r)))) ≡ drop k (tentative r)
tentative-commit r k h =
    tentative-commits r (map id_of (take k (tentative r)))
    ∙ without_front k (tentative r) (distinct_parts (map id_of (committed r)) (map id_of (tentative r)) (distinct_order r h)).1

found_back : (r : Replica) (ws : List Write) → IsReplica r → ((w : Write) → Has w ws → Has w r.known) → filter_map (write_with r) (map id_of ws) ≡ ws
found_back r [] h f = refl
found_back r (w ∷ ws) h f =
    ap (λ o. cons_option o (filter_map (write_with r) (map id_of ws))) (with_id r w (id_of w) h (f w (inl refl)) refl)
    ∙ ap (λ (vs : List Write). w ∷ vs) (found_back r ws h (λ v a. f v (inr a)))

pub taken_has : {A : Type 0} (k : ℕ) (x : A) (xs : List A) → Has x (take k xs) → Has x xs
taken_has zero x xs h = absurd h
taken_has (suc k) x [] h = absurd h
taken_has (suc k) x (y ∷ ys) (inl e) = inl e
taken_has (suc k) x (y ∷ ys) (inr h) = inr (taken_has k x ys h)

pub committed-commit : (r : Replica) (k : ℕ) → IsReplica r → committed (with_commits r (map id_of (take k (tentative r)))) ≡ committed r ++ take k (tentative r)
committed-commit r k h =
    filter_map-append (write_with r) r.commits (map id_of (take k (tentative r)))
    ∙ ap (λ ws. committed r ++ ws) (found_back r (take k (tentative r)) h (λ w a. (tentative_known r w (taken_has k w (tentative r) a)).0))

pub order-commit : (r : Replica) (k : ℕ) → IsReplica r → order_of (with_commits r (map id_of (take k (tentative r)))) ≡ order_of r
order-commit r k h =
    ap (λ ws. committed (with_commits r (map id_of (take k (tentative r)))) ++ ws) (tentative-commit r k h)
    ∙ ap (λ ws. ws ++ drop k (tentative r)) (committed-commit r k h)
    ∙ append_assoc (committed r) (take k (tentative r)) (drop k (tentative r))
    ∙ ap (λ ws. committed r ++ ws) (take_drop k (tentative r))

pub place-commit : (r : Replica) (k : ℕ) (v : Write) → IsReplica r → IsReplica (with_commits r (map id_of (take k (tentative r))))
    → Has v r.known → place_of (with_commits r (map id_of (take k (tentative r)))) v ≡ place_of r v
place-commit r k v h g a = map_at (place_of new) (place_of r) v (order_of r) all (in_order (known_in_order r v h a))
  where
    new : Replica
    new = with_commits r (map id_of (take k (tentative r)))

    all : map (place_of (with_commits r (map id_of (take k (tentative r))))) (order_of r) ≡ map (place_of r) (order_of r)
    all =
        ap (map (place_of (with_commits r (map id_of (take k (tentative r)))))) (sym (order-commit r k h))
        ∙ order-places (with_commits r (map id_of (take k (tentative r)))) g ∙ ap board_replay (order-commit r k h) ∙ sym (order-places r h)

    in_order : Has v (committed r) ⊎ Has v (tentative r) → Has v (order_of r)
    in_order (inl b) = has_left v (committed r) (tentative r) b
    in_order (inr b) = has_right v (committed r) (tentative r) b

pub append_split : {A : Type 0} (xs ys us vs : List A) → length xs ≡ length ys → xs ++ us ≡ ys ++ vs → (xs ≡ ys) × (us ≡ vs)
append_split [] [] us vs l e = (refl, e)
append_split [] (y ∷ ys) us vs l e = absurd (let t : 0 ≡ suc (length ys) = l in omega (arith, t))
append_split (x ∷ xs) [] us vs l e = absurd (let t : suc (length xs) ≡ 0 = l in omega (arith, t))
append_split (x ∷ xs) (y ∷ ys) us vs l e =
    let t : suc (length xs) ≡ suc (length ys) = l in
    let k : x ∷ (xs ++ us) ≡ y ∷ (ys ++ vs) = e in
    let here : x ≡ y = (cc) in
    let there : xs ++ us ≡ ys ++ vs = (cc) in
    let p = append_split xs ys us vs (omega (arith, t)) there in
    ((λ i. here i ∷ p.0 i), p.1)

-- two orders with one front: its writes have the same places, and the later ones are executed on its board
fronts_agree : (r new : Replica) (front more other : List Write) → IsReplica r → IsReplica new → order_of r ≡ front ++ other → order_of new ≡ front ++ more
    → (map (place_of new) front ≡ map (place_of r) front) × (map (place_of new) more ≡ replay_on (board_after [] front) more)
fronts_agree r new front more other h k was is = (p.0 ∙ sym q.0, p.1)
  where
    parts : (x : Replica) (rest : List Write) → IsReplica x → order_of x ≡ front ++ rest
        → (map (place_of x) front ≡ replay_on [] front) × (map (place_of x) rest ≡ replay_on (board_after [] front) rest)
    parts x rest g e =
        append_split (map (place_of x) front) (replay_on [] front) (map (place_of x) rest) (replay_on (board_after [] front) rest)
        (length-map front (place_of x) ∙ sym (length-replay_on [] front))
        (sym (map-append (place_of x) front rest) ∙ ap (map (place_of x)) (sym e) ∙ order-places x g ∙ ap board_replay e ∙ replay_on-append [] front rest)

    p : (map (place_of new) front ≡ replay_on [] front) × (map (place_of new) more ≡ replay_on (board_after [] front) more)
    p = parts new more k is

    q : (map (place_of r) front ≡ replay_on [] front) × (map (place_of r) other ≡ replay_on (board_after [] front) other)
    q = parts r other h was

-- ---- a write

put_between : (w : Write) (ws : List Write) → (xs : List Write) × (ys : List Write) × (ws ≡ xs ++ ys) × (with_write w ws ≡ xs ++ w ∷ ys)
put_between w [] = ([], [], refl, refl)
put_between w (x ∷ xs) = go (stamp_before w x) (put_between w xs)
  where
    go : (b : Bool) → (us : List Write) × (vs : List Write) × (xs ≡ us ++ vs) × (with_write w xs ≡ us ++ w ∷ vs)
        → (us : List Write) × (vs : List Write) × (x ∷ xs ≡ us ++ vs) × (cond b (w ∷ x ∷ xs) (x ∷ with_write w xs) ≡ us ++ w ∷ vs)
    go true p = ([], x ∷ xs, refl, refl)
    go false (us, vs, e, f) = (x ∷ us, vs, ap (λ zs. x ∷ zs) e, ap (λ zs. x ∷ zs) f)

sorted_around : {A : Type 0} (P : A → A → Type 0) (w : A) (xs ys : List A) → Sorted P (xs ++ w ∷ ys) → AllByRecursion (λ x. P x w) xs × AllByRecursion (P w) ys
sorted_around P w [] ys s = (tt, s.0)
sorted_around P w (x ∷ xs) ys s =
    let p = sorted_around P w xs ys s.1 in
    ((all_has (P x) w (xs ++ w ∷ ys) s.0 (has_right w xs (w ∷ ys) (inl refl)), p.0), p.1)

-- the next write of a server comes among the tentative ones by its stamp
pub write_inserted : (r : Replica) (w : Write) → IsReplica r → IsNext r w → WriteInserted r w
write_inserted r w h n =
    let (xs, ys, was, is) = put_between w (tentative r) in
    let now : tentative (add_write r w) ≡ xs ++ w ∷ ys = tentative-add_write r w h n ∙ is in
    let same : committed (add_write r w) ≡ committed r = committed-with r w r.commits h n (λ id a. a) in
    let k = added r w h n in
    let around = sorted_around (λ a b. IsTrue (stamp_before a b)) w xs ys (subst (λ zs. Sorted (λ a b. IsTrue (stamp_before a b)) zs) now (tentative_sorted (add_write r w) k)) in
    let agree =
    fronts_agree r (add_write r w) (committed r ++ xs) (w ∷ ys) ys h k
    (ap (λ zs. committed r ++ zs) was ∙ sym (append_assoc (committed r) xs ys))
    (ap (λ zs. zs ++ tentative (add_write r w)) same ∙ ap (λ zs. committed r ++ zs) now ∙ sym (append_assoc (committed r) xs (w ∷ ys))) in
    record {
      before = xs;
      behind = ys;
      was = was;
      tentative_is = now;
      committed_is = same;
      all_before = around.0;
      all_behind = around.1;
      places_before = agree.0;
      places_behind = agree.1;
    }

-- ---- a commit

has_between : (x : Write) (ws : List Write) → Has x ws → (xs : List Write) × (ys : List Write) × (ws ≡ xs ++ x ∷ ys)
has_between x [] h = absurd h
has_between x (w ∷ ws) (inl e) = ([], ws, ap (λ (v : Write). v ∷ ws) (sym e))
has_between x (w ∷ ws) (inr h) = let (xs, ys, e) = has_between x ws h in (w ∷ xs, ys, ap (λ zs. w ∷ zs) e)

without_id : (id : Id) (ws : List Write) → ((w : Write) → Has w ws → id_of w ≡ id → ⊥) → filter (λ w. not (is_among (id_of w) (id ∷ []))) ws ≡ ws
without_id id [] f = refl
without_id id (w ∷ ws) f =
    cond-true (not (is_among (id_of w) (id ∷ []))) (w ∷ filter (λ v. not (is_among (id_of v) (id ∷ []))) ws) (filter (λ v. not (is_among (id_of v) (id ∷ []))) ws)
    (ap not (not_among (id_of w) (id ∷ []) other))
    ∙ ap (λ (vs : List Write). w ∷ vs) (without_id id ws (λ v a. f v (inr a)))
  where
    other : Has (id_of w) (id ∷ []) → ⊥
    other (inl e) = f w (inl refl) e
    other (inr a) = a

without_between : (x : Write) (xs ys : List Write) → Distinct (map id_of (xs ++ x ∷ ys)) → filter (λ w. not (is_among (id_of w) (id_of x ∷ []))) (xs ++ x ∷ ys) ≡ xs ++ ys
without_between x [] ys d =
    cond-false (not (is_among (id_of x) (id_of x ∷ []))) (x ∷ filter (λ v. not (is_among (id_of v) (id_of x ∷ []))) ys) (filter (λ v. not (is_among (id_of v) (id_of x ∷ []))) ys)
    (ap not (has_among (id_of x) (id_of x ∷ []) (inl refl)))
    ∙ without_id (id_of x) ys (λ v a e. among_not (id_of x) (map id_of ys) d.0 (subst (λ i. Has i (map id_of ys)) e (has_map id_of v ys a)))
without_between x (w ∷ xs) ys d =
    cond-true (not (is_among (id_of w) (id_of x ∷ []))) (w ∷ filter (λ v. not (is_among (id_of v) (id_of x ∷ []))) (xs ++ x ∷ ys))
    (filter (λ v. not (is_among (id_of v) (id_of x ∷ []))) (xs ++ x ∷ ys))
    (ap not (not_among (id_of w) (id_of x ∷ []) other))
    ∙ ap (λ (vs : List Write). w ∷ vs) (without_between x xs ys d.1)
  where
    other : Has (id_of w) (id_of x ∷ []) → ⊥
    other (inl e) = among_not (id_of w) (map id_of (xs ++ x ∷ ys)) d.0 (subst (λ i. Has i (map id_of (xs ++ x ∷ ys))) (sym e) (has_map id_of x (xs ++ x ∷ ys) (has_right x xs (x ∷ ys) (inl refl))))
    other (inr a) = a

-- the next commit takes its write to the end of the committed ones
pub commit_moved : (r : Replica) (id : Id) → IsReplica r → id.n ≡ committed_count r id.server + 1 → id.n ≤ count_of r id.server → CommitMoved r id
commit_moved r id h next known =
    let (x, a, e) = known_at r id h (omega (arith, next)) known in
    let open_ : is_committed r (id_of x) ≡ false = not_among (id_of x) r.commits (λ c. fresh (subst (λ i. Has i r.commits) e c)) in
    let (xs, ys, was) = has_between x (tentative r) (has_filter (λ v. not (is_committed r (id_of v))) x r.known (ap not open_) a) in
    let d : Distinct (map id_of (xs ++ x ∷ ys)) = subst (λ zs. Distinct (map id_of zs)) was (distinct_parts (map id_of (committed r)) (map id_of (tentative r)) (distinct_order r h)).1 in
    let now : tentative (add_commit r id) ≡ xs ++ ys =
    tentative-commits r (id ∷ []) ∙ ap (λ i. filter (λ w. not (is_among (id_of w) (i ∷ []))) (tentative r)) (sym e)
    ∙ ap (filter (λ w. not (is_among (id_of w) (id_of x ∷ [])))) was ∙ without_between x xs ys d in
    let found : filter_map (write_with r) (id ∷ []) ≡ x ∷ [] = ap (λ o. cons_option o []) (with_id r x id h a e) in
    let last : committed (add_commit r id) ≡ committed r ++ x ∷ [] = filter_map-append (write_with r) r.commits (id ∷ []) ∙ ap (λ zs. committed r ++ zs) found in
    let k = keeps-add_commit r id h next known in
    let agree =
    fronts_agree r (add_commit r id) (committed r) (x ∷ (xs ++ ys)) (tentative r) h k refl
    (ap (λ zs. zs ++ tentative (add_commit r id)) last ∙ ap (λ zs. (committed r ++ x ∷ []) ++ zs) now ∙ append_assoc (committed r) (x ∷ []) (xs ++ ys)) in
    record {
      moved = x;
      before = xs;
      behind = ys;
      is_moved = e;
      was = was;
      tentative_is = now;
      committed_is = last;
      places_before = agree.0;
      places_behind = agree.1;
    }
  where
    fresh : Has id r.commits → ⊥
    fresh c =
        let b = numbered_bounds (λ (i : Id). i.n) 1 id (commits_of id.server r.commits) (numbered_commits r id.server h) (own_id id r.commits c) in
        let top : id.n < 1 + committed_count r id.server = b.1 in
        omega (arith, top, next)

-- ---- what these are for commands

pub is_next : (r : Replica) (w : Write) → IsTrue (is_write w) → w.stamp ≡ next_stamp r → IsNext r w
is_next r w ok e =
    let s : w.stamp.server ≡ r.server = ap (λ (t : Stamp). t.server) e in
    let t : w.stamp.time ≡ clock_of r + 1 = ap (λ (x : Stamp). x.time) e in
    let low : last_time r w.stamp.server ≤ clock_of r = last_below_clock (clock_of r) w.stamp.server r.known (times_below r.known (clock_of r) (le_refl (clock_of r))) in
    record { is_write = ok; number = ap (λ (x : Stamp). x.n) e ∙ ap (λ n. count_of r n + 1) (sym s); late = omega (arith, t, low) }

-- a commit leaves the fates of a room's writes, cancelled ones too
pub commit_fates : (r : Replica) (k : ℕ) (room : Text) → IsReplica r → map fate_of (whole_list (view_of (after_commit r k) room)) ≡ map fate_of (whole_list (view_of r room))
commit_fates r k room h =
    fates_by_order (view_of (after_commit r k) room) (view_of r room)
    (sym (filter-append (λ (w : Write). bytes_eq w.room room) (committed (after_commit r k)) (tentative (after_commit r k)))
    ∙ ap (of_room room) (order-commit r k h)
    ∙ filter-append (λ (w : Write). bytes_eq w.room room) (committed r) (tentative r))

-- a submission and a cancel that nothing refuses make the next write of the replica, of a room that it knows
pub submission_next : (r : Replica) (s : Submission) → IsReplica r → first_refusal (submit_faults r s) ≡ None
    → IsTrue (is_write (write_of r s)) × ((write_of r s).stamp ≡ next_stamp r) × (knows_room r s.room ≡ true)
submission_next r s h none = (submitted_within r s h none, refl, not-false (knows_room r s.room) (none_apply (submit_faults r s) none).1.1.1.1.1.1.0)

pub cancel_next : (r : Replica) (room id : Text) → IsReplica r → first_refusal (cancel_faults r room id) ≡ None
    → IsTrue (is_write (cancel_write r room id)) × ((cancel_write r room id).stamp ≡ next_stamp r) × (knows_room r room ≡ true)
cancel_next r room id h none = (cancelled_within r room id h none, refl, not-false (knows_room r room) (none_apply (cancel_faults r room id) none).1.0)
