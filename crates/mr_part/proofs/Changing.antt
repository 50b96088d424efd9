-- What each command changes in the tables of a replica.
use Rattle.std.proofs.Common.{◌≡◌, refl, sym, ap, ◌∙◌, subst, ℕ, zero, suc, ◌+◌, ◌-◌, ◌<◌, ◌≤◌, max, Bool, true, false, not, cond, ◌||◌, eqb, leb, List}
use Rattle.std.proofs.Common.{[], ◌∷◌, length, map, take, ◌⊎◌, inl, inr, Option, Some, None, arith, le-leb, leb-true, append-nil, length-append}
use Rattle.std.proofs.lemmas.Bool.{true≢false, and_parts, and_from, cond-true}
use Rattle.std.proofs.lemmas.List.{length-map}
use Rattle.std.proofs.lemmas.Slice.Eq.{bytes_eq-Decides}
use Rattle.std.specs.List.{filter, slice_get}
use Rattle.std.specs.Str.{bytes_eq}
use Rattle.mr_model.specs.Texts.{Text}
use Rattle.mr_model.specs.Writes.{Id, Write, id_of}
use Rattle.mr_model.specs.Replica.{Replica, IsReplica, clock_of, knows_room, add_write, committed, tentative, is_among, is_committed, is_dropped, text_before, with_room}
use Rattle.mr_model.specs.Kept.{kept_in_order}
use Rattle.mr_model.specs.View.{place_of, canceller_of}
use Rattle.mr_model.specs.Tables.{PlaceRow, by_id, seq_of, place_row_for, place_row, log_row, tables_of}
use Rattle.mr_model.specs.Queries.{booking_id, error_id, cancelled_id, log_id}
use Rattle.mr_model.specs.Dropped.{Has}
use Rattle.mr_model.specs.Changes.{IsNext, SubmitChanges, first_tentative, after_commit, after_truncate, CommitChanges}
use Rattle.mr_model.proofs.CommitRows
use Rattle.mr_model.proofs.DroppedApart.{not_committed_kept, kept_known, known_kept}
use Rattle.mr_model.proofs.Fronts.{take-front, get_below}
use Rattle.mr_model.proofs.KnownById.{one_known, tentative_known}
use Rattle.mr_model.proofs.Members.{slice_has, has_map, map_has, has_among, among_has}
use Rattle.mr_model.proofs.Orders.{taken_has, added}
use Rattle.mr_model.proofs.PlacesOfOrder.{known_in_order}
use Rattle.mr_model.proofs.RoomTold.{committed-seq}
use Rattle.mr_model.proofs.RowsById.{seq_not, map_filter}
use Rattle.mr_model.proofs.SubmitRows.{submit_changes}
use Rattle.mr_model.proofs.TruncateRows.{slice_in_front, front-seq}
use Rattle.mr_model.proofs.UniqueReplay.{some_inj, none_some}
use Rattle.mr_model.proofs.WithWrite.{with_write_has, has_with_write}
use Rattle.mr_replay.specs.Rows.{undo_row_at}
use Rattle.mr_tables.specs.Change.{rows_without, changed}
use Rattle.mr_tables.specs.ExecutionRows.{seq_on}
use Rattle.mr_tables.specs.Written.{written, forgotten}
use Rattle.mr_part.specs.Logged.{undo_with}
use Rattle.mr_part.specs.Placing.{with_places_put}
use Rattle.mr_part.proofs.MovedTables.{Bears, Moves, moves, rows_move, rooms_move}
use Rattle.mr_part.proofs.OrderNumbers.{within_commits, behind_commits, kept_numbers}
use Rattle.mr_part.proofs.RowsPut.{AreNumbered, AreOf, writes_of_rows, write_of_row, put_makes, vector_between, tallies_move}
use Rattle.mr_model.proofs.Lists.{has_place}
use Rattle.mr_tables.proofs.Putting.{without_none}

-- at the same place, with the same cancel and the same number, a write has the same row
pub row_alike : (a b : Replica) (w : Write) → place_of a w ≡ place_of b w → canceller_of a w ≡ canceller_of b w → seq_of a w ≡ seq_of b w → place_row a w ≡ place_row b w
row_alike a b w p c q =
    let mark : is_committed a (id_of w) ≡ is_committed b (id_of w) = committed-seq a w ∙ ap (λ s. not (eqb s 0)) q ∙ sym (committed-seq b w) in
    λ i. place_row_for w w.action (p i) (c i) (mark i) (q i)

-- ---- rooms

with_room_has : (t u : Text) (ts : List Text) → Has u (with_room t ts) → (u ≡ t) ⊎ Has u ts
with_room_has t u [] (inl e) = inl e
with_room_has t u [] (inr h) = absurd h
with_room_has t u (x ∷ xs) h = go (text_before t x) (bytes_eq t x) h (with_room_has t u xs)
  where
    go : (b c : Bool) → Has u (cond b (t ∷ x ∷ xs) (cond c (x ∷ xs) (x ∷ with_room t xs))) → (Has u (with_room t xs) → (u ≡ t) ⊎ Has u xs) → (u ≡ t) ⊎ Has u (x ∷ xs)
    go true c (inl e) ih = inl e
    go true c (inr g) ih = inr g
    go false true g ih = inr g
    go false false (inl e) ih = inr (inl e)
    go false false (inr g) ih = over (ih g)
      where
        over : (u ≡ t) ⊎ Has u xs → (u ≡ t) ⊎ Has u (x ∷ xs)
        over (inl e) = inl e
        over (inr k) = inr (inr k)

pub has_with_room : (t u : Text) (ts : List Text) → (u ≡ t) ⊎ Has u ts → Has u (with_room t ts)
has_with_room t u [] (inl e) = inl e
has_with_room t u [] (inr h) = absurd h
has_with_room t u (x ∷ xs) h = go (text_before t x) (bytes_eq t x) refl h (has_with_room t u xs)
  where
    go : (b c : Bool) → bytes_eq t x ≡ c → (u ≡ t) ⊎ Has u (x ∷ xs) → ((u ≡ t) ⊎ Has u xs → Has u (with_room t xs)) → Has u (cond b (t ∷ x ∷ xs) (cond c (x ∷ xs) (x ∷ with_room t xs)))
    go true c s (inl e) ih = inl e
    go true c s (inr g) ih = inr g
    go false true s (inl e) ih = inl (e ∙ (bytes_eq-Decides t x).0 s)
    go false true s (inr g) ih = g
    go false false s (inl e) ih = inr (ih (inl e))
    go false false s (inr (inl e)) ih = inl e
    go false false s (inr (inr g)) ih = inr (ih (inr g))

abbrev with_a_room : Replica → Text → Replica
with_a_room a room = record a { rooms = with_room room a.rooms }

-- a room more is put, and nothing else changes
pub room_changes : (a : Replica) (room : Text) → IsReplica a → IsReplica (with_a_room a room)
    → changed (written (tables_of a).meta (room ∷ []) [] (length a.commits) 1 [] [] []) (tables_of a) ≡ tables_of (with_a_room a room)
room_changes a room ha hb =
    moves a (with_a_room a room) [] [] (room ∷ []) [] ha hb
    (record { dropped = refl; stays = λ w h. h; logged = λ w h. inr (h, refl, refl); placed = λ w h. inr (h, refl); kept = λ w h. absurd h; known = λ w h. absurd h })
    (rooms_move a (with_a_room a room) (room ∷ []) ha hb (λ t. ((λ h. there t (with_room_has room t a.rooms h)), (λ h. has_with_room room t a.rooms (back t h)))))
    refl
  where
    there : (t : Text) → (t ≡ room) ⊎ Has t a.rooms → Has t (room ∷ []) ⊎ Has t a.rooms
    there t (inl e) = inl (inl e)
    there t (inr h) = inr h

    back : (t : Text) → Has t (room ∷ []) ⊎ Has t a.rooms → (t ≡ room) ⊎ Has t a.rooms
    back t (inl (inl e)) = inl e
    back t (inl (inr h)) = absurd h
    back t (inr h) = inr h

-- ---- a submission

-- each write whose cancel is another one now gets its row of now, and perhaps others do
pub record GivesRows (a b : Replica) (rows : List PlaceRow) : Type 0 where
  pub are_rows : (row : PlaceRow) → Has row rows → (v : Write) × Has v b.known × (row ≡ place_row b v)
  pub has_others : (v : Write) → Has v a.known → (canceller_of a v ≡ canceller_of b v) ⊎ Has (place_row b v) rows

-- the last write of the order has no number
pub last_numbered : (a : Replica) (w : Write) → SubmitChanges a w → AreNumbered (add_write a w) (length a.commits + 1) (w ∷ [])
last_numbered a w c i v e = go (slice_has (w ∷ []) i v e)
  where
    go : Has v (w ∷ []) → seq_of (add_write a w) v ≡ seq_on (length a.commits) (length a.commits + 1 + i)
    go (inl s) = ap (seq_of (add_write a w)) s ∙ c.number ∙ sym (behind_commits (length a.commits) (length a.commits + 1 + i) (omega arith))
    go (inr h) = absurd h

-- a write becomes the last of the order: its rows are put, and those that are given of what it takes back
pub submit_given : (a : Replica) (w : Write) (given : List PlaceRow) → IsReplica a → IsNext a w → clock_of a < w.stamp.time → knows_room a w.room ≡ true → GivesRows a (add_write a w) given
    → changed (with_places_put (written (tables_of (add_write a w)).meta [] (vector_between a (add_write a w)) (length a.commits)
    (length a.commits + 1) (w ∷ []) (undo_with (place_of (add_write a w)) w ∷ []) (None ∷ [])) given) (tables_of a) ≡ tables_of (add_write a w)
submit_given a w given ha next late known gives =
    (λ i. changed (with_places_put
    (written (tables_of b).meta [] (vector_between a b) (length a.commits) (length a.commits + 1) (w ∷ []) (undo_with (place_of b) w ∷ []) (sym c.standing i ∷ [])) given) (tables_of a))
    ∙ put_makes a b (length a.commits + 1) (canceller_of b) (w ∷ []) given [] (vector_between a b) (omega arith)
    (last_numbered a w c) (λ v h. refl) ha hb olds moved (sym c.room) (tallies_move a b ha hb moved.stays)
  where
    b : Replica
    b = add_write a w

    hb : IsReplica b
    hb = added a w ha next

    c : SubmitChanges a w
    c = submit_changes a w ha next late known

    olds : AreOf b given
    olds = writes_of_rows b given gives.are_rows

    stays : (v : Write) → Has v a.known → Has v b.known
    stays v h = has_with_write w v a.known (inr h)

    logged : (v : Write) → (v ≡ w) ⊎ Has v a.known → Has v (w ∷ []) ⊎ (Has v a.known × (place_of a v ≡ place_of b v) × (seq_of a v ≡ seq_of b v))
    logged v (inl e) = inl (inl e)
    logged v (inr h) = inr (h, sym (c.places v h), refl)

    placed : (v : Write) → (v ≡ w) ⊎ Has v a.known → Has v (w ∷ olds.writes) ⊎ (Has v a.known × (place_row a v ≡ place_row b v))
    placed v (inl e) = inl (inl e)
    placed v (inr h) = go (gives.has_others v h)
      where
        go : (canceller_of a v ≡ canceller_of b v) ⊎ Has (place_row b v) given → Has v (w ∷ olds.writes) ⊎ (Has v a.known × (place_row a v ≡ place_row b v))
        go (inl e) = inr (h, row_alike a b v (sym (c.places v h)) e refl)
        go (inr g) = inl (inr (write_of_row b given olds v hb (stays v h) g))

    kept : (v : Write) → Has v (w ∷ []) → Has v b.known × (is_dropped b (id_of v) ≡ false)
    kept v (inl e) = (has_with_write w v a.known (inl e), ap (λ u. is_dropped b (id_of u)) e ∙ not_committed_kept b (id_of w) c.tentative)
    kept v (inr h) = absurd h

    there : (v : Write) → Has v (w ∷ olds.writes) → Has v b.known
    there v (inl e) = has_with_write w v a.known (inl e)
    there v (inr h) = olds.known v h

    moved : Moves a b (w ∷ []) (w ∷ olds.writes)
    moved = record {
      dropped = refl;
      stays = stays;
      logged = λ v h. logged v (with_write_has w v a.known h);
      placed = λ v h. placed v (with_write_has w v a.known h);
      kept = kept;
      known = there;
    }

-- ---- a commit

commit_moves : (a : Replica) (k : ℕ) → IsReplica a → IsReplica (after_commit a k) → Moves a (after_commit a k) (first_tentative a k) (first_tentative a k)
commit_moves a k ha hb =
    record {
      dropped = refl;
      stays = λ w h. h;
      logged = λ w h. other w h (is_among (id_of w) ids) refl;
      placed = λ w h. place w (other w h (is_among (id_of w) ids) refl);
      known = λ w h. (tentative_known a w (taken_has k w (tentative a) h)).0;
      kept = λ w h. let t = tentative_known a w (taken_has k w (tentative a) h) in
          (t.0, ap (is_among (id_of w)) (take-front a.dropped a.commits ids ha.dropped_committed) ∙ not_committed_kept a (id_of w) t.1);
    }
  where
    ids : List Id
    ids = map id_of (first_tentative a k)

    c : CommitChanges a k
    c = CommitRows.commit_changes a k ha hb

    number : (w : Write) → Has w (committed a) ⊎ Has w (tentative a) → is_among (id_of w) ids ≡ false → seq_of a w ≡ seq_of (after_commit a k) w
    number w (inl h) e = sym (c.old_numbers w h)
    number w (inr h) e =
        let t = tentative_known a w h in
        seq_not 1 a.commits (id_of w) (λ g. true≢false (sym (has_among (id_of w) a.commits g) ∙ t.1))
        ∙ sym (c.other_numbers w (c.marks w ∙ (λ i. t.1 i || e i)))

    place : (w : Write) → Has w (first_tentative a k) ⊎ (Has w a.known × (place_of a w ≡ place_of (after_commit a k) w) × (seq_of a w ≡ seq_of (after_commit a k) w))
        → Has w (first_tentative a k) ⊎ (Has w a.known × (place_row a w ≡ place_row (after_commit a k) w))
    place w (inl h) = inl h
    place w (inr (h, p, q)) = inr (h, row_alike a (after_commit a k) w p (sym (c.cancellers w h)) q)

    other : (w : Write) → Has w a.known → (b : Bool) → is_among (id_of w) ids ≡ b
        → Has w (first_tentative a k) ⊎ (Has w a.known × (place_of a w ≡ place_of (after_commit a k) w) × (seq_of a w ≡ seq_of (after_commit a k) w))
    other w h true e =
        let (v, g, s) = map_has id_of (id_of w) (first_tentative a k) (among_has (id_of w) ids e) in
        let same : v ≡ w = one_known a v w ha (tentative_known a v (taken_has k v (tentative a) g)).0 h (sym s) in
        inl (subst (λ u. Has u (first_tentative a k)) same g)
    other w h false e = inr (h, sym (c.places w h), number w (known_in_order a w ha h) e)

pub map_same : {A B : Type 0} (f g : A → B) (xs : List A) → ((x : A) → Has x xs → f x ≡ g x) → map f xs ≡ map g xs
map_same f g [] e = refl
map_same f g (x ∷ xs) e = let here = e x (inl refl) in let rest = map_same f g xs (λ y h. e y (inr h)) in λ i. here i ∷ rest i

-- of the first k tentative writes the rows are put with their numbers and marks
pub commit_changes : (a : Replica) (k : ℕ) → IsReplica a → IsReplica (after_commit a k)
    → changed (written (tables_of (after_commit a k)).meta [] (vector_between a (after_commit a k)) (length (after_commit a k).commits) (length a.commits + 1)
    (first_tentative a k) (map (undo_with (place_of a)) (first_tentative a k)) (map (canceller_of a) (first_tentative a k))) (tables_of a)
    ≡ tables_of (after_commit a k)
commit_changes a k ha hb =
    (λ i. changed (written (tables_of b).meta [] (vector_between a b) (length b.commits) (length a.commits + 1) first (undo i) (bys i)) (tables_of a))
    ∙ put_makes a b (length a.commits + 1) (canceller_of b) first [] [] (vector_between a b) (omega arith) numbered
    (λ w h. refl) ha hb none (subst (Moves a b first) (sym (append-nil first)) m) refl (tallies_move a b ha hb m.stays)
  where
    b : Replica
    b = after_commit a k

    first : List Write
    first = first_tentative a k

    c : CommitChanges a k
    c = CommitRows.commit_changes a k ha hb

    none : AreOf b []
    none = record { writes = []; rows_are = refl; known = λ w h. absurd h }

    m : Moves a b first first
    m = commit_moves a k ha hb

    undo : map (undo_with (place_of a)) first ≡ map (undo_with (place_of b)) first
    undo = map_same (undo_with (place_of a)) (undo_with (place_of b)) first (λ w h. ap (undo_row_at w) (sym (c.places w (m.known w h))))

    bys : map (canceller_of a) first ≡ map (canceller_of b) first
    bys = map_same (canceller_of a) (canceller_of b) first (λ w h. sym (c.cancellers w (m.known w h)))

    numbered : AreNumbered b (length a.commits + 1) first
    numbered i w e =
        let long : length b.commits ≡ length a.commits + length first = length-append a.commits (map id_of first) ∙ ap (λ n. length a.commits + n) (length-map first id_of) in
        let below : i < length first = get_below first i w e in
        c.new_numbers i w e ∙ sym (within_commits (length b.commits) (length a.commits + 1 + i) (omega (arith, long, below)))

-- ---- a truncation

front_slice : {A : Type 0} (n : ℕ) (x : A) (xs : List A) → Has x (take n xs) → (i : ℕ) × (slice_get xs i ≡ Some x) × (i < n)
front_slice zero x xs h = absurd h
front_slice (suc n) x [] h = absurd h
front_slice (suc n) x (y ∷ ys) (inl e) = (zero, ap Some (sym e), omega arith)
front_slice (suc n) x (y ∷ ys) (inr h) = let (i, e, l) = front_slice n x ys h in (suc i, e, (let m : i < n = l in omega (arith, m)))

-- the first kept writes are those that a truncation drops
dropped_now : (a : Replica) (n : ℕ) (w : Write) → IsReplica a → IsReplica (after_truncate a n)
    → Has w (take (max a.dropped n - a.dropped) (kept_in_order a)) → is_dropped (after_truncate a n) (id_of w) ≡ true
dropped_now a n w ha hb h =
    let (i, e, l) = front_slice (max a.dropped n - a.dropped) w (kept_in_order a) h in
    let few : max a.dropped n ≤ length a.commits = hb.dropped_committed in
    let low : a.dropped + 1 + i ≤ length a.commits = omega (arith, l, few) in
    let seq : seq_of a w ≡ a.dropped + 1 + i = kept_numbers a i w ha e
    ∙ cond-true (leb (a.dropped + 1 + i) (length a.commits)) (a.dropped + 1 + i) 0 (le-leb (a.dropped + 1 + i) (length a.commits) low) in
    front-seq (max a.dropped n) a.commits (id_of w)
    ∙ and_from (leb 1 (seq_of a w)) (leb (seq_of a w) (max a.dropped n)) (le-leb 1 (seq_of a w) (omega (arith, seq))) (le-leb (seq_of a w) (max a.dropped n) (omega (arith, seq, l)))

now_dropped : (a : Replica) (n : ℕ) (w : Write) → IsReplica a → IsReplica (after_truncate a n) → Has w a.known → is_dropped a (id_of w) ≡ false
    → is_dropped (after_truncate a n) (id_of w) ≡ true → Has w (take (max a.dropped n - a.dropped) (kept_in_order a))
now_dropped a n w ha hb h d t =
    let (i, e) = has_place w (kept_in_order a) (known_kept a w ha h d) in
    let seq = kept_numbers a i w ha e in
    let p = and_parts (leb 1 (seq_of a w)) (leb (seq_of a w) (max a.dropped n)) (sym (front-seq (max a.dropped n) a.commits (id_of w)) ∙ t) in
    let low : 1 ≤ seq_of a w = leb-true 1 (seq_of a w) p.0 in
    let high : seq_of a w ≤ max a.dropped n = leb-true (seq_of a w) (max a.dropped n) p.1 in
    slice_in_front (max a.dropped n - a.dropped) i w (kept_in_order a) e (go (leb (a.dropped + 1 + i) (length a.commits)) seq low high)
  where
    go : (c : Bool) → {i q : ℕ} → q ≡ cond c (a.dropped + 1 + i) 0 → 1 ≤ q → q ≤ max a.dropped n → i < max a.dropped n - a.dropped
    go true e low high = omega (arith, e, low, high)
    go false e low high = absurd (omega (arith, e, low))

-- what was dropped stays so
still_dropped : (a : Replica) (n : ℕ) (w : Write) → is_dropped a (id_of w) ≡ true → is_dropped (after_truncate a n) (id_of w) ≡ true
still_dropped a n w d =
    let p = and_parts (leb 1 (seq_of a w)) (leb (seq_of a w) a.dropped) (sym (front-seq a.dropped a.commits (id_of w)) ∙ d) in
    let high : seq_of a w ≤ a.dropped = leb-true (seq_of a w) a.dropped p.1 in
    front-seq (max a.dropped n) a.commits (id_of w)
    ∙ and_from (leb 1 (seq_of a w)) (leb (seq_of a w) (max a.dropped n)) p.0 (le-leb (seq_of a w) (max a.dropped n) (omega (arith, high)))

-- a table with a row for each kept write
kept_forget : {R : Type 0} (a : Replica) (n : ℕ) (key : R → Id) (g : Write → R) → IsReplica a → IsReplica (after_truncate a n) → ((w : Write) → key (g w) ≡ id_of w)
    → rows_without key (map id_of (take (max a.dropped n - a.dropped) (kept_in_order a))) (map g (filter (λ w. not (is_dropped a (id_of w))) (by_id a.known)))
    ≡ map g (filter (λ w. not (is_dropped (after_truncate a n) (id_of w))) (by_id a.known))
kept_forget {R} a n key g ha hb keyed =
    ap (rows_without key (map id_of gone)) (map_filter (λ w. is_dropped a (id_of w)) g (by_id a.known))
    ∙ rows_move a (after_truncate a n) key (row a) (row (after_truncate a n)) gone [] (map id_of gone) ha hb (bears a) (bears (after_truncate a n))
    (record {
      stays = λ w h. h;
      others = λ w h. other w h (is_dropped a (id_of w)) refl (is_dropped (after_truncate a n) (id_of w)) refl;
      moved = λ w h. let (i, e, l) = front_slice (max a.dropped n - a.dropped) w (kept_in_order a) h in (kept_known a w ha (slice_has (kept_in_order a) i w e)).0;
      put_is = λ r h. absurd h;
      is_put = λ w r h e. absurd (none_some r (sym (cond-true (is_dropped (after_truncate a n) (id_of w)) None (Some (g w)) (dropped_now a n w ha hb h)) ∙ e));
      gone_is = λ i h. let (w, b, e) = map_has id_of i gone h in (w, b, sym e);
      is_gone = λ w r h e f. has_map id_of w gone h;
    })
    ∙ sym (map_filter (λ w. is_dropped (after_truncate a n) (id_of w)) g (by_id a.known))
  where
    gone : List Write
    gone = take (max a.dropped n - a.dropped) (kept_in_order a)

    row : Replica → Write → Option R
    row r w = cond (is_dropped r (id_of w)) None (Some (g w))

    bears : (r : Replica) → Bears key (row r)
    bears r w x e = go (is_dropped r (id_of w)) e
      where
        go : (b : Bool) → cond b None (Some (g w)) ≡ Some x → key x ≡ id_of w
        go true f = absurd (none_some x f)
        go false f = ap key (sym (some_inj (g w) x f)) ∙ keyed w

    other : (w : Write) → Has w a.known → (b : Bool) → is_dropped a (id_of w) ≡ b → (c : Bool)
        → is_dropped (after_truncate a n) (id_of w) ≡ c → Has w gone ⊎ (Has w a.known × (row a w ≡ row (after_truncate a n) w))
    other w h false d true t = inl (now_dropped a n w ha hb h d t)
    other w h false d false t = inr (h, (let e = d ∙ sym t in λ i. cond (e i) None (Some (g w))))
    other w h true d c t = inr (h, (let e = d ∙ sym (still_dropped a n w d) in λ i. cond (e i) None (Some (g w))))

-- the rows of the first kept writes leave the log
pub truncate_changes : (a : Replica) (n : ℕ) → IsReplica a → IsReplica (after_truncate a n)
    → changed (forgotten (tables_of (after_truncate a n)).meta (map id_of (take (max a.dropped n - a.dropped) (kept_in_order a)))) (tables_of a) ≡ tables_of (after_truncate a n)
truncate_changes a n ha hb =
    λ i. record {
      meta = (tables_of (after_truncate a n)).meta;
      room = a.rooms;
      vector = (tables_of a).vector;
      log = kept_forget a n log_id (log_row a) ha hb (λ w. refl) i;
      booking = without_none booking_id (tables_of a).booking i;
      errorlog = without_none error_id (tables_of a).errorlog i;
      cancelled = without_none cancelled_id (tables_of a).cancelled i;
      cancels = (tables_of a).cancels;
    }
