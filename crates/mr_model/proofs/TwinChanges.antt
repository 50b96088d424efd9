-- One change made at two replicas that differ in dropped writes alone leaves two such replicas.
use Rattle.std.proofs.Common.{◌≡◌, refl, sym, ap, ◌∙◌, subst, ℕ, zero, suc, ◌+◌, ◌-◌, ◌<◌, ◌≤◌, max, true, false, not, cond, ◌||◌, eqb, List, [], ◌∷◌}
use Rattle.std.proofs.Common.{◌++◌, length, take, drop, ◌⊎◌, inl, inr, Option, Some, None, arith, length-append, not-suc-le-zero, le_of_suc-le-suc}
use Rattle.std.proofs.lemmas.Bool.{or_parts, cond-true}
use Rattle.std.proofs.lemmas.List.Elements.{filter-append}
use Rattle.std.specs.List.{filter, filter_map}
use Rattle.std.specs.Prelude.{option_map}
use Rattle.mr_model.specs.Texts.{Text}
use Rattle.mr_model.specs.Writes.{Id, Write, id_of, same_id}
use Rattle.mr_model.specs.Replay.{Booking}
use Rattle.mr_model.specs.Replica.{Replica, last_time, committed_count, commits_of, is_among, is_committed, is_dropped, write_with, with_write, with_room, add_write, IsReplica}
use Rattle.mr_model.specs.Tables.{seq_among, seq_of, place_row_for, place_row}
use Rattle.mr_model.specs.View.{Placed, of_room, cancel_of, placed_in, place_or_logged, place_of, canceller_of}
use Rattle.mr_model.specs.Dropped.{Has, DifferInDropped}
use Rattle.mr_model.specs.Kept.{dropped_in_order, kept_in_order}
use Rattle.mr_model.specs.Changes.{IsNext}
use Rattle.mr_model.specs.Board.{after}
use Rattle.mr_model.proofs.Members.{has_left, same_id_from, has_among, take_drop}
use Rattle.mr_model.proofs.PlacedInOrder.{placed_among, placed_id}
use Rattle.mr_model.proofs.MembersAlike.{among_alike}
use Rattle.mr_model.proofs.Cancellers.{or_else}
use Rattle.mr_model.proofs.DroppedApart.{dropped_commit, dropped_board, later_from, later_list, place-dropped, canceller-parts}
use Rattle.mr_model.proofs.RowCancels.{row_booking, row-made, recancel, row-recancel, same_recancel}
use Rattle.mr_model.proofs.TwinTables.{Pair, pair_room, dropped_cancel, same_cancel, same_boards, same_kept_from, same_row}
use Rattle.mr_model.proofs.Orders.{among-append, added, new_not_committed, with-add_write, tentative-add_write, committed-with, with_commits, tentative-commits}
use Rattle.mr_model.proofs.WithWrite.{clock-with_write, count-with_write, greatest-with_write, has_with_write, with_write_has}
use Rattle.mr_model.proofs.Fronts.{take-front}

-- ---- dropped writes

-- a change leaves dropped writes where they are
pub record DroppedStay (r new : Replica) : Type 0 where
  pub was : IsReplica r
  pub sound : IsReplica new
  pub list : dropped_in_order new ≡ dropped_in_order r
  pub known : (w : Write) → Has w r.known → Has w new.known
  pub gone : (id : Id) → is_dropped new id ≡ is_dropped r id
  pub numbers : (w : Write) → is_dropped r (id_of w) ≡ true → seq_of new w ≡ seq_of r w

-- so their rows are what they were, but for the cancel that took a booking back
row_stays : (r new : Replica) (w : Write) → DroppedStay r new → Has w r.known → is_dropped r (id_of w) ≡ true → place_row new w ≡ recancel (canceller_of new w) (place_row r w)
row_stays r new w s h e =
    (λ i. place_row_for w w.action (place i) (canceller_of new w) (mark i) (s.numbers w e i))
    ∙ row-recancel w w.action (place_of r w) (canceller_of r w) (canceller_of new w) (is_committed r (id_of w)) (seq_of r w)
  where
    gone : is_dropped new (id_of w) ≡ true
    gone = s.gone (id_of w) ∙ e

    place : place_of new w ≡ place_of r w
    place =
        place-dropped new w s.sound (s.known w h) gone ∙ ap (λ ws. place_or_logged (placed_in (id_of w) (placed_among false [] (of_room w.room ws)))) s.list
        ∙ sym (place-dropped r w s.was h e)

    mark : is_committed new (id_of w) ≡ is_committed r (id_of w)
    mark = has_among (id_of w) new.commits (dropped_commit new (id_of w) gone) ∙ sym (has_among (id_of w) r.commits (dropped_commit r (id_of w) e))

abbrev ids : Option Placed → Option Id
ids o = option_map placed_id o

ids-else : (o u l : Option Placed) → ids o ≡ ids u → ids (or_else o l) ≡ ids (or_else u l)
ids-else None None l e = refl
ids-else None (Some d) l e = absurd (let f : ◌≡◌ {A = Option Id} None (Some (placed_id d)) = e in cc)
ids-else (Some c) None l e = absurd (let f : ◌≡◌ {A = Option Id} None (Some (placed_id c)) = sym e in cc)
ids-else (Some c) (Some d) l e = e

-- of twins both changed, with the same kept writes, the dropped ones with one id have one row
twin_rows : (a b a' b' : Replica) → DroppedStay a a' → DroppedStay b b' → DifferInDropped a b → kept_in_order a' ≡ kept_in_order b'
    → (x y : Write) → Has x a.known → Has y b.known → id_of x ≡ id_of y → is_dropped a (id_of x) ≡ true → place_row a' x ≡ place_row b' y
twin_rows a b a' b' s t d kept x y h g e f =
    row_stays a a' x s h f
    ∙ same_recancel (place_row a x) (place_row b y) (canceller_of a' x) (canceller_of b' y) p.row cancellers
    ∙ sym (row_stays b b' y t g (sym (d.dropped_ids (id_of y)) ∙ ap (is_dropped a) (sym e) ∙ f))
  where
    p : Pair a b x y
    p = record { first = h; second = g; one_id = e; row = d.rows x y h g e f }

    -- by the cancels of both parts of the order
    parts : (r new : Replica) (w : Write) → DroppedStay r new → Has w r.known → canceller_of new w ≡ ids (or_else (dropped_cancel r w) (cancel_of (id_of w) (later_list new w.room)))
    parts r new w q k =
        canceller-parts new w q.sound (q.known w k)
        ∙ ap (λ ws. ids (or_else (cancel_of (id_of w) (placed_among false [] (of_room w.room ws))) (cancel_of (id_of w) (later_list new w.room)))) q.list

    board : (r new : Replica) (room : Text) → DroppedStay r new → later_list new room ≡ later_from room (dropped_board r room) (kept_in_order new)
    board r new room q = ap (λ ws. later_from room (after [] (of_room room ws)) (kept_in_order new)) q.list

    later : later_list a' x.room ≡ later_list b' y.room
    later =
        board a a' x.room s ∙ among_alike false (dropped_board a x.room) (dropped_board b x.room) (of_room x.room (kept_in_order a')) (same_boards a b x.room s.was t.was d)
        ∙ ap (later_from x.room (dropped_board b x.room)) kept ∙ sym (board b b' x.room t) ∙ ap (later_list b') (pair_room a b x y s.was t.was p)

    cancellers : (m : Booking) → row_booking (place_row a x) ≡ Some m → canceller_of a' x ≡ canceller_of b' y
    cancellers m k =
        parts a a' x s h
        ∙ ids-else (dropped_cancel a x) (dropped_cancel b y) (cancel_of (id_of x) (later_list a' x.room)) (same_cancel a b x y m s.was t.was d.dropped_ids p (sym (row-made a x) ∙ k))
        ∙ (λ i. ids (or_else (dropped_cancel b y) (cancel_of (e i) (later i))))
        ∙ sym (parts b b' y t g)

-- ---- a write more

pub dropped-add_write : (r : Replica) (w : Write) → IsReplica r → IsNext r w → dropped_in_order (add_write r w) ≡ dropped_in_order r
dropped-add_write r w h next = committed-with r w (take r.dropped r.commits) h next
    (λ id a. subst (λ is. Has id is) (take_drop r.dropped r.commits) (has_left id (take r.dropped r.commits) (drop r.dropped r.commits) a))

pub next_over : (a b : Replica) (w : Write) → DifferInDropped a b → IsNext a w → IsNext b w
next_over a b w d n =
    record {
      is_write = n.is_write;
      number = n.number ∙ ap (λ k. k + 1) (d.counts w.stamp.server);
      late = subst (λ t. t < w.stamp.time) (d.last_times w.stamp.server) n.late;
    }

pub twin_add_write : (a b : Replica) (w : Write) → IsReplica a → IsReplica b → DifferInDropped a b → IsNext a w → DifferInDropped (add_write a w) (add_write b w)
twin_add_write a b w ha hb d next =
    record {
      server = d.server;
      primary = d.primary;
      commits = d.commits;
      dropped = d.dropped;
      rooms = ap (with_room w.room) d.rooms;
      clock = clock-with_write w a.known ∙ ap (max w.stamp.time) d.clock ∙ sym (clock-with_write w b.known);
      counts = λ s. count-with_write (λ v. eqb v.stamp.server s) w a.known
          ∙ ap (λ n. cond (eqb w.stamp.server s) (suc n) n) (d.counts s) ∙ sym (count-with_write (λ v. eqb v.stamp.server s) w b.known);
      last_times = last;
      committed_counts = d.committed_counts;
      kept_commits = d.kept_commits;
      dropped_ids = d.dropped_ids;
      kept_writes = λ id e. with-add_write a w id ha next ∙ ap (λ o. cond (same_id (id_of w) id) (Some w) o) (d.kept_writes id e) ∙ sym (with-add_write b w id hb next_b);
      tentative = tentative-add_write a w ha next ∙ ap (with_write w) d.tentative ∙ sym (tentative-add_write b w hb next_b);
      rows = λ x y h g e f. twin_rows a b (add_write a w) (add_write b w) (stay a ha next) (stay b hb next_b) d kept x y (old a ha next x h f) (old b hb next_b y g (over x y e f)) e f;
    }
  where
    next_b : IsNext b w
    next_b = next_over a b w d next

    over : (x y : Write) → id_of x ≡ id_of y → is_dropped a (id_of x) ≡ true → is_dropped b (id_of y) ≡ true
    over x y e f = sym (d.dropped_ids (id_of y)) ∙ ap (is_dropped a) (sym e) ∙ f

    last : (s : ℕ) → last_time (add_write a w) s ≡ last_time (add_write b w) s
    last s = greatest-with_write (λ v. eqb v.stamp.server s) w a.known ∙ ap (λ n. cond (eqb w.stamp.server s) (max w.stamp.time n) n) (d.last_times s)
        ∙ sym (greatest-with_write (λ v. eqb v.stamp.server s) w b.known)

    old : (r : Replica) → IsReplica r → IsNext r w → (x : Write) → Has x (with_write w r.known) → is_dropped r (id_of x) ≡ true → Has x r.known
    old r h n x g f = go (with_write_has w x r.known g)
      where
        go : (x ≡ w) ⊎ Has x r.known → Has x r.known
        go (inr k) = k
        go (inl e) = absurd (new_not_committed r w h n (subst (λ v. Has (id_of v) r.commits) e (dropped_commit r (id_of x) f)))

    stay : (r : Replica) → IsReplica r → IsNext r w → DroppedStay r (add_write r w)
    stay r h n =
        record {
          was = h;
          sound = added r w h n;
          list = dropped-add_write r w h n;
          known = λ v g. has_with_write w v r.known (inr g);
          gone = λ id. refl;
          numbers = λ v f. refl;
        }

    kept : kept_in_order (add_write a w) ≡ kept_in_order (add_write b w)
    kept =
        same_kept_from (add_write a w) (add_write b w) (added a w ha next) d.kept_commits
        (λ id e. with-add_write a w id ha next ∙ ap (λ o. cond (same_id (id_of w) id) (Some w) o) (d.kept_writes id e) ∙ sym (with-add_write b w id hb next_b))
        (tentative-add_write a w ha next ∙ ap (with_write w) d.tentative ∙ sym (tentative-add_write b w hb next_b))

-- ---- a room more

pub twin_add_room : (a b : Replica) (room : Text) → DifferInDropped a b → DifferInDropped (record a { rooms = with_room room a.rooms }) (record b { rooms = with_room room b.rooms })
twin_add_room a b room d =
    record {
      server = d.server;
      primary = d.primary;
      commits = d.commits;
      dropped = d.dropped;
      rooms = ap (with_room room) d.rooms;
      clock = d.clock;
      counts = d.counts;
      last_times = d.last_times;
      committed_counts = d.committed_counts;
      kept_commits = d.kept_commits;
      dropped_ids = d.dropped_ids;
      kept_writes = d.kept_writes;
      tentative = d.tentative;
      rows = d.rows;
    }

-- ---- more commits

pub drop-front : {A : Type 0} (n : ℕ) (xs ys : List A) → n ≤ length xs → drop n (xs ++ ys) ≡ drop n xs ++ ys
drop-front zero xs ys l = refl
drop-front (suc n) [] ys l = absurd (not-suc-le-zero l)
drop-front (suc n) (x ∷ xs) ys l = drop-front n xs ys (le_of_suc-le-suc l)

pub seq_front : (k : ℕ) (xs ys : List Id) (id : Id) → Has id xs → seq_among k (xs ++ ys) id ≡ seq_among k xs id
seq_front k [] ys id h = absurd h
seq_front k (x ∷ xs) ys id (inl e) =
    let t : same_id x id ≡ true = same_id_from x id (sym e) in
    cond-true (same_id x id) k (seq_among (k + 1) (xs ++ ys) id) t ∙ sym (cond-true (same_id x id) k (seq_among (k + 1) xs id) t)
seq_front k (x ∷ xs) ys id (inr h) = ap (λ n. cond (same_id x id) k n) (seq_front (k + 1) xs ys id h)

pub twin_commits : (a b : Replica) (ids : List Id) → IsReplica a → IsReplica b → IsReplica (with_commits a ids)
    → IsReplica (with_commits b ids) → DifferInDropped a b → DifferInDropped (with_commits a ids) (with_commits b ids)
twin_commits a b ids ha hb ka kb d =
    record {
      server = d.server;
      primary = d.primary;
      commits = length-append a.commits ids ∙ ap (λ n. n + length ids) d.commits ∙ sym (length-append b.commits ids);
      dropped = d.dropped;
      rooms = d.rooms;
      clock = d.clock;
      counts = d.counts;
      last_times = d.last_times;
      committed_counts = λ s. counted a s ∙ ap (λ n. n + length (commits_of s ids)) (d.committed_counts s) ∙ sym (counted b s);
      kept_commits = drop-front a.dropped a.commits ids ha.dropped_committed ∙ ap (λ is. is ++ ids) d.kept_commits ∙ sym (drop-front b.dropped b.commits ids hb.dropped_committed);
      dropped_ids = λ id. gone a ha id ∙ d.dropped_ids id ∙ sym (gone b hb id);
      kept_writes = λ id e. d.kept_writes id (sym (gone a ha id) ∙ e);
      tentative = tentative-commits a ids ∙ ap (filter (λ w. not (is_among (id_of w) ids))) d.tentative ∙ sym (tentative-commits b ids);
      rows = λ x y h g e f. twin_rows a b (with_commits a ids) (with_commits b ids) (stay a ha ka) (stay b hb kb) d kept x y h g e (was x f);
    }
  where
    counted : (r : Replica) (s : ℕ) → committed_count (with_commits r ids) s ≡ committed_count r s + length (commits_of s ids)
    counted r s = ap length (filter-append (λ (id : Id). eqb id.server s) r.commits ids) ∙ length-append (commits_of s r.commits) (commits_of s ids)

    gone : (r : Replica) → IsReplica r → (id : Id) → is_dropped (with_commits r ids) id ≡ is_dropped r id
    gone r h id = ap (is_among id) (take-front r.dropped r.commits ids h.dropped_committed)

    was : (x : Write) → is_dropped (with_commits a ids) (id_of x) ≡ true → is_dropped a (id_of x) ≡ true
    was x f = sym (gone a ha (id_of x)) ∙ f

    stay : (r : Replica) → IsReplica r → IsReplica (with_commits r ids) → DroppedStay r (with_commits r ids)
    stay r h k =
        record {
          was = h;
          sound = k;
          list = ap (λ is. filter_map (write_with r) is) (take-front r.dropped r.commits ids h.dropped_committed);
          known = λ v g. g;
          gone = gone r h;
          numbers = λ v f. seq_front 1 r.commits ids (id_of v) (dropped_commit r (id_of v) f);
        }

    kept : kept_in_order (with_commits a ids) ≡ kept_in_order (with_commits b ids)
    kept =
        same_kept_from (with_commits a ids) (with_commits b ids) ka
        (drop-front a.dropped a.commits ids ha.dropped_committed ∙ ap (λ is. is ++ ids) d.kept_commits ∙ sym (drop-front b.dropped b.commits ids hb.dropped_committed))
        (λ id e. d.kept_writes id (sym (gone a ha id) ∙ e))
        (tentative-commits a ids ∙ ap (filter (λ w. not (is_among (id_of w) ids))) d.tentative ∙ sym (tentative-commits b ids))

-- ---- more dropped

pub take-add : {A : Type 0} (n k : ℕ) (xs : List A) → take (n + k) xs ≡ take n xs ++ take k (drop n xs)
take-add zero k xs = let e : 0 + k ≡ k = omega arith in ap (λ m. take m xs) e
take-add (suc n) k [] = none (suc n + k) ∙ sym (none k)
  where
    none : {A : Type 0} (m : ℕ) → ◌≡◌ {A = List A} (take m []) []
    none zero = refl
    none (suc m) = refl
take-add (suc n) k (x ∷ xs) = let e : suc n + k ≡ suc (n + k) = omega arith in ap (λ m. take m (x ∷ xs)) e ∙ ap (λ zs. x ∷ zs) (take-add n k xs)

pub drop-add : {A : Type 0} (n k : ℕ) (xs : List A) → drop (n + k) xs ≡ drop k (drop n xs)
drop-add zero k xs = let e : 0 + k ≡ k = omega arith in ap (λ m. drop m xs) e
drop-add (suc n) k [] = none (suc n + k) ∙ sym (none k)
  where
    none : {A : Type 0} (m : ℕ) → ◌≡◌ {A = List A} (drop m []) []
    none zero = refl
    none (suc m) = refl
drop-add (suc n) k (x ∷ xs) = let e : suc n + k ≡ suc (n + k) = omega arith in ap (λ m. drop m (x ∷ xs)) e ∙ drop-add n k xs

-- how many more are dropped
abbrev pub more_than : ℕ → ℕ → ℕ
more_than n m = max m n - m

pub twin_truncate : (a b : Replica) (n : ℕ) → IsReplica a → IsReplica b → DifferInDropped a b → DifferInDropped (record a { dropped = max a.dropped n }) (record b { dropped = max b.dropped n })
twin_truncate a b n ha hb d =
    record {
      server = d.server;
      primary = d.primary;
      commits = d.commits;
      dropped = ap (λ m. max m n) d.dropped;
      rooms = d.rooms;
      clock = d.clock;
      counts = d.counts;
      last_times = d.last_times;
      committed_counts = d.committed_counts;
      kept_commits = later a ∙ ap (λ m. drop (more_than n m) (drop a.dropped a.commits)) d.dropped ∙ ap (drop (more_than n b.dropped)) d.kept_commits ∙ sym (later b);
      dropped_ids = same_gone;
      kept_writes = λ id e. d.kept_writes id (or_parts (is_dropped a id) (is_among id (take (more_than n a.dropped) (drop a.dropped a.commits))) (sym (gone a id) ∙ e)).0;
      tentative = d.tentative;
      rows = λ x y h g e f. same_row a b ha hb d x y h g e;
    }
  where
    sum : (m : ℕ) → max m n ≡ m + more_than n m
    sum m = omega arith

    later : (r : Replica) → drop (max r.dropped n) r.commits ≡ drop (more_than n r.dropped) (drop r.dropped r.commits)
    later r = ap (λ m. drop m r.commits) (sum r.dropped) ∙ drop-add r.dropped (more_than n r.dropped) r.commits

    gone : (r : Replica) (id : Id) → is_among id (take (max r.dropped n) r.commits) ≡ (is_dropped r id || is_among id (take (more_than n r.dropped) (drop r.dropped r.commits)))
    gone r id =
        ap (λ m. is_among id (take m r.commits)) (sum r.dropped) ∙ ap (is_among id) (take-add r.dropped (more_than n r.dropped) r.commits)
        ∙ among-append id (take r.dropped r.commits) (take (more_than n r.dropped) (drop r.dropped r.commits))

    same_gone : (id : Id) → is_among id (take (max a.dropped n) a.commits) ≡ is_among id (take (max b.dropped n) b.commits)
    same_gone id =
        gone a id ∙ ap (λ c. c || is_among id (take (more_than n a.dropped) (drop a.dropped a.commits))) (d.dropped_ids id)
        ∙ ap (λ m. is_dropped b id || is_among id (take (more_than n m) (drop a.dropped a.commits))) d.dropped
        ∙ ap (λ is. is_dropped b id || is_among id (take (more_than n b.dropped) is)) d.kept_commits ∙ sym (gone b id)
