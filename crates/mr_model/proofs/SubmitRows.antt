-- The rows that a submission changes.
use Rattle.std.proofs.Common.{◌≡◌, refl, sym, ap, ◌∙◌, subst, ℕ, suc, ◌+◌, ◌<◌, ◌≤◌, max, Bool, true, false, cond, ◌&&◌, eqb, ltb, List}
use Rattle.std.proofs.Common.{[], ◌∷◌, length, ◌⊎◌, inl, inr, Option, Some, None, arith, IsTrue, eqb-true, eq-eqb, ltb-true, ne_eqb}
use Rattle.std.proofs.lemmas.Bool.{true≢false, and_parts, or_cases, cond-true, cond-false, false_from_ne_true, cases_eq}
use Rattle.std.proofs.lemmas.Slice.Eq.{bytes_eq-Decides}
use Rattle.std.specs.List.{AllByRecursion, filter_map, list_any}
use Rattle.std.specs.Str.{bytes_eq}
use Rattle.mr_model.specs.Texts.{Text, numbers_on}
use Rattle.mr_model.specs.Writes.{Id, Write, id_of}
use Rattle.mr_model.specs.Replica.{Replica, count_of, clock_of, last_time, committed_count, is_committed, is_dropped}
use Rattle.mr_model.specs.Replica.{knows_room, with_write, with_room, text_before, AreInNameOrder, add_write, IsReplica}
use Rattle.mr_model.specs.Tables.{VectorRow, LogRow, BookingRow, CancelledRow, PlaceRow, by_id, seq_of, taken_back, as_booked, as_booking, as_error, as_cancelled}
use Rattle.mr_model.specs.Tables.{as_cancel, vector_row, log_row_with, log_row, place_row, booking_row, error_row, cancelled_row, cancel_row, tables_of}
use Rattle.mr_model.specs.Tables as rows
use Rattle.mr_model.specs.View.{canceller_of}
use Rattle.mr_model.specs.Queries.{booking_id, row_id}
use Rattle.mr_model.specs.RowsInScope.{told_booking}
use Rattle.mr_model.specs.Dropped.{Has}
use Rattle.mr_model.specs.Changes.{new_vector_row, takes_back, SubmitChanges, IsNext}
use Rattle.mr_model.proofs.Members.{has_filter_map, filter_map_has, all_has, has_all, not_among}
use Rattle.mr_model.proofs.OrderedSets.{name_trans}
use Rattle.mr_model.proofs.RowsById.{has_flat, flat_has, has_numbers, server_bounds, has_by_id, by_id_has, map_filter, seq_not}
use Rattle.mr_model.proofs.DroppedApart.{dropped_commit}
use Rattle.mr_model.proofs.TablesTell.{vector_entry, in_row, kept_log, key-row}
use Rattle.mr_model.proofs.RowsTell.{of_known, known_of, booked_is}
use Rattle.mr_model.proofs.RowCancels.{row_booking, row_by, row-made, row-cancel, recancel}
use Rattle.mr_model.proofs.WithWrite.{clock-with_write, count-with_write, greatest-with_write, with_write_has, has_with_write}
use Rattle.mr_model.proofs.Orders.{added, new_not_committed, order-submit, places-submit, place-submit}
use Rattle.mr_model.proofs.OwnCancels.{others_stay, stands_itself, row_next, row_same, row_taken}
use Rattle.mr_model.proofs.UniqueReplay.{some_inj, none_some}

-- ---- a submission

-- rows of the known writes and of one more
row_more : {R : Type 0} (r : Replica) (w : Write) (f g : Write → Option R) (row : R) → IsReplica r → IsReplica (add_write r w)
    → ((v : Write) → Has v r.known → f v ≡ g v) → Has row (filter_map f (by_id (with_write w r.known))) → (f w ≡ Some row) ⊎ Has row (filter_map g (by_id r.known))
row_more r w f g row h k same a =
    let (x, b, e) = filter_map_has f row (by_id (with_write w r.known)) a in
    go x e (with_write_has w x r.known (by_id_has (add_write r w) x b))
  where
    go : (x : Write) → f x ≡ Some row → (x ≡ w) ⊎ Has x r.known → (f w ≡ Some row) ⊎ Has row (filter_map g (by_id r.known))
    go x e (inl s) = inl (ap f (sym s) ∙ e)
    go x e (inr i) = inr (has_filter_map g x row (by_id r.known) (sym (same x i) ∙ e) (has_by_id r x h i))

more_row : {R : Type 0} (r : Replica) (w : Write) (f g : Write → Option R) (row : R) → IsReplica r → IsReplica (add_write r w)
    → ((v : Write) → Has v r.known → f v ≡ g v) → (f w ≡ Some row) ⊎ Has row (filter_map g (by_id r.known)) → Has row (filter_map f (by_id (with_write w r.known)))
more_row r w f g row h k same (inl e) = has_filter_map f w row (by_id (with_write w r.known)) e (has_by_id (add_write r w) w k (has_with_write w w r.known (inl refl)))
more_row r w f g row h k same (inr a) =
    let (x, b, e) = filter_map_has g row (by_id r.known) a in
    let i = by_id_has r x b in
    has_filter_map f x row (by_id (with_write w r.known)) (same x i ∙ e) (has_by_id (add_write r w) x k (has_with_write w x r.known (inr i)))

name_irreflexive : (t : Text) → text_before t t ≡ true → ⊥
name_irreflexive [] e = true≢false (sym e)
name_irreflexive (c ∷ cs) e = go (or_cases (ltb c c) (eqb c c && text_before cs cs) e) (name_irreflexive cs)
  where
    go : (ltb c c ≡ true) ⊎ ((eqb c c && text_before cs cs) ≡ true) → (text_before cs cs ≡ true → ⊥) → ⊥
    go (inl l) ih = let m : c < c = ltb-true c c l in omega (arith, m)
    go (inr l) ih = ih (and_parts (eqb c c) (text_before cs cs) l).1

-- a name before all of these is none of them
not_behind : (t : Text) (ts : List Text) → AllByRecursion (λ u. IsTrue (text_before t u)) ts → list_any (bytes_eq t) ts ≡ true → ⊥
not_behind t [] all e = true≢false (sym e)
not_behind t (u ∷ us) all e = go (or_cases (bytes_eq t u) (list_any (bytes_eq t) us) e) (not_behind t us all.1)
  where
    go : (bytes_eq t u ≡ true) ⊎ (list_any (bytes_eq t) us ≡ true) → (list_any (bytes_eq t) us ≡ true → ⊥) → ⊥
    go (inl f) ih = name_irreflexive t (subst (λ v. text_before t v ≡ true) (sym ((bytes_eq-Decides t u).0 f)) all.0)
    go (inr f) ih = ih f

-- a room that is known stays where it is
pub same_rooms : (t : Text) (ts : List Text) → AreInNameOrder ts → list_any (bytes_eq t) ts ≡ true → with_room t ts ≡ ts
same_rooms t [] o e = absurd (true≢false (sym e))
same_rooms t (x ∷ xs) o e = go (text_before t x) refl (bytes_eq t x) refl (same_rooms t xs o.1)
  where
    all_behind : text_before t x ≡ true → AllByRecursion (λ u. IsTrue (text_before t u)) (x ∷ xs)
    all_behind b = (b, has_all (λ u. IsTrue (text_before t u)) xs (λ u h. name_trans t x u b (all_has (λ v. IsTrue (text_before x v)) u xs o.0 h)))

    tail : bytes_eq t x ≡ false → (bytes_eq t x ≡ true) ⊎ (list_any (bytes_eq t) xs ≡ true) → list_any (bytes_eq t) xs ≡ true
    tail f (inl g) = absurd (true≢false (sym g ∙ f))
    tail f (inr g) = g

    go : (b : Bool) → text_before t x ≡ b → (c : Bool) → bytes_eq t x ≡ c → (list_any (bytes_eq t) xs ≡ true → with_room t xs ≡ xs)
        → cond b (t ∷ x ∷ xs) (cond c (x ∷ xs) (x ∷ with_room t xs)) ≡ x ∷ xs
    go true b c f ih = absurd (not_behind t (x ∷ xs) (all_behind b) e)
    go false b true f ih = refl
    go false b false f ih = ap (λ us. x ∷ us) (ih (tail f (or_cases (bytes_eq t x) (list_any (bytes_eq t) xs) e)))

-- a submission becomes the last of the order, and adds its rows
pub submit_changes : (r : Replica) (w : Write) → IsReplica r → IsNext r w → clock_of r < w.stamp.time → knows_room r w.room ≡ true → SubmitChanges r w
submit_changes r w h n late known =
    record {
      order = order-submit r w h n late;
      place = (places-submit r w h n late).1;
      tentative = open_;
      number = seq_not 1 r.commits (id_of w) (new_not_committed r w h n);
      standing = stands_itself r w h n late;
      places = λ v a. place-submit r w v h n late a;
      others = others_stay r w h n late;
      meta = clock;
      room = same_rooms w.room r.rooms h.rooms_in_order known;
      vector = λ row. (vector_to row, vector_from row);
      log = λ row. (log_to row, log_from row);
      booking = λ row. (booking_to row, booking_from row);
      errorlog = λ row. (row_more r w (error_row new) (error_row r) row h k same_error_row, more_row r w (error_row new) (error_row r) row h k same_error_row);
      cancelled = λ row. (cancelled_to row, cancelled_from row);
      cancels = λ row. (row_more r w (cancel_row new) (cancel_row r) row h k same_cancel_row, more_row r w (cancel_row new) (cancel_row r) row h k same_cancel_row);
    }
  where
    new : Replica
    new = add_write r w

    k : IsReplica (add_write r w)
    k = added r w h n

    open_ : is_committed (add_write r w) (id_of w) ≡ false
    open_ = not_among (id_of w) r.commits (new_not_committed r w h n)

    kept_new : is_dropped (add_write r w) (id_of w) ≡ false
    kept_new = false_from_ne_true (is_dropped r (id_of w)) (λ d. new_not_committed r w h n (dropped_commit r (id_of w) d))

    clock : (tables_of (add_write r w)).meta ≡ record (tables_of r).meta { clock = w.stamp.time }
    clock =
        let c : clock_of (add_write r w) ≡ w.stamp.time = clock-with_write w r.known ∙ (let l : clock_of r < w.stamp.time = late in omega (arith, l)) in
        λ i. record { server = r.server; primary = r.primary; commits = length r.commits; dropped = r.dropped; clock = c i }

    -- a cancel more touches no row of errorlog or cancels
    as_error-recancel : (c : Option Id) (p : PlaceRow) → as_error (recancel c p) ≡ as_error p
    as_error-recancel None (rows.Booked row) = refl
    as_error-recancel (Some i) (rows.Booked row) = refl
    as_error-recancel None (rows.Cancelled row) = refl
    as_error-recancel (Some i) (rows.Cancelled row) = refl
    as_error-recancel c (rows.Erred row) = refl
    as_error-recancel c (rows.Cancel row) = refl

    as_cancel-recancel : (c : Option Id) (p : PlaceRow) → as_cancel (recancel c p) ≡ as_cancel p
    as_cancel-recancel None (rows.Booked row) = refl
    as_cancel-recancel (Some i) (rows.Booked row) = refl
    as_cancel-recancel None (rows.Cancelled row) = refl
    as_cancel-recancel (Some i) (rows.Cancelled row) = refl
    as_cancel-recancel c (rows.Erred row) = refl
    as_cancel-recancel c (rows.Cancel row) = refl

    same_error_row : (v : Write) → Has v r.known → error_row (add_write r w) v ≡ error_row r v
    same_error_row v a = ap as_error (row_next r w h n late v a) ∙ as_error-recancel (canceller_of (add_write r w) v) (place_row r v)

    same_cancel_row : (v : Write) → Has v r.known → cancel_row (add_write r w) v ≡ cancel_row r v
    same_cancel_row v a = ap as_cancel (row_next r w h n late v a) ∙ as_cancel-recancel (canceller_of (add_write r w) v) (place_row r v)

    -- the write of a row of the new tables
    of_new : {R : Type 0} (f : Write → Option R) (row : R) → Has row (filter_map f (by_id (with_write w r.known))) → (x : Write) × ((x ≡ w) ⊎ Has x r.known) × (f x ≡ Some row)
    of_new f row a =
        let (x, b, e) = filter_map_has f row (by_id (with_write w r.known)) a in
        (x, with_write_has w x r.known (by_id_has (add_write r w) x b), e)

    in_new : {R : Type 0} (f : Write → Option R) (row : R) (x : Write) → (x ≡ w) ⊎ Has x r.known → f x ≡ Some row → Has row (filter_map f (by_id (with_write w r.known)))
    in_new f row x b e = has_filter_map f x row (by_id (with_write w r.known)) e (has_by_id (add_write r w) x k (has_with_write w x r.known b))

    booking_to : (row : BookingRow) → Has row (tables_of (add_write r w)).booking
        → (booking_row (add_write r w) w ≡ Some row) ⊎ (Has row (tables_of r).booking × (takes_back r w (booking_id row) ≡ false))
    booking_to row a = let (x, b, e) = of_new (booking_row (add_write r w)) row a in go x b e
      where
        old : (x : Write) → Has x r.known → as_booking (place_row (add_write r w) x) ≡ Some row → (t : Bool)
            → takes_back r w (id_of x) ≡ t → Has row (tables_of r).booking × (takes_back r w (booking_id row) ≡ false)
        old x c e false f =
            let is : as_booking (place_row r x) ≡ Some row = ap as_booking (sym (row_same r w h n late x c f)) ∙ e in (
              of_known as_booking r row h x c is,
              ap (takes_back r w) (sym (ap row_id (booked_is row (place_row r x) is)) ∙ key-row r x) ∙ f,
            )
        old x c e true f = let (b, g, i) = row_taken r w h n late x c f in absurd (none_some row (sym (ap as_booking i) ∙ e))

        go : (x : Write) → (x ≡ w) ⊎ Has x r.known → as_booking (place_row (add_write r w) x) ≡ Some row
            → (booking_row (add_write r w) w ≡ Some row) ⊎ (Has row (tables_of r).booking × (takes_back r w (booking_id row) ≡ false))
        go x (inl s) e = inl (ap (booking_row (add_write r w)) (sym s) ∙ e)
        go x (inr c) e = inr (old x c e (takes_back r w (id_of x)) refl)

    booking_from : (row : BookingRow) → (booking_row (add_write r w) w ≡ Some row) ⊎ (Has row (tables_of r).booking × (takes_back r w (booking_id row) ≡ false))
        → Has row (tables_of (add_write r w)).booking
    booking_from row (inl e) = in_new (booking_row (add_write r w)) row w (inl refl) e
    booking_from row (inr p) =
        let (x, c, e) = known_of as_booking r row p.0 in
        let key : booking_id row ≡ id_of x = sym (ap row_id (booked_is row (place_row r x) e)) ∙ key-row r x in
        in_new (booking_row (add_write r w)) row x (inr c) (ap as_booking (row_same r w h n late x c (ap (takes_back r w) (sym key) ∙ p.1)) ∙ e)

    -- the write itself is not cancelled
    not_own : (row : CancelledRow) → as_cancelled (place_row (add_write r w) w) ≡ Some row → ⊥
    not_own row e = go (place_row (add_write r w) w) refl e
      where
        go : (p : PlaceRow) → place_row (add_write r w) w ≡ p → as_cancelled p ≡ Some row → ⊥
        go (rows.Booked x) f g = none_some row g
        go (rows.Erred x) f g = none_some row g
        go (rows.Cancel x) f g = none_some row g
        go (rows.Cancelled x) f g =
            none_some x.by
            (sym (stands_itself r w h n late) ∙ sym (row-cancel (add_write r w) w (told_booking (as_booked x)) (sym (row-made (add_write r w) w) ∙ ap row_booking f)) ∙ ap row_by f)

    cancelled_to : (row : CancelledRow) → Has row (tables_of (add_write r w)).cancelled
        → ((b : BookingRow) × Has b (tables_of r).booking × (takes_back r w (booking_id b) ≡ true) × (row ≡ taken_back (id_of w) b)) ⊎ Has row (tables_of r).cancelled
    cancelled_to row a = let (x, b, e) = of_new (cancelled_row (add_write r w)) row a in go x b e
      where
        old : (x : Write) → Has x r.known → as_cancelled (place_row (add_write r w) x) ≡ Some row → (t : Bool) → takes_back r w (id_of x) ≡ t
            → ((b : BookingRow) × Has b (tables_of r).booking × (takes_back r w (booking_id b) ≡ true) × (row ≡ taken_back (id_of w) b)) ⊎ Has row (tables_of r).cancelled
        old x c e false f = inr (of_known as_cancelled r row h x c (ap as_cancelled (sym (row_same r w h n late x c f)) ∙ e))
        old x c e true f =
            let (b, g, i) = row_taken r w h n late x c f in
            inl (
              b,
              of_known as_booking r b h x c (ap as_booking g),
              ap (takes_back r w) (sym (ap row_id g) ∙ key-row r x) ∙ f,
              some_inj row (taken_back (id_of w) b) (sym e ∙ ap as_cancelled i),
            )

        go : (x : Write) → (x ≡ w) ⊎ Has x r.known → as_cancelled (place_row (add_write r w) x) ≡ Some row
            → ((b : BookingRow) × Has b (tables_of r).booking × (takes_back r w (booking_id b) ≡ true) × (row ≡ taken_back (id_of w) b)) ⊎ Has row (tables_of r).cancelled
        go x (inl s) e = absurd (not_own row (ap (cancelled_row (add_write r w)) (sym s) ∙ e))
        go x (inr c) e = old x c e (takes_back r w (id_of x)) refl

    cancelled_from : (row : CancelledRow) → ((b : BookingRow) × Has b (tables_of r).booking × (takes_back r w (booking_id b) ≡ true) × (row ≡ taken_back (id_of w) b))
        ⊎ Has row (tables_of r).cancelled → Has row (tables_of (add_write r w)).cancelled
    cancelled_from row (inl (b, a, t, s)) =
        let (x, c, e) = known_of as_booking r b a in
        let is : place_row r x ≡ rows.Booked b = booked_is b (place_row r x) e in
        let (d, g, i) = row_taken r w h n late x c (ap (takes_back r w) (sym (key-row r x) ∙ ap row_id is) ∙ t) in
        let same : d ≡ b = some_inj d b (ap as_booking (sym g ∙ is)) in
        in_new (cancelled_row (add_write r w)) row x (inr c) (ap as_cancelled i ∙ ap (λ y. Some (taken_back (id_of w) y)) same ∙ ap Some (sym s))
    cancelled_from row (inr a) =
        let (x, c, e) = known_of as_cancelled r row a in
        in_new (cancelled_row (add_write r w)) row x (inr c) (ap as_cancelled (row_same r w h n late x c (go x c e (takes_back r w (id_of x)) refl)) ∙ e)
      where
        go : (x : Write) → Has x r.known → as_cancelled (place_row r x) ≡ Some row → (t : Bool) → takes_back r w (id_of x) ≡ t → takes_back r w (id_of x) ≡ false
        go x c e false f = f
        go x c e true f = let (b, g, i) = row_taken r w h n late x c f in absurd (none_some row (sym (ap as_cancelled g) ∙ e))

    same_log : (v : Write) → Has v r.known → kept_log (add_write r w) v ≡ kept_log r v
    same_log v a = ap (λ p. cond (is_dropped r (id_of v)) None (Some (log_row_with v p (seq_of r v)))) (place-submit r w v h n late a)

    log_to : (row : LogRow) → Has row (tables_of (add_write r w)).log → (row ≡ log_row (add_write r w) w) ⊎ Has row (tables_of r).log
    log_to row a = go (row_more r w (kept_log (add_write r w)) (kept_log r) row h k same_log
        (subst (λ rows. Has row rows) (map_filter (λ v. is_dropped r (id_of v)) (log_row (add_write r w)) (by_id (with_write w r.known))) a))
      where
        go : (kept_log (add_write r w) w ≡ Some row) ⊎ Has row (filter_map (kept_log r) (by_id r.known)) → (row ≡ log_row (add_write r w) w) ⊎ Has row (tables_of r).log
        go (inl e) = inl (sym (some_inj (log_row (add_write r w) w) row (sym (cond-false (is_dropped r (id_of w)) None (Some (log_row (add_write r w) w)) kept_new) ∙ e)))
        go (inr b) = inr (subst (λ rows. Has row rows) (sym (map_filter (λ v. is_dropped r (id_of v)) (log_row r) (by_id r.known))) b)

    log_from : (row : LogRow) → (row ≡ log_row (add_write r w) w) ⊎ Has row (tables_of r).log → Has row (tables_of (add_write r w)).log
    log_from row s = subst (λ rows. Has row rows) (sym (map_filter (λ v. is_dropped r (id_of v)) (log_row (add_write r w)) (by_id (with_write w r.known))))
        (more_row r w (kept_log (add_write r w)) (kept_log r) row h k same_log (go s))
      where
        go : (row ≡ log_row (add_write r w) w) ⊎ Has row (tables_of r).log → (kept_log (add_write r w) w ≡ Some row) ⊎ Has row (filter_map (kept_log r) (by_id r.known))
        go (inl e) = inl (cond-false (is_dropped r (id_of w)) None (Some (log_row (add_write r w) w)) kept_new ∙ ap Some (sym e))
        go (inr b) = inr (subst (λ rows. Has row rows) (map_filter (λ v. is_dropped r (id_of v)) (log_row r) (by_id r.known)) b)

    count_own : count_of (add_write r w) w.stamp.server ≡ w.stamp.n
    count_own =
        let e = count-with_write (λ v. eqb v.stamp.server w.stamp.server) w r.known
        ∙ cond-true (eqb w.stamp.server w.stamp.server) (suc (count_of r w.stamp.server)) (count_of r w.stamp.server) (eq-eqb w.stamp.server w.stamp.server refl) in
        let m : w.stamp.n ≡ count_of r w.stamp.server + 1 = n.number in
        e ∙ omega (arith, m)

    last_own : last_time (add_write r w) w.stamp.server ≡ w.stamp.time
    last_own =
        let e = greatest-with_write (λ v. eqb v.stamp.server w.stamp.server) w r.known
        ∙ cond-true (eqb w.stamp.server w.stamp.server) (max w.stamp.time (last_time r w.stamp.server)) (last_time r w.stamp.server) (eq-eqb w.stamp.server w.stamp.server refl) in
        let l : last_time r w.stamp.server < w.stamp.time = n.late in
        e ∙ omega (arith, l)

    own_row : vector_row (add_write r w) w.stamp.server ≡ new_vector_row r w ∷ []
    own_row =
        let some : eqb (count_of (add_write r w) w.stamp.server) 0 ≡ false = false_from_ne_true (eqb (count_of (add_write r w) w.stamp.server) 0)
        (λ e. let z : count_of (add_write r w) w.stamp.server ≡ 0 = eqb-true (count_of (add_write r w) w.stamp.server) 0 e in
        let m : w.stamp.n ≡ count_of r w.stamp.server + 1 = n.number in let c : count_of (add_write r w) w.stamp.server ≡ w.stamp.n = count_own in omega (arith, z, m, c)) in
        cond-false (eqb (count_of (add_write r w) w.stamp.server) 0) [] (vector_entry (add_write r w) w.stamp.server ∷ []) some
        ∙ (λ i. record { server = w.stamp.server; count = count_own i; last_time = last_own i; committed = committed_count r w.stamp.server } ∷ [])

    other_row : (s : ℕ) → (s ≡ w.stamp.server → ⊥) → vector_row (add_write r w) s ≡ vector_row r s
    other_row s ne =
        let f : eqb w.stamp.server s ≡ false = ne_eqb w.stamp.server s (λ e. ne (sym e)) in
        let c : count_of (add_write r w) s ≡ count_of r s = count-with_write (λ v. eqb v.stamp.server s) w r.known ∙ cond-false (eqb w.stamp.server s) (suc (count_of r s)) (count_of r s) f in
        let l : last_time (add_write r w) s ≡ last_time r s = greatest-with_write (λ v. eqb v.stamp.server s) w r.known
        ∙ cond-false (eqb w.stamp.server s) (max w.stamp.time (last_time r s)) (last_time r s) f in
        λ i. cond (eqb (c i) 0) [] (record { server = s; count = c i; last_time = l i; committed = committed_count r s } ∷ [])

    row_server : (x : Replica) (s : ℕ) (row : VectorRow) → Has row (vector_row x s) → row.server ≡ s
    row_server x s row a = ap (λ (v : VectorRow). v.server) (in_row x s row a)

    vector_to : (row : VectorRow) → Has row (tables_of (add_write r w)).vector → (row ≡ new_vector_row r w) ⊎ (Has row (tables_of r).vector × ¬ (row.server ≡ w.stamp.server))
    vector_to row a =
        let (s, b, c) = flat_has (vector_row (add_write r w)) row (numbers_on 1 99) a in
        go s b c (cases_eq s w.stamp.server)
      where
        single : Has row (new_vector_row r w ∷ []) → row ≡ new_vector_row r w
        single (inl e) = e
        single (inr g) = absurd g

        go : (s : ℕ) → Has s (numbers_on 1 99) → Has row (vector_row (add_write r w) s) → (s ≡ w.stamp.server) ⊎ (s ≡ w.stamp.server → ⊥)
            → (row ≡ new_vector_row r w) ⊎ (Has row (tables_of r).vector × ¬ (row.server ≡ w.stamp.server))
        go s b c (inl e) = inl (single (subst (λ rows. Has row rows) own_row (subst (λ t. Has row (vector_row (add_write r w) t)) e c)))
        go s b c (inr ne) = inr (has_flat (vector_row r) row s (numbers_on 1 99) b (subst (λ rows. Has row rows) (other_row s ne) c), λ e. ne (sym (row_server (add_write r w) s row c) ∙ e))

    vector_from : (row : VectorRow) → (row ≡ new_vector_row r w) ⊎ (Has row (tables_of r).vector × ¬ (row.server ≡ w.stamp.server)) → Has row (tables_of (add_write r w)).vector
    vector_from row (inl e) =
        let b = server_bounds w n.is_write in
        let top : w.stamp.server ≤ 99 = b.1 in
        has_flat (vector_row (add_write r w)) row w.stamp.server (numbers_on 1 99) (has_numbers w.stamp.server 1 99 b.0 (omega (arith, top))) (subst (λ rows. Has row rows) (sym own_row) (inl e))
    vector_from row (inr p) =
        let (s, b, c) = flat_has (vector_row r) row (numbers_on 1 99) p.0 in
        has_flat (vector_row (add_write r w)) row s (numbers_on 1 99) b (subst (λ rows. Has row rows) (sym (other_row s (λ e. p.1 (row_server r s row c ∙ e)))) c)
