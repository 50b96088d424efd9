-- The change between two replicas, where all but some writes keep their rows, turns the tables of the one into those of the other.
use Rattle.std.proofs.Common.{◌≡◌, refl, sym, ap, ◌∙◌, subst, ℕ, zero, suc, ◌+◌, ◌≤◌, Bool, true, false, ◌||◌, cond, eqb}
use Rattle.std.proofs.Common.{ltb, List, [], ◌∷◌, length, map, ◌⊎◌, inl, inr, Option, Some, None, arith, lt-ltb}
use Rattle.std.proofs.lemmas.Bool.{true≢false, cond-false, or_cases, or_left, or_right}
use Rattle.std.proofs.lemmas.Slice.Eq.{bytes_eq-Decides}
use Rattle.std.specs.Prelude.{flat_map, bytes_eq, ◌↔◌}
use Rattle.std.specs.List.{filter_map, list_any, cons_option}
use Rattle.mr_model.specs.Texts.{Text, numbers_on}
use Rattle.mr_model.specs.Slots.{Slot}
use Rattle.mr_model.specs.Writes.{Id, Action, Books, Cancels, Write, id_of}
use Rattle.mr_model.specs.Replica.{Replica, IsReplica, count_of, writes_of, text_before, is_among, is_dropped, is_committed}
use Rattle.mr_model.specs.Replay.{Place, slot_at}
use Rattle.mr_model.specs.View.{place_of, canceller_of}
use Rattle.mr_model.specs.Tables.{VectorRow, LogRow, BookingRow, ErrorRow, CancelledRow, CancelRow, PlaceRow, by_id, seq_of, vector_row, log_row}
use Rattle.mr_model.specs.Tables.{as_booking, as_error, as_cancelled, as_cancel, booking_place_row, place_row_for, place_row, tables_of}
use Rattle.mr_model.specs.Queries.{booking_id, error_id, cancelled_id, cancel_id, row_id, log_id}
use Rattle.mr_model.specs.Tables as rows
use Rattle.mr_model.specs.Changes.{IdBefore}
use Rattle.mr_model.specs.Dropped.{Has}
use Rattle.mr_model.proofs.ErrorsTell.{sorted_filter_map}
use Rattle.mr_model.proofs.KeyOrder.{WriteBefore, by_id_sorted, numbers_low}
use Rattle.mr_model.proofs.KnownById.{one_known}
use Rattle.mr_model.proofs.Members.{has_map, map_has, has_filter, filter_has, has_filter_map, filter_map_has, has_among, among_has, any_has, has_any}
use Rattle.mr_model.proofs.RowsById.{flat_has, has_by_id, by_id_has, map_filter}
use Rattle.mr_model.proofs.RowsOfKnown.{rows_of_known}
use Rattle.mr_model.proofs.RowsTell.{booked_is, erred_is, cancelled_is, cancel_is}
use Rattle.mr_model.proofs.Runs.{sorted_append}
use Rattle.mr_model.proofs.TablesTell.{vector_entry, in_row, counted_server, key-row}
use Rattle.mr_model.proofs.TruncateRows.{front-seq}
use Rattle.mr_model.proofs.UniqueReplay.{some_inj, none_some}
use Rattle.mr_tables.specs.Change.{put_all, rows_without, id_before, ChangeView, changed}
use Rattle.mr_tables.specs.Written.{not_booked, not_erred, not_cancelled, with_places}
use Rattle.mr_tables.specs.TableOrders.{InOrder, number_order, name_order, id_before_from}
use Rattle.mr_tables.proofs.Putting.{Lacks, puts_make, change_makes, without_none}
use Rattle.mr_part.specs.Sets.{AreTogether}

-- ---- one table of writes

-- each row bears the id of its write
abbrev pub Bears : {R : Type 0} → (R → Id) → (Write → Option R) → Type 0
Bears {R} key f = (w : Write) (row : R) → f w ≡ Some row → key row ≡ id_of w

pub rows_in_order : {R : Type 0} (r : Replica) (key : R → Id) (f : Write → Option R) → IsReplica r → Bears key f → InOrder id_before key (filter_map f (by_id r.known))
rows_in_order r key f h keyed =
    sorted_filter_map WriteBefore (λ a b. id_before (key a) (key b) ≡ true) f (by_id r.known)
    (λ x y u v l e g. id_before_from (key u) (key v) (subst (λ i. IdBefore i (key v)) (sym (keyed x u e)) (subst (λ i. IdBefore (id_of x) i) (sym (keyed y v g)) l))) (by_id_sorted r h)

-- each row of a place bears the id of its write
pub place_bears : {R : Type 0} (r : Replica) (f : PlaceRow → Option R) (key : R → Id) → ((q : PlaceRow) (row : R) → f q ≡ Some row → key row ≡ row_id q) → Bears key (λ w. f (place_row r w))
place_bears r f key g w row e = g (place_row r w) row e ∙ key-row r w

-- the rows put are those that these writes have now, the ids taken away are of those that have none now, and all others have the rows
-- that they had
pub record RowsMove (R : Type 0) (a b : Replica) (fa fb : Write → Option R) (ws : List Write) (rows : List R) (gone : List Id) : Type 0 where
  pub stays : (w : Write) → Has w a.known → Has w b.known
  pub others : (w : Write) → Has w b.known → Has w ws ⊎ (Has w a.known × (fa w ≡ fb w))
  pub moved : (w : Write) → Has w ws → Has w b.known
  pub put_is : (row : R) → Has row rows → (w : Write) × Has w ws × (fb w ≡ Some row)
  pub is_put : (w : Write) (row : R) → Has w ws → fb w ≡ Some row → Has row rows
  pub gone_is : (i : Id) → Has i gone → (w : Write) × Has w ws × (id_of w ≡ i)
  pub is_gone : (w : Write) (row : R) → Has w ws → fa w ≡ Some row → fb w ≡ None → Has (id_of w) gone

pub rows_move : {R : Type 0} (a b : Replica) (key : R → Id) (fa fb : Write → Option R) (ws : List Write) (rows : List R) (gone : List Id)
    → IsReplica a → IsReplica b → Bears key fa → Bears key fb → RowsMove R a b fa fb ws rows gone
    → put_all id_before key rows (rows_without key gone (filter_map fa (by_id a.known))) ≡ filter_map fb (by_id b.known)
rows_move {R} a b key fa fb ws rows gone ha hb ka kb m =
    change_makes key gone rows (filter_map fa (by_id a.known)) (filter_map fb (by_id b.known)) (rows_in_order a key fa ha ka)
    (rows_in_order b key fb hb kb) new old (λ row h. let (w, c, e) = filter_map_has fb row (by_id b.known) h in told row w (by_id_has b w c) e)
  where
    row_there : (w : Write) (row : R) → Has w b.known → fb w ≡ Some row → Has row (filter_map fb (by_id b.known))
    row_there w row h e = has_filter_map fb w row (by_id b.known) e (has_by_id b w hb h)

    new : (row : R) → Has row rows → Has row (filter_map fb (by_id b.known))
    new row h = let (w, c, e) = m.put_is row h in row_there w row (m.moved w c) e

    old : (row : R) → Has row (filter_map fa (by_id a.known)) → Lacks key (key row) rows → (Has (key row) gone → ⊥) → Has row (filter_map fb (by_id b.known))
    old row h lacks left =
        let (w, c, e) = filter_map_has fa row (by_id a.known) h in
        let known = m.stays w (by_id_has a w c) in go w e known (m.others w known) (fb w) refl
      where
        go : (w : Write) → fa w ≡ Some row → Has w b.known → Has w ws ⊎ (Has w a.known × (fa w ≡ fb w)) → (o : Option R) → fb w ≡ o → Has row (filter_map fb (by_id b.known))
        go w e known (inr p) o f = row_there w row known (sym p.1 ∙ e)
        go w e known (inl c) None f = absurd (left (subst (λ i. Has i gone) (sym (ka w row e)) (m.is_gone w row c e f)))
        go w e known (inl c) (Some other) f = absurd (lacks other (m.is_put w other c f) (kb w other f ∙ sym (ka w row e)))

    told : (row : R) (w : Write) → Has w b.known → fb w ≡ Some row → Has row rows ⊎ (Has row (filter_map fa (by_id a.known)) × (Has (key row) gone → ⊥))
    told row w h e = go (m.others w h) (is_among (key row) gone) refl
      where
        go : Has w ws ⊎ (Has w a.known × (fa w ≡ fb w)) → (c : Bool) → is_among (key row) gone ≡ c → Has row rows ⊎ (Has row (filter_map fa (by_id a.known)) × (Has (key row) gone → ⊥))
        go (inl c) d f = inl (m.is_put w row c e)
        go (inr p) false f = inr (has_filter_map fa w row (by_id a.known) (p.1 ∙ e) (has_by_id a w ha p.0), λ g. true≢false (sym (has_among (key row) gone g) ∙ f))
        go (inr p) true f =
            let (v, c, i) = m.gone_is (key row) (among_has (key row) gone f) in
            let same : v ≡ w = one_known b v w hb (m.moved v c) h (i ∙ kb w row e) in
            inl (m.is_put w row (subst (λ u. Has u ws) same c) e)

-- ---- all tables

-- These writes get their rows of the log, and these their rows of what became of them; all others have the rows that they had.
pub record Moves (a b : Replica) (logs places : List Write) : Type 0 where
  pub dropped : a.dropped ≡ b.dropped
  pub stays : (w : Write) → Has w a.known → Has w b.known
  pub logged : (w : Write) → Has w b.known → Has w logs ⊎ (Has w a.known × (place_of a w ≡ place_of b w) × (seq_of a w ≡ seq_of b w))
  pub placed : (w : Write) → Has w b.known → Has w places ⊎ (Has w a.known × (place_row a w ≡ place_row b w))
  pub kept : (w : Write) → Has w logs → Has w b.known × (is_dropped b (id_of w) ≡ false)
  pub known : (w : Write) → Has w places → Has w b.known

-- what is put and taken away then, with these rooms and rows of servers
abbrev pub change_of : Replica → List Write → List Write → List Text → List VectorRow → ChangeView
change_of b logs places rooms vector = with_places (tables_of b).meta rooms vector (map (log_row b) logs) (map (place_row b) places)

abbrev kept_log : Replica → Write → Option LogRow
kept_log r w = cond (is_dropped r (id_of w)) None (Some (log_row r w))

pub log_bears : (r : Replica) → Bears log_id (kept_log r)
log_bears r w row e = go (is_dropped r (id_of w)) e
  where
    go : (b : Bool) → cond b None (Some (log_row r w)) ≡ Some row → log_id row ≡ id_of w
    go true g = absurd (none_some row g)
    go false g = ap log_id (sym (some_inj (log_row r w) row g))

pub booking_bears : (r : Replica) → Bears booking_id (λ w. as_booking (place_row r w))
booking_bears r = place_bears r as_booking booking_id (λ q row e. sym (ap row_id (booked_is row q e)))

pub error_bears : (r : Replica) → Bears error_id (λ w. as_error (place_row r w))
error_bears r = place_bears r as_error error_id (λ q row e. sym (ap row_id (erred_is row q e)))

pub cancelled_bears : (r : Replica) → Bears cancelled_id (λ w. as_cancelled (place_row r w))
cancelled_bears r = place_bears r as_cancelled cancelled_id (λ q row e. sym (ap row_id (cancelled_is row q e)))

pub cancel_bears : (r : Replica) → Bears cancel_id (λ w. as_cancel (place_row r w))
cancel_bears r = place_bears r as_cancel cancel_id (λ q row e. sym (ap row_id (cancel_is row q e)))

-- ---- servers

row_alone : (r : Replica) (s : ℕ) → InOrder ltb (λ (row : VectorRow). row.server) (vector_row r s)
row_alone r s = go (eqb (count_of r s) 0)
  where
    go : (c : Bool) → InOrder ltb (λ (row : VectorRow). row.server) (cond c [] (vector_entry r s ∷ []))
    go true = tt
    go false = (tt, tt)

pub vector_in_order : (r : Replica) (k n : ℕ) → InOrder ltb (λ (row : VectorRow). row.server) (flat_map (vector_row r) (numbers_on k n))
vector_in_order r k zero = tt
vector_in_order r k (suc n) =
    sorted_append (λ (x y : VectorRow). ltb x.server y.server ≡ true) (vector_row r k) (flat_map (vector_row r) (numbers_on (k + 1) n)) (row_alone r k) (vector_in_order r (k + 1) n)
    (λ x y a b. let (s, c, d) = flat_has (vector_row r) y (numbers_on (k + 1) n) b in
    let l : k + 1 ≤ s = numbers_low s (k + 1) n c in
    let p : x.server ≡ k = ap (λ (v : VectorRow). v.server) (in_row r k x a) in
    let q : y.server ≡ s = ap (λ (v : VectorRow). v.server) (in_row r s y d) in
    lt-ltb x.server y.server (omega (arith, l, p, q)))

-- rows of servers, where these are rows of now, and each server with no row here is as it was
pub vectors_move : (a b : Replica) (rows : List VectorRow) → IsReplica a → IsReplica b
    → ((w : Write) → Has w a.known → Has w b.known) → ((row : VectorRow) → Has row rows → Has row (tables_of b).vector)
    → ((s : ℕ) → 1 ≤ s → s ≤ 99 → (count_of b s ≡ 0 → ⊥) → Has (vector_entry b s) rows ⊎ (vector_entry a s ≡ vector_entry b s))
    → put_all ltb (λ (row : VectorRow). row.server) rows (tables_of a).vector ≡ (tables_of b).vector
vectors_move a b rows ha hb stays new others =
    puts_make ltb (λ (row : VectorRow). row.server) number_order rows (tables_of a).vector (tables_of b).vector (vector_in_order a 1 99) (vector_in_order b 1 99) new old told
  where
    -- a server that had writes has some
    counted : (s : ℕ) → (count_of a s ≡ 0 → ⊥) → count_of b s ≡ 0 → ⊥
    counted s ne z = go (writes_of s a.known) refl
      where
        go : (ws : List Write) → writes_of s a.known ≡ ws → ⊥
        go [] e = ne (ap length e)
        go (w ∷ ws) e =
            let f = filter_has (λ v. eqb v.stamp.server s) w a.known (subst (λ vs. Has w vs) (sym e) (inl refl)) in
            let there : Has w (writes_of s b.known) = has_filter (λ v. eqb v.stamp.server s) w b.known f.1 (stays w f.0) in
            none_there (writes_of s b.known) z there
          where
            none_there : (vs : List Write) → length vs ≡ 0 → Has w vs → ⊥
            none_there [] l h = h
            none_there (v ∷ vs) l h = let t : suc (length vs) ≡ 0 = l in omega (arith, t)

    old : (row : VectorRow) → Has row (tables_of a).vector → Lacks (λ (v : VectorRow). v.server) row.server rows → Has row (tables_of b).vector
    old row h lacks = go (((rows_of_known a ha).vector row).0 h)
      where
        go : ¬ (count_of a row.server ≡ 0) × (row ≡ vector_entry a row.server) → Has row (tables_of b).vector
        go p = more (others row.server (counted_server a row.server ha p.0).0 (counted_server a row.server ha p.0).1 (counted row.server p.0))
          where
            more : Has (vector_entry b row.server) rows ⊎ (vector_entry a row.server ≡ vector_entry b row.server) → Has row (tables_of b).vector
            more (inl c) = absurd (lacks (vector_entry b row.server) c refl)
            more (inr e) = ((rows_of_known b hb).vector row).1 (counted row.server p.0, p.1 ∙ e)

    told : (row : VectorRow) → Has row (tables_of b).vector → Has row rows ⊎ Has row (tables_of a).vector
    told row h = go (((rows_of_known b hb).vector row).0 h)
      where
        go : ¬ (count_of b row.server ≡ 0) × (row ≡ vector_entry b row.server) → Has row rows ⊎ Has row (tables_of a).vector
        go p = more (others row.server (counted_server b row.server hb p.0).0 (counted_server b row.server hb p.0).1 p.0)
          where
            more : Has (vector_entry b row.server) rows ⊎ (vector_entry a row.server ≡ vector_entry b row.server) → Has row rows ⊎ Has row (tables_of a).vector
            more (inl c) = inl (subst (λ v. Has v rows) (sym p.1) c)
            more (inr e) = inr (((rows_of_known a ha).vector row).1 ((λ z. p.0 (sym (ap (λ (v : VectorRow). v.count) e) ∙ z)), p.1 ∙ sym e))

-- the names of rooms likewise
pub rooms_move : (a b : Replica) (rooms : List Text) → IsReplica a → IsReplica b
    → ((t : Text) → Has t b.rooms ↔ (Has t rooms ⊎ Has t a.rooms)) → put_all text_before (λ name. name) rooms a.rooms ≡ b.rooms
rooms_move a b rooms ha hb are =
    puts_make text_before (λ name. name) name_order rooms a.rooms b.rooms ha.rooms_in_order hb.rooms_in_order (λ t h. (are t).1 (inl h)) (λ t h l. (are t).1 (inr h)) (λ t h. (are t).0 h)

room_there : (t : Text) (ts : List Text) → list_any (bytes_eq t) ts ≡ true → Has t ts
room_there t ts e =
    let (u, there, same) = has_any (bytes_eq t) ts e in
    subst (λ v. Has v ts) (sym ((bytes_eq-Decides t u).0 same)) there

there_room : (t : Text) (ts : List Text) → Has t ts → list_any (bytes_eq t) ts ≡ true
there_room t ts h = any_has (bytes_eq t) t ts ((bytes_eq-Decides t t).1 refl) h

-- the rooms that come to the known ones complete them
pub rooms_complete : (a b : Replica) (rooms : List Text) → IsReplica a → IsReplica b
    → AreTogether a.rooms (λ t. list_any (bytes_eq t) rooms) b.rooms → put_all text_before (λ name. name) rooms a.rooms ≡ b.rooms
rooms_complete a b rooms ha hb are = rooms_move a b rooms ha hb
    (λ t. (λ h. there t (or_cases (list_any (bytes_eq t) a.rooms) (list_any (bytes_eq t) rooms) (are t ∙ there_room t b.rooms h)), λ h. room_there t b.rooms (sym (are t) ∙ back t h)))
  where
    there : (t : Text) → (list_any (bytes_eq t) a.rooms ≡ true) ⊎ (list_any (bytes_eq t) rooms ≡ true) → Has t rooms ⊎ Has t a.rooms
    there t (inl e) = inr (room_there t a.rooms e)
    there t (inr e) = inl (room_there t rooms e)

    back : (t : Text) → Has t rooms ⊎ Has t a.rooms → (list_any (bytes_eq t) a.rooms || list_any (bytes_eq t) rooms) ≡ true
    back t (inl h) = or_right (list_any (bytes_eq t) a.rooms) (list_any (bytes_eq t) rooms) (there_room t rooms h)
    back t (inr h) = or_left (list_any (bytes_eq t) a.rooms) (list_any (bytes_eq t) rooms) (there_room t a.rooms h)

-- ---- the log

-- a write with the same number is dropped at both or at neither
dropped_same : (a b : Replica) (w : Write) → a.dropped ≡ b.dropped → seq_of a w ≡ seq_of b w → is_dropped a (id_of w) ≡ is_dropped b (id_of w)
dropped_same a b w d e = front-seq a.dropped a.commits (id_of w) ∙ (λ i. Rattle.mr_model.specs.Texts.within 1 (d i) (e i)) ∙ sym (front-seq b.dropped b.commits (id_of w))

log_same : (a b : Replica) (w : Write) → a.dropped ≡ b.dropped → seq_of a w ≡ seq_of b w → place_of a w ≡ place_of b w → kept_log a w ≡ kept_log b w
log_same a b w d e p = let gone = dropped_same a b w d e in λ i. cond (gone i) None (Some (record (log_row a w) { seq = e i; place = p i }))

-- the rows of the kept writes
log_move : (a b : Replica) (logs places : List Write) → IsReplica a → IsReplica b → Moves a b logs places
    → put_all id_before log_id (map (log_row b) logs) (rows_without log_id [] (tables_of a).log) ≡ (tables_of b).log
log_move a b logs places ha hb m =
    ap (λ rows. put_all id_before log_id (map (log_row b) logs) (rows_without log_id [] rows)) (map_filter (λ w. is_dropped a (id_of w)) (log_row a) (by_id a.known))
    ∙ rows_move a b log_id (kept_log a) (kept_log b) logs (map (log_row b) logs) [] ha hb (log_bears a) (log_bears b)
    (record {
      stays = m.stays;
      others = λ w h. go w (m.logged w h);
      moved = λ w h. (m.kept w h).0;
      put_is = λ r h. let (w, c, e) = map_has (log_row b) r logs h in (w, c, cond-false (is_dropped b (id_of w)) None (Some (log_row b w)) (m.kept w c).1 ∙ ap Some (sym e));
      is_put = λ w r h e. subst (λ x. Has x (map (log_row b) logs))
          (some_inj (log_row b w) r (sym (cond-false (is_dropped b (id_of w)) None (Some (log_row b w)) (m.kept w h).1) ∙ e)) (has_map (log_row b) w logs h);
      gone_is = λ i h. absurd h;
      is_gone = λ w r h e f. absurd (none_some (log_row b w) (sym f ∙ cond-false (is_dropped b (id_of w)) None (Some (log_row b w)) (m.kept w h).1));
    })
    ∙ sym (map_filter (λ w. is_dropped b (id_of w)) (log_row b) (by_id b.known))
  where
    go : (w : Write) → Has w logs ⊎ (Has w a.known × (place_of a w ≡ place_of b w) × (seq_of a w ≡ seq_of b w)) → Has w logs ⊎ (Has w a.known × (kept_log a w ≡ kept_log b w))
    go w (inl c) = inl c
    go w (inr (k, p, q)) = inr (k, log_same a b w m.dropped q p)

-- ---- what became of writes

-- rows that are picked off rows of writes
picked : {A B C : Type 0} (f : B → Option C) (g : A → B) (xs : List A) → filter_map f (map g xs) ≡ filter_map (λ x. f (g x)) xs
picked f g [] = refl
picked f g (x ∷ xs) = ap (cons_option (f (g x))) (picked f g xs)

-- the ids that are taken away are those of rows, and a row that goes to another table leaves this one
record Leaves (R : Type 0) (as_row : PlaceRow → Option R) (gone : PlaceRow → Option Id) : Type 0 where
  is_key : (q : PlaceRow) (i : Id) → gone q ≡ Some i → i ≡ row_id q
  leaves : (w : Write) (x : Action) (p q : Place) (c d : Option Id) (m n : Bool) (s t : ℕ) (row : R) → as_row (place_row_for w x p c m s) ≡ Some row
      → as_row (place_row_for w x q d n t) ≡ None → gone (place_row_for w x q d n t) ≡ Some (row_id (place_row_for w x q d n t))

-- a table of the rows of one kind
place_move : {R : Type 0} (a b : Replica) (logs places : List Write) (key : R → Id) (as_row : PlaceRow → Option R) (gone : PlaceRow → Option Id) → IsReplica a
    → IsReplica b → Moves a b logs places → Bears key (λ w. as_row (place_row a w)) → Bears key (λ w. as_row (place_row b w)) → Leaves R as_row gone
    → put_all id_before key (filter_map as_row (map (place_row b) places)) (rows_without key (filter_map gone (map (place_row b) places)) (filter_map (λ w. as_row (place_row a w)) (by_id a.known)))
    ≡ filter_map (λ w. as_row (place_row b w)) (by_id b.known)
place_move {R} a b logs places key as_row gone ha hb m ka kb l =
    (λ i. put_all id_before key (picked as_row (place_row b) places i) (rows_without key (picked gone (place_row b) places i) (filter_map (λ w. as_row (place_row a w)) (by_id a.known))))
    ∙ rows_move a b key (λ w. as_row (place_row a w)) (λ w. as_row (place_row b w)) places (filter_map (λ w. as_row (place_row b w)) places) (filter_map (λ w. gone (place_row b w)) places) ha hb ka kb
    (record {
      stays = m.stays;
      others = λ w h. go w (m.placed w h);
      moved = m.known;
      put_is = λ r h. filter_map_has (λ w. as_row (place_row b w)) r places h;
      is_put = λ w r h e. has_filter_map (λ v. as_row (place_row b v)) w r places e h;
      gone_is = λ i h. let (w, c, e) = filter_map_has (λ v. gone (place_row b v)) i places h in (w, c, sym (l.is_key (place_row b w) i e ∙ key-row b w));
      is_gone = λ w r h e f.
          has_filter_map (λ v. gone (place_row b v)) w (id_of w) places
          (l.leaves w w.action (place_of a w) (place_of b w) (canceller_of a w) (canceller_of b w) (is_committed a (id_of w)) (is_committed b (id_of w)) (seq_of a w) (seq_of b w) r e f
          ∙ ap Some (key-row b w)) h;
    })
  where
    go : (w : Write) → Has w places ⊎ (Has w a.known × (place_row a w ≡ place_row b w)) → Has w places ⊎ (Has w a.known × (as_row (place_row a w) ≡ as_row (place_row b w)))
    go w (inl c) = inl c
    go w (inr (k, e)) = inr (k, ap as_row e)

booking_leaves : Leaves BookingRow as_booking not_booked
booking_leaves = record { is_key = is_key; leaves = leaves }
  where
    is_key : (q : PlaceRow) (i : Id) → not_booked q ≡ Some i → i ≡ row_id q
    is_key (rows.Booked row) i e = absurd (none_some i e)
    is_key (rows.Erred row) i e = sym (some_inj (error_id row) i e)
    is_key (rows.Cancelled row) i e = sym (some_inj (cancelled_id row) i e)
    is_key (rows.Cancel row) i e = absurd (none_some i e)

    leaves : (w : Write) (x : Action) (p q : Place) (c d : Option Id) (m n : Bool) (s t : ℕ) (row : BookingRow) → as_booking (place_row_for w x p c m s) ≡ Some row
        → as_booking (place_row_for w x q d n t) ≡ None → not_booked (place_row_for w x q d n t) ≡ Some (row_id (place_row_for w x q d n t))
    leaves w (Cancels y) p q c d m n s t row e f = absurd (none_some row e)
    leaves w (Books y) p q c d m n s t row e f = go (slot_at w q) d f
      where
        go : (o : Option Slot) (d : Option Id) → as_booking (booking_place_row w y o d n t) ≡ None → not_booked (booking_place_row w y o d n t) ≡ Some (row_id (booking_place_row w y o d n t))
        go None d f = refl
        go (Some z) None f = absurd (none_some _ (sym f))
        go (Some z) (Some k) f = refl

error_leaves : Leaves ErrorRow as_error not_erred
error_leaves = record { is_key = is_key; leaves = leaves }
  where
    is_key : (q : PlaceRow) (i : Id) → not_erred q ≡ Some i → i ≡ row_id q
    is_key (rows.Booked row) i e = sym (some_inj (booking_id row) i e)
    is_key (rows.Erred row) i e = absurd (none_some i e)
    is_key (rows.Cancelled row) i e = sym (some_inj (cancelled_id row) i e)
    is_key (rows.Cancel row) i e = absurd (none_some i e)

    leaves : (w : Write) (x : Action) (p q : Place) (c d : Option Id) (m n : Bool) (s t : ℕ) (row : ErrorRow) → as_error (place_row_for w x p c m s) ≡ Some row
        → as_error (place_row_for w x q d n t) ≡ None → not_erred (place_row_for w x q d n t) ≡ Some (row_id (place_row_for w x q d n t))
    leaves w (Cancels y) p q c d m n s t row e f = absurd (none_some row e)
    leaves w (Books y) p q c d m n s t row e f = go (slot_at w q) d f
      where
        go : (o : Option Slot) (d : Option Id) → as_error (booking_place_row w y o d n t) ≡ None → not_erred (booking_place_row w y o d n t) ≡ Some (row_id (booking_place_row w y o d n t))
        go None d f = absurd (none_some _ (sym f))
        go (Some z) None f = refl
        go (Some z) (Some k) f = refl

cancelled_leaves : Leaves CancelledRow as_cancelled not_cancelled
cancelled_leaves = record { is_key = is_key; leaves = leaves }
  where
    is_key : (q : PlaceRow) (i : Id) → not_cancelled q ≡ Some i → i ≡ row_id q
    is_key (rows.Booked row) i e = sym (some_inj (booking_id row) i e)
    is_key (rows.Erred row) i e = sym (some_inj (error_id row) i e)
    is_key (rows.Cancelled row) i e = absurd (none_some i e)
    is_key (rows.Cancel row) i e = absurd (none_some i e)

    leaves : (w : Write) (x : Action) (p q : Place) (c d : Option Id) (m n : Bool) (s t : ℕ) (row : CancelledRow) → as_cancelled (place_row_for w x p c m s) ≡ Some row
        → as_cancelled (place_row_for w x q d n t) ≡ None → not_cancelled (place_row_for w x q d n t) ≡ Some (row_id (place_row_for w x q d n t))
    leaves w (Cancels y) p q c d m n s t row e f = absurd (none_some row e)
    leaves w (Books y) p q c d m n s t row e f = go (slot_at w q) d f
      where
        go : (o : Option Slot) (d : Option Id) → as_cancelled (booking_place_row w y o d n t) ≡ None → not_cancelled (booking_place_row w y o d n t) ≡ Some (row_id (booking_place_row w y o d n t))
        go None d f = refl
        go (Some z) None f = refl
        go (Some z) (Some k) f = absurd (none_some _ (sym f))

-- a row of cancels stays one
stays_cancel : (w : Write) (x : Action) (p q : Place) (c d : Option Id) (m n : Bool) (s t : ℕ) (row : CancelRow)
    → as_cancel (place_row_for w x p c m s) ≡ Some row → as_cancel (place_row_for w x q d n t) ≡ None → ⊥
stays_cancel w (Cancels y) p q c d m n s t row e f = none_some _ (sym f)
stays_cancel w (Books y) p q c d m n s t row e f = go (slot_at w p) c e
  where
    go : (o : Option Slot) (c : Option Id) → as_cancel (booking_place_row w y o c m s) ≡ Some row → ⊥
    go None c e = none_some row e
    go (Some z) None e = none_some row e
    go (Some z) (Some k) e = none_some row e

gone_with : PlaceRow → Option Id
gone_with q = None

none_gone : (ps : List PlaceRow) → filter_map gone_with ps ≡ []
unfolding gone_with
none_gone [] = refl
none_gone (p ∷ ps) = none_gone ps

cancels_move : (a b : Replica) (logs places : List Write) → IsReplica a → IsReplica b → Moves a b logs places
    → put_all id_before cancel_id (filter_map as_cancel (map (place_row b) places)) (tables_of a).cancels ≡ (tables_of b).cancels
unfolding gone_with
cancels_move a b logs places ha hb m =
    ap (put_all id_before cancel_id (filter_map as_cancel (map (place_row b) places))) (sym (without_none cancel_id (tables_of a).cancels))
    ∙ (λ i. put_all id_before cancel_id (filter_map as_cancel (map (place_row b) places)) (rows_without cancel_id (sym (none_gone (map (place_row b) places)) i) (tables_of a).cancels))
    ∙ place_move a b logs places cancel_id as_cancel gone_with ha hb m (cancel_bears a) (cancel_bears b)
    (record { is_key = λ q i e. absurd (none_some i e); leaves = λ w x p q c d k n s t row e f. absurd (stays_cancel w x p q c d k n s t row e f) })

pub moves : (a b : Replica) (logs places : List Write) (rooms : List Text) (vector : List VectorRow) → IsReplica a → IsReplica b → Moves a b logs places
    → put_all text_before (λ name. name) rooms a.rooms ≡ b.rooms → put_all ltb (λ (row : VectorRow). row.server) vector (tables_of a).vector ≡ (tables_of b).vector
    → changed (change_of b logs places rooms vector) (tables_of a) ≡ tables_of b
moves a b logs places rooms vector ha hb m e f = λ i. record {
  meta = (tables_of b).meta;
  room = e i;
  vector = f i;
  log = log_move a b logs places ha hb m i;
  booking = place_move a b logs places booking_id as_booking not_booked ha hb m (booking_bears a) (booking_bears b) booking_leaves i;
  errorlog = place_move a b logs places error_id as_error not_erred ha hb m (error_bears a) (error_bears b) error_leaves i;
  cancelled = place_move a b logs places cancelled_id as_cancelled not_cancelled ha hb m (cancelled_bears a) (cancelled_bears b) cancelled_leaves i;
  cancels = cancels_move a b logs places ha hb m i;
}
