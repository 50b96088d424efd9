-- First tables that stand for a replica move up to its second ones.
use Rattle.std.proofs.Common.{◌≡◌, refl, sym, ap, ◌∙◌, subst, Bool, true, false, cond, ◌&&◌, eqb, List, [], ◌∷◌, ◌++◌, length, map, drop, ◌⊎◌, inl, inr, Option, Some, None, IsTrue}
use Rattle.std.proofs.lemmas.Bool.{true≢false}
use Rattle.std.specs.Prelude.{option_map}
use Rattle.std.specs.List.{filter_map, cons_option}
use Rattle.mr_model.specs.Dropped.{Has}
use Rattle.mr_model.specs.Texts.{Text}
use Rattle.mr_model.specs.Slots.{Slot}
use Rattle.mr_model.specs.Writes.{Id, Meeting, Action, Books, Cancels, Write, id_of, same_id, length_in, title_in, is_first_action, is_first_write}
use Rattle.mr_model.specs.Replay.{Place, slot_at, replay}
use Rattle.mr_model.specs.Replica.{Replica, is_committed, write_with, committed, tentative, IsReplica}
use Rattle.mr_model.specs.View.{View, Placed, Told, of_room, view_of, placed_with, whole_places, cancels_it, cancel_of, tell, whole_list, told_of, place_of, canceller_in, canceller_of}
use Rattle.mr_model.specs.Tables.{OfMeeting, cells_of, CancelledRow, CancelRow, PlaceRow, by_id, seq_of, booking_place_row, place_row_for}
use Rattle.mr_model.specs.Tables.{place_row, as_cancelled, as_cancel, cancelled_row, cancel_row, log_row, kept, tables_of, Stands}
use Rattle.mr_model.specs.First.{choices_in_cells, WriteRow, FirstUndoRow, FirstTables, write_row, undo_row, first_tables_of, StandsFirst, undo_of, moved_row, moved_log, HavePlaces, moved}
use Rattle.mr_model.proofs.Members.{filter_has, has_map, map_has, filter_map_has, all_has, has_all, has_split, find_has, find_one, same_id-true, same_id_refl}
use Rattle.mr_model.proofs.KnownById.{one_known, known_with}
use Rattle.mr_model.proofs.RowsById.{by_id_has}

-- ---- known writes are bookings

abbrev AreFirst : List Write → Type 0
AreFirst ws = (w : Write) → Has w ws → is_first_write w ≡ true

-- a booking that is told has no cancel
abbrev IsPlain : Told → Type 0
IsPlain t = (t.cancelled_by ≡ None) × (is_first_write t.write ≡ true)

abbrev HasFirst : List Placed → Type 0
HasFirst ps = (p : Placed) → Has p ps → is_first_write p.write ≡ true

placed_first : (mark : Bool) (ws : List Write) (places : List Place) → AreFirst ws → HasFirst (placed_with mark ws places)
placed_first mark [] places f p h = absurd h
placed_first mark (w ∷ ws) [] f p h = absurd h
placed_first mark (w ∷ ws) (q ∷ qs) f p (inl e) = ap (λ (x : Placed). is_first_write x.write) e ∙ f w (inl refl)
placed_first mark (w ∷ ws) (q ∷ qs) f p (inr h) = placed_first mark ws qs (λ x g. f x (inr g)) p h

-- no booking takes another away
not_away : (id : Id) (p : Placed) → is_first_write p.write ≡ true → cancels_it id p.write.action p.place ≡ false
not_away id p e = go p.write.action e
  where
    go : (a : Action) → is_first_action a ≡ true → cancels_it id a p.place ≡ false
    go (Books m) f = refl
    go (Cancels t) f = absurd (true≢false (sym f))

none_away : (id : Id) (ps : List Placed) → HasFirst ps → cancel_of id ps ≡ None
none_away id [] f = refl
none_away id (p ∷ ps) f =
    ap (λ b. cond b (Some p) (cancel_of id ps)) (not_away id p (f p (inl refl))) ∙ none_away id ps (λ q h. f q (inr h))

told_plain : (ps : List Placed) → HasFirst ps → (t : Told) → Has t (tell ps) → IsPlain t
told_plain [] f t h = absurd h
told_plain (p ∷ ps) f t (inl e) =
    (ap (λ (x : Told). x.cancelled_by) e ∙ none_away (id_of p.write) ps (λ q h. f q (inr h)), ap (λ (x : Told). is_first_write x.write) e ∙ f p (inl refl))
told_plain (p ∷ ps) f t (inr h) = told_plain ps (λ q g. f q (inr g)) t h

committed_first : (r : Replica) → AreFirst r.known → AreFirst (committed r)
committed_first r f w h = let (id, g, e) = filter_map_has (write_with r) w r.commits h in f w (known_with r id w e).0

tentative_first : (r : Replica) → AreFirst r.known → AreFirst (tentative r)
tentative_first r f w h = f w (filter_has _ w r.known h).0

room_first : (room : Text) (ws : List Write) → AreFirst ws → AreFirst (of_room room ws)
room_first room ws f w h = f w (filter_has _ w ws h).0

view_plain : (r : Replica) (room : Text) → AreFirst r.known → (t : Told) → Has t (whole_list (view_of r room)) → IsPlain t
view_plain r room f = told_plain (whole_places v) both
  where
    v : View
    v = view_of r room

    ps : List Place
    ps = replay (v.committed ++ v.tentative)

    both : HasFirst (whole_places v)
    both p h = go (has_split p (placed_with true v.committed ps) (placed_with false v.tentative (drop (length v.committed) ps)) h)
      where
        go : Has p (placed_with true v.committed ps) ⊎ Has p (placed_with false v.tentative (drop (length v.committed) ps)) → is_first_write p.write ≡ true
        go (inl g) = placed_first true v.committed ps (room_first room (committed r) (committed_first r f)) p g
        go (inr g) = placed_first false v.tentative (drop (length v.committed) ps) (room_first room (tentative r) (tentative_first r f)) p g

-- ---- so there is no row in cancelled or cancels

abbrev IsOld : PlaceRow → Type 0
IsOld row = (as_cancelled row ≡ None) × (as_cancel row ≡ None)

uncancelled : (r : Replica) (w : Write) → AreFirst r.known → canceller_of r w ≡ None
uncancelled r w f = go (told_of (id_of w) (whole_list (view_of r w.room))) refl
  where
    go : (o : Option Told) → told_of (id_of w) (whole_list (view_of r w.room)) ≡ o → canceller_in o ≡ None
    go None e = refl
    go (Some t) e = ap (option_map (λ (c : Placed). id_of c.write)) (view_plain r w.room f t (find_has _ t (whole_list (view_of r w.room)) e).0).0

row_old : (r : Replica) (w : Write) → AreFirst r.known → Has w r.known → IsOld (place_row r w)
row_old r w f h = go w.action (f w h)
  where
    slot : (m : Meeting) (s : Option Slot) → IsOld (booking_place_row w m s None (is_committed r (id_of w)) (seq_of r w))
    slot m None = (refl, refl)
    slot m (Some s) = (refl, refl)

    go : (a : Action) → is_first_action a ≡ true → IsOld (place_row_for w a (place_of r w) (canceller_of r w) (is_committed r (id_of w)) (seq_of r w))
    go (Books m) e = subst (λ (by : Option Id). IsOld (booking_place_row w m (slot_at w (place_of r w)) by (is_committed r (id_of w)) (seq_of r w)))
        (sym (uncancelled r w f)) (slot m (slot_at w (place_of r w)))
    go (Cancels x) e = absurd (true≢false (sym e))

none_left : {A B : Type 0} (f : A → Option B) (xs : List A) → ((x : A) → Has x xs → f x ≡ None) → filter_map f xs ≡ []
none_left f [] h = refl
none_left f (x ∷ xs) h = ap (λ o. cons_option o (filter_map f xs)) (h x (inl refl)) ∙ none_left f xs (λ y g. h y (inr g))

-- ---- the log

undo_found : (r : Replica) (w : Write) → IsReplica r → Has w (kept r) → ((v : Write) → Has v (kept r) → Has v r.known) → undo_of (write_row r w) (map (undo_row r) (kept r)) ≡ Some (undo_row r w)
undo_found r w h g known =
    find_one (λ (u : FirstUndoRow). eqb u.server w.stamp.server && eqb u.n w.stamp.n) (undo_row r w) us (has_map (undo_row r) w (kept r) g) (same_id_refl (id_of w)) only
  where
    us : List FirstUndoRow
    us = map (undo_row r) (kept r)

    only : (u : FirstUndoRow) → Has u us → (eqb u.server w.stamp.server && eqb u.n w.stamp.n) ≡ true → u ≡ undo_row r w
    only u i e =
        let (v, j, f) = map_has (undo_row r) u (kept r) i in
        let same : same_id (id_of v) (id_of w) ≡ true = subst (λ (x : FirstUndoRow). (eqb x.server w.stamp.server && eqb x.n w.stamp.n) ≡ true) f e in
        f ∙ ap (undo_row r) (one_known r v w h (known v j) (known w g) (same_id-true (id_of v) (id_of w) same))

moved_is_log : (r : Replica) (w : Write) → is_first_write w ≡ true → moved_row (write_row r w) (undo_row r w) ≡ log_row r w
moved_is_log r w f = ap (λ c. record { server = w.stamp.server; n = w.stamp.n; time = w.stamp.time; room = w.room; action = c; place = place_of r w; seq = seq_of r w }) (cells w.action f)
  where
    cells : (a : Action) → is_first_action a ≡ true → OfMeeting (record { length = length_in a; choices = choices_in_cells (cells_of a); title = title_in a }) ≡ cells_of a
    cells (Books m) e = refl
    cells (Cancels t) e = absurd (true≢false (sym e))

all_found : {A B C : Type 0} (f : A → B) (g : B → Option C) (k : A → C) (xs : List A) → ((x : A) → Has x xs → g (f x) ≡ Some (k x)) → filter_map g (map f xs) ≡ map k xs
all_found f g k [] h = refl
all_found {C = C} f g k (x ∷ xs) h =
    ap (λ o. cons_option o (filter_map g (map f xs))) (h x (inl refl)) ∙ ap (λ (ys : List C). k x ∷ ys) (all_found f g k xs (λ y i. h y (inr i)))

log_moves : (r : Replica) → IsReplica r → AreFirst r.known → moved_log (map (write_row r) (kept r)) (map (undo_row r) (kept r)) ≡ map (log_row r) (kept r)
log_moves r h f = all_found (write_row r) (λ row. option_map (moved_row row) (undo_of row us)) (log_row r) (kept r) one
  where
    us : List FirstUndoRow
    us = map (undo_row r) (kept r)

    known : (v : Write) → Has v (kept r) → Has v r.known
    known v i = by_id_has r v (filter_has _ v (by_id r.known) i).0

    one : (w : Write) → Has w (kept r) → option_map (moved_row (write_row r w)) (undo_of (write_row r w) us) ≡ Some (log_row r w)
    one w i = ap (option_map (moved_row (write_row r w))) (undo_found r w h i known) ∙ ap Some (moved_is_log r w (f w (known w i)))

-- ---- the whole

known_first : (t : FirstTables) (r : Replica) → StandsFirst t r → AreFirst r.known
known_first t r s w h = all_has (λ v. IsTrue (is_first_write v)) w r.known s.all_first h

tables_move : (r : Replica) → IsReplica r → AreFirst r.known → moved (first_tables_of r) ≡ tables_of r
tables_move r h f = λ i. record (tables_of r) { log = log i; cancelled = cancelled i; cancels = cancels i }
  where
    log : moved_log (map (write_row r) (kept r)) (map (undo_row r) (kept r)) ≡ map (log_row r) (kept r)
    log = log_moves r h f

    cancelled : ◌≡◌ {A = List CancelledRow} [] (filter_map (cancelled_row r) (by_id r.known))
    cancelled = sym (none_left (cancelled_row r) (by_id r.known) (λ w g. (row_old r w f (by_id_has r w g)).0))

    cancels : ◌≡◌ {A = List CancelRow} [] (filter_map (cancel_row r) (by_id r.known))
    cancels = sym (none_left (cancel_row r) (by_id r.known) (λ w g. (row_old r w f (by_id_has r w g)).1))

pub moves_up : (t : FirstTables) (r : Replica) → StandsFirst t r → Stands (moved t) r
moves_up t r s = record { sound = s.sound; are = ap moved s.are ∙ tables_move r s.sound (known_first t r s) }

pub have_places : (t : FirstTables) (r : Replica) → StandsFirst t r → HavePlaces t.write_log t.undo
have_places t r s =
    subst (λ (x : FirstTables). HavePlaces x.write_log x.undo) (sym s.are)
    (has_all (λ (row : WriteRow). (u : FirstUndoRow) × (undo_of row (map (undo_row r) (kept r)) ≡ Some u)) (map (write_row r) (kept r))
    (λ row g. let (w, i, e) = map_has (write_row r) row (kept r) g in
    subst (λ (x : WriteRow). (u : FirstUndoRow) × (undo_of x (map (undo_row r) (kept r)) ≡ Some u)) (sym e)
    (undo_row r w, undo_found r w s.sound i (λ v j. by_id_has r v (filter_has _ v (by_id r.known) j).0))))
