-- What a write of the replica's own, which comes last, takes back: its target's booking, if it is a cancel that is Done.
use Rattle.std.proofs.Common.{◌≡◌, refl, sym, ap, ◌∙◌, ◌<◌, Bool, true, false, cond, [], ◌∷◌, ◌++◌, inl, inr, Option, Some, None, append-nil}
use Rattle.std.proofs.lemmas.Bool.{true≢false, cond-true, cond-false, false_from_ne_true}
use Rattle.std.proofs.lemmas.List.Elements.{filter-append}
use Rattle.std.specs.Prelude.{option_map}
use Rattle.std.specs.Str.{bytes_eq}
use Rattle.mr_model.specs.Dropped.{Has}
use Rattle.mr_model.specs.Texts.{Text}
use Rattle.mr_model.specs.Slots.{Slot}
use Rattle.mr_model.specs.Writes.{Id, Write, id_of, length_of}
use Rattle.mr_model.specs.Replay.{Booking, slot_at, place_among}
use Rattle.mr_model.specs.Replica.{Replica, clock_of, is_committed, order_of, add_write, IsReplica}
use Rattle.mr_model.specs.Board.{after}
use Rattle.mr_model.specs.View.{Placed, of_room, cancels_it, cancel_of, place_of, canceller_of}
use Rattle.mr_model.specs.Tables.{BookingRow, PlaceRow, seq_of, taken_back, place_row_for, place_row}
use Rattle.mr_model.specs.Tables as rows
use Rattle.mr_model.specs.Changes.{IsNext, takes_back}
use Rattle.mr_model.proofs.UniqueReplay.{some_inj, none_some}
use Rattle.mr_model.proofs.KnownById.{one_known}
use Rattle.mr_model.proofs.WithWrite.{has_with_write}
use Rattle.mr_model.proofs.PlacedInOrder.{placed_among, among-append, placed_id}
use Rattle.mr_model.proofs.PlacesOfOrder.{room_true, room_from}
use Rattle.mr_model.proofs.Runs.{Free, run-among, not_now, never_done}
use Rattle.mr_model.proofs.RowsTell.{cancels_done}
use Rattle.mr_model.proofs.RowCancels.{made, made_at, row-made, row-cancel, row_booking, row_by, recancel, row-recancel}
use Rattle.mr_model.proofs.Cancellers.{order_list, canceller-order, or_else, cancel-append}
use Rattle.mr_model.proofs.BookedRows.{booked_stands, order_placed, done_target, place-next}
use Rattle.mr_model.proofs.Orders.{added, new_id, order-submit, places-submit, place-submit}

-- the write, placed behind the others
abbrev pub last : Replica → Write → Placed
last r w = record { write = w; is_committed = false; place = place_among (after [] (of_room w.room (order_of r))) w }

-- a booking bears the id of the write that made it
made_id : (r : Replica) (u : Write) (b : Booking) → made r u ≡ Some b → id_of u ≡ b.id
made_id r u b e = go (slot_at u (place_of r u)) e
  where
    go : (o : Option Slot) → made_at u o ≡ Some b → id_of u ≡ b.id
    go None f = absurd (none_some b f)
    go (Some s) f = ap (λ (y : Booking). y.id) (some_inj (record { id = id_of u; slot = s; length = length_of u }) b f)

module _ (r : Replica) (w : Write) (h : IsReplica r) (n : IsNext r w) (late : clock_of r < w.stamp.time) where
  pub last-place : place_of (add_write r w) w ≡ place_among (after [] (of_room w.room (order_of r))) w
  last-place = (places-submit r w h n late).1 ∙ place-next r w

  pub order-own : order_list (add_write r w) w.room ≡ order_list r w.room ++ last r w ∷ []
  order-own =
      ap (λ ws. placed_among false [] (of_room w.room ws)) (order-submit r w h n late)
      ∙ ap (placed_among false []) (filter-append (λ v. bytes_eq v.room w.room) (order_of r) (w ∷ [])
      ∙ ap (λ vs. of_room w.room (order_of r) ++ vs) (cond-true (bytes_eq w.room w.room) (w ∷ []) [] (room_from w w.room refl)))
      ∙ among-append false [] (of_room w.room (order_of r)) (w ∷ [])

  pub order-other : (room : Text) → (w.room ≡ room → ⊥) → order_list (add_write r w) room ≡ order_list r room
  order-other room other =
      ap (λ ws. placed_among false [] (of_room room ws)) (order-submit r w h n late)
      ∙ ap (placed_among false []) (filter-append (λ v. bytes_eq v.room room) (order_of r) (w ∷ [])
      ∙ ap (λ vs. of_room room (order_of r) ++ vs) (cond-false (bytes_eq w.room room) (w ∷ []) [] (false_from_ne_true (bytes_eq w.room room) (λ e. other (room_true w room e))))
      ∙ append-nil (of_room room (order_of r)))

  -- the last write takes this back
  taken-last : (id : Id) → cancels_it id w.action (last r w).place ≡ takes_back r w id
  taken-last id = ap (cancels_it id w.action) (sym last-place)

  -- what it takes back is a booking that stands in its room
  pub takes_standing : (v : Write) → Has v r.known → takes_back r w (id_of v) ≡ true → (v.room ≡ w.room) × (canceller_of r v ≡ None) × ((b : Booking) × (made r v ≡ Some b))
  takes_standing v k e =
      let (x, a, d, s) = cancels_done (id_of v) w.action (place_of (add_write r w) w) e in
      let (b, o, i) = done_target r w x h a (sym (places-submit r w h n late).1 ∙ d) in
      let same : o.write ≡ v = one_known r o.write v h o.known k (made_id r o.write b o.booked ∙ i ∙ s) in
      (ap (λ (u : Write). u.room) (sym same) ∙ o.in_room, ap (canceller_of r) (sym same) ∙ o.uncancelled, (b, ap (made r) (sym same) ∙ o.booked))

  known_new : (v : Write) → Has v r.known → Has v (add_write r w).known
  known_new v k = has_with_write w v r.known (inr k)

  -- the cancel of a write that was known
  canceller-own : (v : Write) → Has v r.known → v.room ≡ w.room
      → canceller_of (add_write r w) v ≡ option_map placed_id (or_else (cancel_of (id_of v) (order_list r v.room)) (cond (takes_back r w (id_of v)) (Some (last r w)) None))
  canceller-own v k e =
      canceller-order (add_write r w) v (added r w h n) (known_new v k)
      ∙ ap (λ room. option_map placed_id (cancel_of (id_of v) (order_list (add_write r w) room))) e
      ∙ ap (λ ps. option_map placed_id (cancel_of (id_of v) ps)) order-own
      ∙ ap (option_map placed_id) (cancel-append (id_of v) (order_list r w.room) (last r w ∷ []))
      ∙ (λ i. option_map placed_id (or_else (cancel_of (id_of v) (order_list r (sym e i))) (cond (taken-last (id_of v) i) (Some (last r w)) None)))

  nothing-more : (o : Option Placed) → option_map placed_id (or_else o None) ≡ option_map placed_id o
  nothing-more None = refl
  nothing-more (Some c) = refl

  pub others_stay : (v : Write) → Has v r.known → takes_back r w (id_of v) ≡ false → canceller_of (add_write r w) v ≡ canceller_of r v
  others_stay v k e = go (bytes_eq w.room v.room) refl
    where
      go : (b : Bool) → bytes_eq w.room v.room ≡ b → canceller_of (add_write r w) v ≡ canceller_of r v
      go true f =
          canceller-own v k (sym (room_true w v.room f))
          ∙ ap (λ b. option_map placed_id (or_else (cancel_of (id_of v) (order_list r v.room)) (cond b (Some (last r w)) None))) e
          ∙ nothing-more (cancel_of (id_of v) (order_list r v.room)) ∙ sym (canceller-order r v h k)
      go false f =
          canceller-order (add_write r w) v (added r w h n) (known_new v k)
          ∙ ap (λ ps. option_map placed_id (cancel_of (id_of v) ps)) (order-other v.room (λ s. true≢false (sym (room_from w v.room s) ∙ f)))
          ∙ sym (canceller-order r v h k)

  pub taken_now : (v : Write) → Has v r.known → takes_back r w (id_of v) ≡ true → canceller_of (add_write r w) v ≡ Some (id_of w)
  taken_now v k e =
      let s = takes_standing v k e in
      canceller-own v k s.0
      ∙ ap (λ b. option_map placed_id (or_else (cancel_of (id_of v) (order_list r v.room)) (cond b (Some (last r w)) None))) e
      ∙ go (cancel_of (id_of v) (order_list r v.room)) (sym (canceller-order r v h k) ∙ s.1)
    where
      go : (o : Option Placed) → option_map placed_id o ≡ None → option_map placed_id (or_else o (Some (last r w))) ≡ Some (id_of w)
      go None f = refl
      go (Some c) f = absurd (none_some (placed_id c) (sym f))

  -- it stands itself
  pub stands_itself : canceller_of (add_write r w) w ≡ None
  stands_itself =
      canceller-order (add_write r w) w (added r w h n) (has_with_write w w r.known (inl refl))
      ∙ ap (λ ps. option_map placed_id (cancel_of (id_of w) ps)) order-own
      ∙ ap (option_map placed_id) (cancel-append (id_of w) (order_list r w.room) (last r w ∷ []))
      ∙ ap (λ o. option_map placed_id (or_else o (cancel_of (id_of w) (last r w ∷ []))))
      (never_done (id_of w) [] (order_list r w.room) (run-among false [] (of_room w.room (order_of r))) (λ b x s. x)
      (λ p a s. new_id r w p.write h n (order_placed r w.room p h a).0 s))
      ∙ ap (option_map placed_id)
      (cond-false (cancels_it (id_of w) w.action (last r w).place) (Some (last r w)) None (not_now (id_of w) (after [] (of_room w.room (order_of r))) w.action (last r w).place refl free))
    where
      free : Free (id_of w) (after [] (of_room w.room (order_of r)))
      free b a s =
          let o = booked_stands r w.room b h a in
          new_id r w o.write h n o.known (made_id r o.write b o.booked ∙ s)

  -- ---- rows

  -- a row of before is what it was, but for the cancel that takes it back
  pub row_next : (v : Write) → Has v r.known → place_row (add_write r w) v ≡ recancel (canceller_of (add_write r w) v) (place_row r v)
  row_next v k =
      (let p = place-submit r w v h n late k in λ i. place_row_for v v.action (p i) (canceller_of (add_write r w) v) (is_committed r (id_of v)) (seq_of r v))
      ∙ row-recancel v v.action (place_of r v) (canceller_of r v) (canceller_of (add_write r w) v) (is_committed r (id_of v)) (seq_of r v)

  pub row_same : (v : Write) → Has v r.known → takes_back r w (id_of v) ≡ false → place_row (add_write r w) v ≡ place_row r v
  row_same v k e =
      (let p = place-submit r w v h n late k in let c = others_stay v k e in λ i. place_row_for v v.action (p i) (c i) (is_committed r (id_of v)) (seq_of r v))

  -- what is taken back had a booking row
  taken_row : (p : PlaceRow) (b : Booking) → row_booking p ≡ Some b → row_by p ≡ None → (row : BookingRow) × (p ≡ rows.Booked row)
  taken_row (rows.Booked row) b e f = (row, refl)
  taken_row (rows.Cancelled row) b e f = absurd (none_some row.by (sym f))
  taken_row (rows.Erred row) b e f = absurd (none_some b e)
  taken_row (rows.Cancel row) b e f = absurd (none_some b e)

  pub row_taken : (v : Write) → Has v r.known → takes_back r w (id_of v) ≡ true
      → (row : BookingRow) × (place_row r v ≡ rows.Booked row) × (place_row (add_write r w) v ≡ rows.Cancelled (taken_back (id_of w) row))
  row_taken v k e =
      let s = takes_standing v k e in
      let (row, f) = taken_row (place_row r v) s.2.0 (row-made r v ∙ s.2.1) (row-cancel r v s.2.0 s.2.1 ∙ s.1) in
      (row, f, row_next v k ∙ (λ i. recancel (taken_now v k e i) (f i)))
