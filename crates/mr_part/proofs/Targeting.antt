-- Rows of what a batch moves, read off boards: of a board with the bookings of the rooms that it touches, before it and after it.
use Rattle.std.proofs.Common.{◌≡◌, refl, sym, ap, ◌∙◌, subst, ℕ, Bool, true, false, cond, List, [], ◌∷◌, ◌⊎◌, inl, inr, Option, Some, None}
use Rattle.std.proofs.lemmas.Bool.{true≢false, and_parts, cond-true}
use Rattle.std.specs.List.{cons_option, list_any}
use Rattle.std.specs.Prelude.{option_map}
use Rattle.std.specs.Str.{bytes_eq}
use Rattle.mr_model.specs.Texts.{Text}
use Rattle.mr_model.specs.Slots.{Slot}
use Rattle.mr_model.specs.Writes.{Id, Meeting, Action, Books, Cancels, Write, id_of}
use Rattle.mr_model.specs.Replay.{Place, slot_at}
use Rattle.mr_model.specs.Replica.{Replica, IsReplica, is_committed}
use Rattle.mr_model.specs.Exchange.{Item}
use Rattle.mr_model.specs.View.{place_of, canceller_of}
use Rattle.mr_model.specs.Tables.{PlaceRow, Booked, Erred, Cancelled, Cancel, seq_of, booking_place_row, place_row_for, place_row}
use Rattle.mr_model.specs.Dropped.{Has}
use Rattle.mr_model.specs.Moving.{BatchMoves}
use Rattle.mr_model.proofs.Members.{has_any, same_id-true}
use Rattle.mr_model.proofs.RowsById.{has_flat, flat_has}
use Rattle.mr_model.proofs.UniqueReplay.{some_inj, none_some}
use Rattle.mr_replay.specs.declared.rows.Standing.TheVariants as standing
use Rattle.mr_replay.specs.declared.rows.Trace.{Trace}
use Rattle.mr_replay.specs.declared.rows.Trace.TheVariants.{OfBooking, OfCancel}
use Rattle.mr_replay.specs.declared.rows.Row.{Row}
use Rattle.mr_replay.specs.Rows.{Rows, row_at, trace_with, trace_for}
use Rattle.mr_replay.specs.Holds.{if_of}
use Rattle.mr_replay.specs.Bookings.{is_taken, if_taken}
use Rattle.mr_replay.proofs.Lists.{one_name, same_name}
use Rattle.mr_tables.proofs.BoardsTold.{known_at, unknown_at, known_or_none}
use Rattle.mr_part.specs.Placing.{trace_place, board_place, RowEnds, canceller_on, row_canceller}
use Rattle.mr_part.specs.Targets.{aimed_at, taken_by, same_by, row_if_moved, target_if_moved, moved_target, moved_targets}
use Rattle.mr_part.proofs.RowsPut.{tallies_of}
use Rattle.mr_part.proofs.Placings.{if_placed, placed-here, rows_end, board_of, of_row}
use Rattle.mr_part.proofs.Standings.{is_target, aims, target_is, anew, cancellers_stay, rows_unless, row_stays}

-- ---- a booking that took its slot

taken_kept : (m : Meeting) (s : Slot) (by : Option Id) → is_taken (trace_with m (Some s) by) ≡ true
taken_kept m s None = refl
taken_kept m s (Some c) = refl

kept_by : (m : Meeting) (s : Slot) (by : Option Id) → canceller_on (trace_with m (Some s) by) ≡ by
kept_by m s None = refl
kept_by m s (Some c) = refl

placed_slot : (w : Write) (m : Meeting) (s : Slot) (by : Option Id) (mark : Bool) (seq : ℕ) → if_placed (booking_place_row w m (Some s) by mark seq) ≡ Some (booking_place_row w m (Some s) by mark seq)
placed_slot w m s None mark seq = refl
placed_slot w m s (Some c) mark seq = refl

placed_is : (q p : PlaceRow) → if_placed q ≡ Some p → p ≡ q
placed_is (Booked row) p e = sym (some_inj (Booked row) p e)
placed_is (Erred row) p e = absurd (none_some p e)
placed_is (Cancelled row) p e = sym (some_inj (Cancelled row) p e)
placed_is (Cancel row) p e = absurd (none_some p e)

-- what the board tells of a booking with a slot
abbrev row_with : Write → Meeting → Slot → Option Id → Row
row_with w m s by = record { room = w.room; trace = trace_with m (Some s) by }

row_of_booking : (w : Write) (a : Action) (p : Place) (by : Option Id) (m : Meeting) (s : Slot) → a ≡ Books m
    → slot_at w p ≡ Some s → option_map (λ k. record { room = w.room; trace = k }) (trace_for w a p by) ≡ Some (row_with w m s by)
row_of_booking w a p by m s e f = ap (λ x. option_map (λ k. record { room = w.room; trace = k }) (trace_for w x p by)) e ∙ ap (λ o. Some (record { room = w.room; trace = trace_with m o by })) f

place_of_booking : (w : Write) (a : Action) (p : Place) (by : Option Id) (mark : Bool) (seq : ℕ) (m : Meeting) (s : Slot)
    → a ≡ Books m → slot_at w p ≡ Some s → place_row_for w a p by mark seq ≡ booking_place_row w m (Some s) by mark seq
place_of_booking w a p by mark seq m s e f = ap (λ x. place_row_for w x p by mark seq) e ∙ ap (λ o. booking_place_row w m o by mark seq) f

-- ---- rows that are seen

seen_taken : (o : Option Row) (row : Row) → if_taken o ≡ Some row → (o ≡ Some row) × (is_taken row.trace ≡ true)
seen_taken None row e = absurd (none_some row e)
seen_taken (Some x) row e = go (is_taken x.trace) refl e
  where
    go : (c : Bool) → is_taken x.trace ≡ c → cond c (Some x) None ≡ Some row → (Some x ≡ Some row) × (is_taken row.trace ≡ true)
    go true t f = (f, ap (λ (r : Row). is_taken r.trace) (sym (some_inj x row f)) ∙ t)
    go false t f = absurd (none_some row f)

taken_seen : (row : Row) → is_taken row.trace ≡ true → if_taken (Some row) ≡ Some row
taken_seen row t = cond-true (is_taken row.trace) (Some row) None t

seen_room : (room : Text) (o : Option Row) (row : Row) → if_of room o ≡ Some row → o ≡ Some row
seen_room room None row e = e
seen_room room (Some x) row e = go (bytes_eq x.room room) e
  where
    go : (c : Bool) → cond c (Some x) None ≡ Some row → Some x ≡ Some row
    go true f = f
    go false f = absurd (none_some row f)

room_seen : (room : Text) (row : Row) → row.room ≡ room → if_of room (Some row) ≡ Some row
room_seen room row e = cond-true (bytes_eq row.room room) (Some row) None (same_name row.room room e)

-- a board has the bookings of a room, cancelled or not, as the replica's board has them
abbrev pub Shows : Replica → Text → Rows → Type 0
Shows r room board = (q : Id) → if_taken (if_of room (row_at board q)) ≡ if_taken (if_of room (row_at (board_of r) q))

shown : (r : Replica) (room : Text) (board : Rows) (q : Id) (row : Row) → Shows r room board → if_of room (row_at board q) ≡ Some row → is_taken row.trace ≡ true → row_at (board_of r) q ≡ Some row
shown r room board q row shows e t = seen_room room (row_at (board_of r) q) row (seen_taken (if_of room (row_at (board_of r) q)) row (sym (shows q) ∙ ap if_taken e ∙ taken_seen row t)).0

shows_it : (r : Replica) (room : Text) (board : Rows) (q : Id) (row : Row) → Shows r room board
    → row_at (board_of r) q ≡ Some row → row.room ≡ room → is_taken row.trace ≡ true → if_of room (row_at board q) ≡ Some row
shows_it r room board q row shows e is t = (seen_taken (if_of room (row_at board q)) row (shows q ∙ ap (λ o. if_taken (if_of room o)) e ∙ ap if_taken (room_seen room row is) ∙ taken_seen row t)).0

-- of a known booking with a slot
shows_booking : (r : Replica) (w : Write) (board : Rows) (m : Meeting) (s : Slot) → IsReplica r → Has w r.known → Shows r w.room board
    → w.action ≡ Books m → slot_at w (place_of r w) ≡ Some s → if_of w.room (row_at board (id_of w)) ≡ Some (row_with w m s (canceller_of r w))
shows_booking r w board m s sound known shows e f =
    shows_it r w.room board (id_of w) (row_with w m s (canceller_of r w)) shows
    (known_at r w sound known ∙ row_of_booking w w.action (place_of r w) (canceller_of r w) m s e f) refl (taken_kept m s (canceller_of r w))

-- what is shown is the booking of a known write
known_shown : (r : Replica) (q : Id) (row : Row) → IsReplica r → row_at (board_of r) q ≡ Some row
    → (w : Write) × Has w r.known × (id_of w ≡ q) × (board_place (tallies_of r) q row ≡ if_placed (place_row r w))
known_shown r q row sound e = go (known_or_none q r.known)
  where
    go : ((w : Write) × Has w r.known × (id_of w ≡ q)) ⊎ ((w : Write) → Has w r.known → id_of w ≡ q → ⊥)
        → (w : Write) × Has w r.known × (id_of w ≡ q) × (board_place (tallies_of r) q row ≡ if_placed (place_row r w))
    go (inl (w, k, s)) = (
      w,
      k,
      s,
      subst (λ i. board_place (tallies_of r) i row ≡ if_placed (place_row r w)) s (sym (told (id_of w) (row_at (board_of r) (id_of w)) (ap (row_at (board_of r)) s ∙ e)) ∙ placed-here r w sound k),
    )
      where
        told : (i : Id) (o : Option Row) → o ≡ Some row → of_row (board_place (tallies_of r)) i o ≡ board_place (tallies_of r) i row
        told i o f = ap (of_row (board_place (tallies_of r)) i) f
    go (inr none) = absurd (none_some row (sym (unknown_at r q none) ∙ e))

-- ---- a batch

same_by-true : (c d : Option Id) → same_by c d ≡ true → c ≡ d
same_by-true None None e = refl
same_by-true None (Some d) e = absurd (true≢false (sym e))
same_by-true (Some c) None e = absurd (true≢false (sym e))
same_by-true (Some c) (Some d) e = ap Some (same_id-true c d e)

module _ (a b : Replica) (items : List Item) (m : BatchMoves a b items) (sound : IsReplica a) (old new : Rows)
    (shows_old : (w : Write) → Has w (anew a b items m sound) → Shows a w.room old) (shows_new : (w : Write) → Has w (anew a b items m sound) → Shows b w.room new) where
  abbrev writes : List Write
  writes = anew a b items m sound

  -- each row that is put of what is aimed at is the one that a known write has now
  pub targets_told : (p : PlaceRow) → Has p (moved_targets (tallies_of b) old new writes) → (w : Write) × Has w b.known × (p ≡ place_row b w)
  targets_told p h =
      let (c, g, k) = flat_has (moved_target (tallies_of b) old new) p writes h in
      go c g (taken_by old c) c.action k
    where
      placed : (c : Write) (t : Id) (row : Row) → Has c writes → if_of c.room (row_at new t) ≡ Some row
          → Has p (cons_option (board_place (tallies_of b) t row) []) → (w : Write) × Has w b.known × (p ≡ place_row b w)
      placed c t row g e h = by (board_place (tallies_of b) t row) refl h
        where
          taken : (k : Trace) (q : PlaceRow) → trace_place (tallies_of b) t row.room k ≡ Some q → is_taken k ≡ true
          taken (OfBooking s l x standing.Booked) q f = refl
          taken (OfBooking s l x (standing.CancelledBy d)) q f = refl
          taken (OfBooking s l x standing.InErrorLog) q f = absurd (none_some q f)
          taken (OfCancel x) q f = absurd (none_some q f)

          by : (o : Option PlaceRow) → board_place (tallies_of b) t row ≡ o → Has p (cons_option o []) → (w : Write) × Has w b.known × (p ≡ place_row b w)
          by None f k = absurd k
          by (Some q) f (inl k) =
              let (w, known, s, told) = known_shown b t row m.sound (shown b c.room new t row (shows_new c g) e (taken row.trace q f)) in
              (w, known, k ∙ placed_is (place_row b w) q (sym told ∙ f))
          by (Some q) f (inr k) = absurd k

      row : (c : Write) (was : Option Id) (t : Id) (o : Option Row) → Has c writes → if_of c.room (row_at new t) ≡ o
          → Has p (row_if_moved (tallies_of b) was t o) → (w : Write) × Has w b.known × (p ≡ place_row b w)
      row c was t None g e k = absurd k
      row c was t (Some r) g e k = by (same_by was (canceller_on r.trace)) k
        where
          by : (x : Bool) → Has p (cond x [] (cons_option (board_place (tallies_of b) t r) [])) → (w : Write) × Has w b.known × (p ≡ place_row b w)
          by true k = absurd k
          by false k = placed c t r g e k

      go : (c : Write) → Has c writes → (was : Option Id) (x : Action) → Has p (target_if_moved (tallies_of b) was new c.room x) → (w : Write) × Has w b.known × (p ≡ place_row b w)
      go c g was (Books y) k = absurd k
      go c g was (Cancels t) k = row c was t (if_of c.room (row_at new t)) g refl k

  -- a write with the place and the number that it had keeps its row, or this is put
  pub targets_tell : (w : Write) → Has w a.known → Has w b.known → place_of a w ≡ place_of b w → seq_of a w ≡ seq_of b w
      → (place_row a w ≡ place_row b w) ⊎ Has (place_row b w) (moved_targets (tallies_of b) old new writes)
  targets_tell w ka kb p q = go (list_any (aims w) writes) refl
    where
      -- a cancel that aims at it
      aimed : (c : Write) → Has c writes → c.room ≡ w.room → c.action ≡ Cancels (id_of w) → (x : Action) → w.action ≡ x → (o : Option Slot)
          → slot_at w (place_of b w) ≡ o → (place_row a w ≡ place_row b w) ⊎ Has (place_row b w) (moved_targets (tallies_of b) old new writes)
      aimed c h room act (Cancels t) e o f = inl (row_stays a b w p q (λ y s g i. absurd (let k : Books y ≡ Cancels t = sym g ∙ e in let never : ⊥ = cc in never)))
      aimed c h room act (Books y) e None f = inl (row_stays a b w p q (λ z s g i. absurd (none_some s (sym f ∙ i))))
      aimed c h room act (Books y) e (Some s) f = by (same_by (canceller_of a w) (canceller_of b w)) refl
        where
          slot_too : slot_at w (place_of a w) ≡ Some s
          slot_too = ap (slot_at w) p ∙ f

          was : if_of w.room (row_at old (id_of w)) ≡ Some (row_with w y s (canceller_of a w))
          was = shows_booking a w old y s sound ka (subst (λ t. Shows a t old) room (shows_old c h)) e slot_too

          is : if_of w.room (row_at new (id_of w)) ≡ Some (row_with w y s (canceller_of b w))
          is = shows_booking b w new y s m.sound kb (subst (λ t. Shows b t new) room (shows_new c h)) e f

          taken : taken_by old c ≡ canceller_of a w
          taken = (λ i. row_canceller (aimed_at old (room i) (act i))) ∙ ap row_canceller was ∙ kept_by y s (canceller_of a w)

          told : board_place (tallies_of b) (id_of w) (row_with w y s (canceller_of b w)) ≡ Some (place_row b w)
          told =
              ap (of_row (board_place (tallies_of b)) (id_of w)) (sym (known_at b w m.sound kb ∙ row_of_booking w w.action (place_of b w) (canceller_of b w) y s e f))
              ∙ placed-here b w m.sound kb
              ∙ ap if_placed (place_of_booking w w.action (place_of b w) (canceller_of b w) (is_committed b (id_of w)) (seq_of b w) y s e f)
              ∙ placed_slot w y s (canceller_of b w) (is_committed b (id_of w)) (seq_of b w)
              ∙ ap Some (sym (place_of_booking w w.action (place_of b w) (canceller_of b w) (is_committed b (id_of w)) (seq_of b w) y s e f))

          rows : moved_target (tallies_of b) old new c ≡ cond (same_by (canceller_of a w) (canceller_of b w)) [] (place_row b w ∷ [])
          rows =
              (λ i. target_if_moved (tallies_of b) (taken i) new (room i) (act i))
              ∙ ap (row_if_moved (tallies_of b) (canceller_of a w) (id_of w)) is
              ∙ (λ i. cond (same_by (canceller_of a w) (kept_by y s (canceller_of b w) i)) [] (cons_option (told i) []))

          by : (x : Bool) → same_by (canceller_of a w) (canceller_of b w) ≡ x → (place_row a w ≡ place_row b w) ⊎ Has (place_row b w) (moved_targets (tallies_of b) old new writes)
          by true g = inl (row_stays a b w p q (λ z t i j. same_by-true (canceller_of a w) (canceller_of b w) g))
          by false g = inr (has_flat (moved_target (tallies_of b) old new) (place_row b w) c writes h
              (subst (λ xs. Has (place_row b w) xs) (sym (rows ∙ ap (λ x. cond x [] (place_row b w ∷ [])) g)) (inl refl)))

      go : (x : Bool) → list_any (aims w) writes ≡ x → (place_row a w ≡ place_row b w) ⊎ Has (place_row b w) (moved_targets (tallies_of b) old new writes)
      go false e = inl (row_stays a b w p q (λ y s g i. cancellers_stay a b items m sound w ka kb e))
      go true e =
          let (c, h, f) = has_any (aims w) writes e in
          let g = and_parts (bytes_eq c.room w.room) (is_target (id_of w) c.action) f in
          aimed c h (one_name c.room w.room g.0) (target_is (id_of w) c.action g.1) w.action refl (slot_at w (place_of b w)) refl

  -- of what is executed anew the board tells which cancel took it back, where that is of use
  pub takers_told : (w : Write) → Has w writes → Has w b.known → place_row_for w w.action (place_of b w) (row_canceller (row_at new (id_of w))) (is_committed b (id_of w)) (seq_of b w) ≡ place_row b w
  takers_told w h known =
      rows_unless w w.action (place_of b w) (row_canceller (row_at new (id_of w))) (canceller_of b w) (is_committed b (id_of w)) (seq_of b w)
      (λ y s e f.
      ap row_canceller (seen_room w.room (row_at new (id_of w)) (row_with w y s (canceller_of b w)) (shows_booking b w new y s m.sound known (shows_new w h) e f)) ∙ kept_by y s (canceller_of b w))

  -- what is aimed at ends on its day
  pub targets_end : (c : Write) → Has c writes → RowEnds (if_taken (aimed_at new c.room c.action))
  targets_end c h = go c.action
    where
      row : (t : Id) (o : Option Row) → if_of c.room (row_at new t) ≡ o → (p : Option Row) → if_taken o ≡ p → RowEnds p
      row t o e None f = tt
      row t o e (Some r) f =
          let (is, taken) = seen_taken o r f in
          subst RowEnds (shown b c.room new t r (shows_new c h) (e ∙ is) taken) (rows_end b t m.sound)

      go : (x : Action) → RowEnds (if_taken (aimed_at new c.room x))
      go (Books y) = tt
      go (Cancels t) = row t (if_of c.room (row_at new t)) refl (if_taken (if_of c.room (row_at new t))) refl
