-- Which cancel took a booking back, before a batch and after it: the same one, unless what is executed anew aims at it.
use Rattle.std.proofs.Common.{◌≡◌, refl, sym, ap, ◌∙◌, subst, ℕ, Bool, true, false, not, ◌&&◌, eqb, List, [], ◌∷◌, ◌++◌, ◌⊎◌, inl, inr, Option, Some, None}
use Rattle.std.proofs.lemmas.Bool.{true≢false, and_from, cond-false, false_from_ne_true}
use Rattle.std.specs.List.{filter, list_any}
use Rattle.std.specs.Prelude.{option_map}
use Rattle.std.specs.Str.{bytes_eq}
use Rattle.mr_model.specs.Slots.{Slot}
use Rattle.mr_model.specs.Writes.{Id, Meeting, Action, Books, Cancels, Write, id_of, same_id}
use Rattle.mr_model.specs.Replay.{Place, Taken, Logged, Done, Void, Booking, place_among, booked_with, slot_at}
use Rattle.mr_model.specs.Board.{after}
use Rattle.mr_model.specs.Replica.{Replica, IsReplica, committed, tentative, order_of, is_committed}
use Rattle.mr_model.specs.Exchange.{Item}
use Rattle.mr_model.specs.View.{Placed, of_room, cancels_it, cancel_of, place_of, canceller_of}
use Rattle.mr_model.specs.Tables.{seq_of, booking_place_row, place_row_for, place_row}
use Rattle.mr_model.specs.Dropped.{Has}
use Rattle.mr_model.specs.Moving.{may_move, again, BatchMoves}
use Rattle.mr_model.proofs.Cancellers.{canceller-order, or_else, cancel-append}
use Rattle.mr_model.proofs.KnownById.{committed_known, tentative_known}
use Rattle.mr_model.proofs.Members.{has_left, has_right, has_split, has_among, has_filter, filter_has, any_has, same_id-true}
use Rattle.mr_model.proofs.PlacedInOrder.{placed_among, placed_id, among-append}
use Rattle.mr_model.proofs.PlacesOfOrder.{known_in_order}
use Rattle.mr_model.proofs.RoomTold.{committed-seq}

-- ---- what aims at a booking

abbrev pub is_target : Id → Action → Bool
is_target id (Books m) = false
is_target id (Cancels target) = same_id id target

-- a cancel of its room with its id as target
abbrev pub aims : Write → Write → Bool
aims w c = bytes_eq c.room w.room && is_target (id_of w) c.action

cancels_target : (id : Id) (a : Action) (p : Place) → is_target id a ≡ false → cancels_it id a p ≡ false
cancels_target id (Books m) p e = refl
cancels_target id (Cancels t) (Taken k) e = refl
cancels_target id (Cancels t) Logged e = refl
cancels_target id (Cancels t) Done e = e
cancels_target id (Cancels t) Void e = refl

pub target_is : (id : Id) (a : Action) → is_target id a ≡ true → a ≡ Cancels id
target_is id (Books m) e = absurd (true≢false (sym e))
target_is id (Cancels t) e = ap Cancels (sym (same_id-true id t e))

-- where none of these writes aims at an id, none takes it back
none_cancels : (id : Id) (bs : List Booking) (ws : List Write) → ((c : Write) → Has c ws → is_target id c.action ≡ false) → cancel_of id (placed_among false bs ws) ≡ None
none_cancels id bs [] none = refl
none_cancels id bs (w ∷ ws) none =
    cond-false (cancels_it id w.action (place_among bs w)) (Some (record { write = w; is_committed = false; place = place_among bs w }))
    (cancel_of id (placed_among false (booked_with bs w (place_among bs w)) ws))
    (cancels_target id w.action (place_among bs w) (none w (inl refl)))
    ∙ none_cancels id (booked_with bs w (place_among bs w)) ws (λ c h. none c (inr h))

or_none : (o : Option Placed) → or_else o None ≡ o
or_none None = refl
or_none (Some p) = refl

-- then it is the one among the writes in front of them
canceller-front : (r : Replica) (w : Write) (front last : List Write) → IsReplica r → Has w r.known → of_room w.room (order_of r) ≡ front ++ last
    → ((c : Write) → Has c last → is_target (id_of w) c.action ≡ false) → canceller_of r w ≡ option_map placed_id (cancel_of (id_of w) (placed_among false [] front))
canceller-front r w front last sound known parts none =
    canceller-order r w sound known
    ∙ ap (option_map placed_id)
    (ap (λ ws. cancel_of (id_of w) (placed_among false [] ws)) parts
    ∙ ap (cancel_of (id_of w)) (among-append false [] front last)
    ∙ cancel-append (id_of w) (placed_among false [] front) (placed_among false (after [] front) last)
    ∙ ap (or_else (cancel_of (id_of w) (placed_among false [] front))) (none_cancels (id_of w) (after [] front) last none)
    ∙ or_none (cancel_of (id_of w) (placed_among false [] front)))

-- ---- before a batch and after it

module _ (a b : Replica) (items : List Item) (m : BatchMoves a b items) (sound : IsReplica a) where
  abbrev pub anew : List Write
  anew = again a items m.news b

  -- what is undone is executed anew
  pub undone_anew : (w : Write) → Has w (filter (may_move a items) (tentative a)) → Has w anew
  undone_anew w h = go (known_in_order b w m.sound (m.stays w (tentative_known a w f.0).0))
    where
      f : Has w (tentative a) × (may_move a items w ≡ true)
      f = filter_has (may_move a items) w (tentative a) h

      new : Has w (committed a) ⊎ Has w m.news → Has w anew
      new (inl g) = absurd (true≢false (sym (has_among (id_of w) a.commits (committed_known a w sound g).1) ∙ (tentative_known a w f.0).1))
      new (inr g) = has_left w m.news (filter (may_move a items) (tentative b)) g

      go : Has w (committed b) ⊎ Has w (tentative b) → Has w anew
      go (inl g) = new (has_split w (committed a) m.news (subst (λ ws. Has w ws) m.committed_are g))
      go (inr g) = has_right w m.news (filter (may_move a items) (tentative b)) (has_filter (may_move a items) w (tentative b) f.1 g)

  -- where none of them aims at a booking, what took it back did so before
  pub cancellers_stay : (w : Write) → Has w a.known → Has w b.known → list_any (aims w) anew ≡ false → canceller_of a w ≡ canceller_of b w
  cancellers_stay w ha hb none =
      canceller-front a w (m.rooms w.room).front (of_room w.room (filter (may_move a items) (tentative a))) sound ha (m.rooms w.room).was
      (λ c h. let f = filter_has (λ (v : Write). bytes_eq v.room w.room) c (filter (may_move a items) (tentative a)) h in other c (undone_anew c f.0) f.1)
      ∙ sym (canceller-front b w (m.rooms w.room).front (of_room w.room anew) m.sound hb (m.rooms w.room).is
      (λ c h. let f = filter_has (λ (v : Write). bytes_eq v.room w.room) c anew h in other c f.0 f.1))
    where
      other : (c : Write) → Has c anew → bytes_eq c.room w.room ≡ true → is_target (id_of w) c.action ≡ false
      other c h r = false_from_ne_true (is_target (id_of w) c.action) (λ t. true≢false (sym (any_has (aims w) c anew (and_from (bytes_eq c.room w.room) (is_target (id_of w) c.action) r t) h) ∙ none))

-- ---- rows of what became of a write

-- a booking that took no slot, and a cancel, have the same row whatever took them back
pub rows_unless : (w : Write) (x : Action) (p : Place) (by other : Option Id) (mark : Bool) (seq : ℕ)
    → ((m : Meeting) (s : Slot) → x ≡ Books m → slot_at w p ≡ Some s → by ≡ other) → place_row_for w x p by mark seq ≡ place_row_for w x p other mark seq
rows_unless w (Books m) p by other mark seq same = go (slot_at w p) refl
  where
    go : (o : Option Slot) → slot_at w p ≡ o → booking_place_row w m o by mark seq ≡ booking_place_row w m o other mark seq
    go None e = refl
    go (Some s) e = ap (λ c. booking_place_row w m (Some s) c mark seq) (same m s refl e)
rows_unless w (Cancels t) p by other mark seq same = refl

-- at one place and with one number, it has one row, where one cancel took it back
pub row_stays : (a b : Replica) (w : Write) → place_of a w ≡ place_of b w → seq_of a w ≡ seq_of b w
    → ((m : Meeting) (s : Slot) → w.action ≡ Books m → slot_at w (place_of b w) ≡ Some s → canceller_of a w ≡ canceller_of b w) → place_row a w ≡ place_row b w
row_stays a b w p q same =
    let mark : is_committed a (id_of w) ≡ is_committed b (id_of w) = committed-seq a w ∙ ap (λ n. not (eqb n 0)) q ∙ sym (committed-seq b w) in
    (λ i. place_row_for w w.action (p i) (canceller_of a w) (mark i) (q i))
    ∙ rows_unless w w.action (place_of b w) (canceller_of a w) (canceller_of b w) (is_committed b (id_of w)) (seq_of b w) same
