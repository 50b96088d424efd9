-- A board that holds lists of writes still holds some when writes are executed and undone on it: with these lists changed.
use Rattle.std.proofs.Common.{◌≡◌, Bool, true, false, cond, List, [], ◌∷◌, ◌++◌, map, Option, Some, None, IfSome, ap, refl, sym, ◌∙◌, subst, append_assoc, append-nil}
use Rattle.std.specs.List.{AllByRecursion}
use Rattle.std.specs.List.Sorted.{IsStrictlySortedBy}
use Rattle.std.specs.Map.{values_of}
use Rattle.std.specs.Prelude.{option_map}
use Rattle.std.specs.Str.{bytes_eq}
use Rattle.std.proofs.lemmas.Bool.{or_parts, false_from_ne_true, cond-false}
use Rattle.std.proofs.lemmas.List.Elements.{recursion_from_All}
use Rattle.std.proofs.lemmas.Map.Views.{All-values_from_lookup}
use Rattle.mr_model.specs.Texts.{Text}
use Rattle.mr_model.specs.Slots.{Slot}
use Rattle.mr_model.specs.Writes.{Id, Action, Books, Cancels, Meeting, Write, id_of, same_id}
use Rattle.mr_model.specs.Replay.{Place, Taken, Logged, Done, Void, place_among, slot_at}
use Rattle.mr_model.specs.Board.{after}
use Rattle.mr_model.specs.Replica.{is_among}
use Rattle.mr_model.specs.View.{of_room, cancels_it}
use Rattle.mr_model.proofs.Members.{same_id-true, same_id_refl}
use Rattle.mr_replay.specs.declared.rows.Standing.TheVariants.{Booked, CancelledBy, InErrorLog}
use Rattle.mr_replay.specs.declared.rows.Trace.{Trace}
use Rattle.mr_replay.specs.declared.rows.Trace.TheVariants.{OfBooking, OfCancel}
use Rattle.mr_replay.specs.declared.rows.Row.{Row}
use Rattle.mr_replay.specs.Places.{UndoRow}
use Rattle.mr_replay.specs.Rows.{Rows, row_at, trace_with, trace_for, row_of, with_mark, change, target_of, marked_by, with_row, place_by_rows}
use Rattle.mr_replay.specs.Rows.{executed_at, executed, undo_row_at, undo_row_of, undone_by, undone, executed_all, undo_rows_of, undone_all}
use Rattle.mr_replay.specs.Holds.{HaveDistinctIds, AreOfRoom, told_list, row_in, if_of, HoldsIn, HoldsEach, Holds, with_list}
use Rattle.mr_replay.specs.Holds.{bears, IsNew, HaveNoRows, AreNew, undo_row_after, undo_rows_after, CanReplay}
use Rattle.mr_replay.proofs.IdKeys.{same_id_equivalence}
use Rattle.mr_replay.proofs.Entries.{distinct_keys, undone-put}
use Rattle.mr_replay.proofs.Marked.{change_if, nothing-changed, changed-back, values-put, values-changed}
use Rattle.mr_replay.proofs.Lists.{one_name, same_name, other_name, distinct_front, distinct_next, distinct_back, distinct_without, among-part, distinct-part, part-own}
use Rattle.mr_replay.proofs.Lists.{part-all, with_list-own, with_list-twice, with_list-same, parts-push, parts-pop, of_room-front, of_room-back, of_room-append}
use Rattle.mr_replay.proofs.ToldRows.{BearsNot, rows-none, rows-bear}
use Rattle.mr_replay.proofs.PlacesOnBoard.{same_place}
use Rattle.mr_replay.proofs.OneRoom.{whole_part, part-executed, in_order-executed, in_order-undone, HoldsIn-executed, other-executed, HoldsIn-undone, other-undone, absent}

pub Holds-empty : Holds [] []
unfolding IsStrictlySortedBy
Holds-empty = record { ordered = tt; rooms = λ room i. refl }

-- ---- one write

HoldsIn-with_list : (room : Text) (ws : List Write) (lists : Text → List Write) (b : Rows) → HoldsIn room ws b
    → ((other : Text) → bytes_eq other room ≡ false → HoldsIn other (lists other) b) → (other : Text) → HoldsIn other (with_list room ws lists other) b
HoldsIn-with_list room ws lists b own others other = go (bytes_eq other room) refl
  where
    go : (c : Bool) → bytes_eq other room ≡ c → HoldsIn other (cond c ws (lists other)) b
    go true e = subst (λ r. HoldsIn r ws b) (sym (one_name other room e)) own
    go false e = others other e

pub HoldsEach-executed : (lists : Text → List Write) (room : Text) (b : Rows) (w : Write) → w.room ≡ room → HaveDistinctIds (lists room ++ w ∷ [])
    → row_at b (id_of w) ≡ None → HoldsEach lists b → HoldsEach (with_list room (lists room ++ w ∷ []) lists) (executed b w)
HoldsEach-executed lists room b w is distinct new holds = record {
  ordered = in_order-executed b w (place_by_rows b w) holds.ordered;
  rooms =
      HoldsIn-with_list room (lists room ++ w ∷ []) lists (executed b w)
      (HoldsIn-executed room (lists room) b w is holds.ordered (distinct_front (lists room) (w ∷ []) distinct) (distinct_next (lists room) w [] distinct) (holds.rooms room))
      (λ other apart q. other-executed other b w (other_name w.room room other is apart) holds.ordered (ap (if_of other) new) q ∙ holds.rooms other q);
}

pub HoldsEach-undone : (lists : Text → List Write) (room : Text) (ws : List Write) (b : Rows) (w : Write) → lists room ≡ ws ++ w ∷ []
    → HaveDistinctIds (ws ++ w ∷ []) → HoldsEach lists b → HoldsEach (with_list room ws lists) (undone b (undo_row_at w (place_among (after [] ws) w)))
HoldsEach-undone lists room ws b w is distinct holds = record {
  ordered = in_order-undone (id_of w) (place_among (after [] ws) w) (target_of w.action) b holds.ordered;
  rooms =
      HoldsIn-with_list room ws lists (undone b (undo_row_at w (place_among (after [] ws) w)))
      (HoldsIn-undone room ws b w holds.ordered (distinct_next ws w [] distinct) there)
      (λ other apart q. other-undone room other ws b w apart holds.ordered (distinct_front ws (w ∷ []) distinct) (distinct_next ws w [] distinct) there q ∙ holds.rooms other q);
} where
  there : HoldsIn room (ws ++ w ∷ []) b
  there = subst (λ vs. HoldsIn room vs b) is (holds.rooms room)

-- ---- what is not in a list has no row on its board

pub not_on_board : (ws : List Write) (b : Rows) (i : Id) → Holds ws b → is_among i (map id_of ws) ≡ false → row_at b i ≡ None
not_on_board ws b i holds h = absent (row_at b i) (λ room. holds.rooms room i ∙ rows-none (of_room room ws) i (among-part room ws i h))

-- ---- writes of all rooms in one list

pub places-are : (ws : List Write) (b : Rows) (w : Write) → HaveDistinctIds ws → Holds ws b → place_by_rows b w ≡ place_among (after [] (of_room w.room ws)) w
places-are ws b w distinct holds = same_place w.room (of_room w.room ws) b w refl holds.ordered (distinct-part w.room ws distinct) (holds.rooms w.room)

pub Holds-executed : (ws : List Write) (b : Rows) (w : Write) → HaveDistinctIds (ws ++ w ∷ []) → Holds ws b → Holds (ws ++ w ∷ []) (executed b w)
Holds-executed ws b w distinct holds =
    subst (λ (lists : Text → List Write). HoldsEach lists (executed b w)) (parts-push ws w)
    (HoldsEach-executed (λ room. of_room room ws) w.room b w refl
    (subst (λ (vs : List Write). HaveDistinctIds vs) (part-own w.room ws w refl) (distinct-part w.room (ws ++ w ∷ []) distinct))
    (not_on_board ws b (id_of w) holds (distinct_next ws w [] distinct)) holds)

pub Holds-undone : (ws : List Write) (b : Rows) (w : Write) → HaveDistinctIds (ws ++ w ∷ []) → Holds (ws ++ w ∷ []) b → Holds ws (undone b (undo_row_after ws w))
Holds-undone ws b w distinct holds =
    subst (λ (lists : Text → List Write). HoldsEach lists (undone b (undo_row_after ws w))) (parts-pop ws w)
    (HoldsEach-undone (λ room. of_room room (ws ++ w ∷ [])) w.room (of_room w.room ws) b w (part-own w.room ws w refl)
    (subst (λ (vs : List Write). HaveDistinctIds vs) (part-own w.room ws w refl) (distinct-part w.room (ws ++ w ∷ []) distinct)) holds)

pub Holds-executed_all : (ws vs : List Write) (b : Rows) → HaveDistinctIds (ws ++ vs) → Holds ws b → Holds (ws ++ vs) (executed_all b vs)
Holds-executed_all ws [] b distinct holds = subst (λ (l : List Write). Holds l b) (sym (append-nil ws)) holds
Holds-executed_all ws (v ∷ vs) b distinct holds =
    let joined : (ws ++ v ∷ []) ++ vs ≡ ws ++ v ∷ vs = append_assoc ws (v ∷ []) vs in
    let distinct_joined = subst (λ (l : List Write). HaveDistinctIds l) (sym joined) distinct in
    subst (λ (l : List Write). Holds l (executed_all (executed b v) vs)) joined
    (Holds-executed_all (ws ++ v ∷ []) vs (executed b v) distinct_joined
    (Holds-executed ws b v (distinct_front (ws ++ v ∷ []) vs distinct_joined) holds))

pub Holds-undone_all : (ws vs : List Write) (b : Rows) → HaveDistinctIds (ws ++ vs) → Holds (ws ++ vs) b → Holds ws (undone_all b (undo_rows_after ws vs))
Holds-undone_all ws [] b distinct holds = subst (λ (l : List Write). Holds l b) (append-nil ws) holds
Holds-undone_all ws (v ∷ vs) b distinct holds =
    let joined : (ws ++ v ∷ []) ++ vs ≡ ws ++ v ∷ vs = append_assoc ws (v ∷ []) vs in
    let distinct_joined = subst (λ (l : List Write). HaveDistinctIds l) (sym joined) distinct in
    Holds-undone ws (undone_all b (undo_rows_after (ws ++ v ∷ []) vs)) v (distinct_front (ws ++ v ∷ []) vs distinct_joined)
    (Holds-undone_all (ws ++ v ∷ []) vs b distinct_joined (subst (λ (l : List Write). Holds l b) (sym joined) holds))

-- ---- exact undoing

executed_undone : (b : Rows) (w : Write) (p : Place) → IsNew b (id_of w) → undone (executed_at b w p) (undo_row_at w p) ≡ b
executed_undone b w p new = go w.action p
  where
    put_removed : (k : Trace) → undone_by (id_of w) Void None (with_row (id_of w) (Some (record { room = w.room; trace = k })) b) ≡ b
    put_removed k = undone-put b (id_of w) (record { room = w.room; trace = k }) new.no_row

    go : (a : Action) (p : Place)
        → undone_by (id_of w) p (target_of a) (with_row (id_of w) (option_map (λ k. record { room = w.room; trace = k }) (trace_for w a p None)) (marked_by (id_of w) p (target_of a) b)) ≡ b
    go (Books m) (Taken k) = put_removed _
    go (Books m) Logged = put_removed _
    go (Books m) Done = put_removed _
    go (Books m) Void = put_removed _
    go (Cancels t) (Taken k) = put_removed _
    go (Cancels t) Logged = put_removed _
    go (Cancels t) Void = put_removed _
    go (Cancels t) Done = changed-back (id_of w) t b new.no_mark

pub undone-executed : (b : Rows) (w : Write) → IsNew b (id_of w) → undone (executed b w) (undo_row_of b w) ≡ b
undone-executed b w new = executed_undone b w (place_by_rows b w) new

-- executing one of different writes leaves the others new
bears-mark : (c q : Id) (k : Trace) → same_id c q ≡ false → bears q k ≡ false → bears q (with_mark c k) ≡ false
bears-mark c q (OfBooking s l t Booked) e h = e
bears-mark c q (OfBooking s l t (CancelledBy d)) e h = h
bears-mark c q (OfBooking s l t InErrorLog) e h = h
bears-mark c q (OfCancel t) e h = h

abbrev BearNot : Id → Rows → Type 0
BearNot q b = AllByRecursion (λ row. bears q row.trace ≡ false) (values_of b)

trace_bears : (m : Meeting) (o : Option Slot) (q : Id) → bears q (trace_with m o None) ≡ false
trace_bears m None q = refl
trace_bears m (Some s) q = refl

new_trace : (w : Write) (a : Action) (p : Place) (q : Id) (b : Rows) → same_id (id_of w) q ≡ false → BearNot q b
    → BearNot q (with_row (id_of w) (option_map (λ k. record { room = w.room; trace = k }) (trace_for w a p None)) (marked_by (id_of w) p (target_of a) b))
new_trace w (Books m) (Taken k) q b e h = values-put (λ row. bears q row.trace ≡ false) b (id_of w) _ (trace_bears m (slot_at w (Taken k)) q) h
new_trace w (Books m) Logged q b e h = values-put (λ row. bears q row.trace ≡ false) b (id_of w) _ (trace_bears m (slot_at w Logged) q) h
new_trace w (Books m) Done q b e h = values-put (λ row. bears q row.trace ≡ false) b (id_of w) _ (trace_bears m (slot_at w Done) q) h
new_trace w (Books m) Void q b e h = values-put (λ row. bears q row.trace ≡ false) b (id_of w) _ (trace_bears m (slot_at w Void) q) h
new_trace w (Cancels t) (Taken k) q b e h = values-put (λ row. bears q row.trace ≡ false) b (id_of w) _ refl h
new_trace w (Cancels t) Logged q b e h = values-put (λ row. bears q row.trace ≡ false) b (id_of w) _ refl h
new_trace w (Cancels t) Void q b e h = values-put (λ row. bears q row.trace ≡ false) b (id_of w) _ refl h
new_trace w (Cancels t) Done q b e h = values-changed (λ row. bears q row.trace ≡ false) (with_mark (id_of w)) t b (λ row g. bears-mark (id_of w) q row.trace e g) h

new_row : (b : Rows) (w : Write) (p : Place) (q : Id) → same_id (id_of w) q ≡ false → row_at b (id_of w) ≡ None → row_at b q ≡ None → row_at (executed_at b w p) q ≡ None
new_row b w p q e own h =
    part-executed (λ o. o) whole_part b w p q own
    ∙ ap (λ c. cond c (row_of w p None) (change_if (with_mark (id_of w)) (cancels_it q w.action p) (row_at b q))) (same_id_equivalence.symm q (id_of w) ∙ e)
    ∙ ap (change_if (with_mark (id_of w)) (cancels_it q w.action p)) h ∙ nothing-changed (with_mark (id_of w)) (cancels_it q w.action p)

pub AreNew-rest : (b : Rows) (w : Write) (vs : List Write) → AreNew b (w ∷ vs) → AreNew (executed b w) vs
AreNew-rest b w vs h = (h.0.1, go vs h.0.0 h.1.1)
  where
    go : (us : List Write) → is_among (id_of w) (map id_of us) ≡ false → AllByRecursion (λ v. IsNew b (id_of v)) us → AllByRecursion (λ v. IsNew (executed b w) (id_of v)) us
    go [] other g = tt
    go (v ∷ us) other g =
        let parts = or_parts (same_id (id_of w) (id_of v)) (is_among (id_of w) (map id_of us)) other in (
          record { no_row = new_row b w (place_by_rows b w) (id_of v) parts.0 h.1.0.no_row g.0.no_row; no_mark = new_trace w w.action (place_by_rows b w) (id_of v) b parts.0 g.0.no_mark },
          go us parts.1 g.1,
        )

pub undo_reverse : (b : Rows) (ws : List Write) → AreNew b ws → undone_all (executed_all b ws) (undo_rows_of b ws) ≡ b
undo_reverse b [] new = refl
undo_reverse b (w ∷ ws) new = ap (λ c. undone c (undo_row_of b w)) (undo_reverse (executed b w) ws (AreNew-rest b w ws new)) ∙ undone-executed b w new.1.0

-- a cancel that is done marks its target's row, and undone gives it back
pub cancel_marks : (b : Rows) (w : Write) (t : Id) (row : Row) → IsNew b (id_of w) → w.action ≡ Cancels t → place_by_rows b w ≡ Done → row_at b t ≡ Some row
    → (row_at (executed b w) t ≡ Some (change (with_mark (id_of w)) row)) × (row_at (undone (executed b w) (undo_row_of b w)) t ≡ Some row)
cancel_marks b w t row new is done e = (
  part-executed (λ o. o) whole_part b w (place_by_rows b w) t new.no_row
      ∙ ap (λ c. cond c (row_of w (place_by_rows b w) None) (change_if (with_mark (id_of w)) (cancels_it t w.action (place_by_rows b w)) (row_at b t))) other
      ∙ ap (λ a. change_if (with_mark (id_of w)) (cancels_it t a (place_by_rows b w)) (row_at b t)) is
      ∙ ap (λ p. change_if (with_mark (id_of w)) (cancels_it t (Cancels t) p) (row_at b t)) done
      ∙ ap (λ c. change_if (with_mark (id_of w)) c (row_at b t)) (same_id_refl t) ∙ ap (option_map (change (with_mark (id_of w)))) e,
  ap (λ c. row_at c t) (undone-executed b w new) ∙ e,
)
  where
    some_none : ◌≡◌ {A = Option Row} (Some row) None → ⊥
    some_none k = cc

    other : same_id t (id_of w) ≡ false
    other = false_from_ne_true (same_id t (id_of w)) (λ s. some_none (sym e ∙ ap (row_at b) (same_id-true t (id_of w) s) ∙ new.no_row))

-- ---- writes of one room

pub new_after : (b : Rows) (w : Write) (vs : List Write) → row_at b (id_of w) ≡ None → is_among (id_of w) (map id_of vs) ≡ false → HaveNoRows b vs → HaveNoRows (executed b w) vs
new_after b w [] own other h = tt
new_after b w (v ∷ vs) own other h =
    let parts = or_parts (same_id (id_of w) (id_of v)) (is_among (id_of w) (map id_of vs)) other in
    (new_row b w (place_by_rows b w) (id_of v) parts.0 own h.0, new_after b w vs own parts.1 h.1)

pub HoldsEach-executed_all : (room : Text) (again : List Write) (lists : Text → List Write) (b : Rows) → AreOfRoom room again
    → HaveDistinctIds (lists room ++ again) → HaveNoRows b again → HoldsEach lists b → HoldsEach (with_list room (lists room ++ again) lists) (executed_all b again)
HoldsEach-executed_all room [] lists b of_room distinct new holds =
    subst (λ (ls : Text → List Write). HoldsEach ls b) (sym (with_list-same room (lists room ++ []) lists (sym (append-nil (lists room))))) holds
HoldsEach-executed_all room (w ∷ vs) lists b of_room distinct new holds =
    subst (λ (ls : Text → List Write). HoldsEach ls (executed_all (executed b w) vs)) same
    (HoldsEach-executed_all room vs pushed (executed b w) of_room.1 (subst (λ (l : List Write). HaveDistinctIds (l ++ vs)) (sym own) distinct_joined)
    (new_after b w vs new.0 (distinct_back (lists room) (w ∷ vs) distinct).0 new.1)
    (HoldsEach-executed lists room b w of_room.0 (distinct_front (lists room ++ w ∷ []) vs distinct_joined) new.0 holds))
  where
    pushed : Text → List Write
    pushed = with_list room (lists room ++ w ∷ []) lists

    own : pushed room ≡ lists room ++ w ∷ []
    own = with_list-own room (lists room ++ w ∷ []) lists

    distinct_joined : HaveDistinctIds ((lists room ++ w ∷ []) ++ vs)
    distinct_joined = subst (λ (l : List Write). HaveDistinctIds l) (sym (append_assoc (lists room) (w ∷ []) vs)) distinct

    same : with_list room (pushed room ++ vs) pushed ≡ with_list room (lists room ++ w ∷ vs) lists
    same = ap (λ (l : List Write). with_list room (l ++ vs) pushed) own ∙ ap (λ (l : List Write). with_list room l pushed) (append_assoc (lists room) (w ∷ []) vs)
        ∙ with_list-twice room (lists room ++ w ∷ vs) (lists room ++ w ∷ []) lists

-- the undo rows of writes of one room, behind others of the room, are those that all writes give them
pub room_undo : (room : Text) (w : Write) (ws : List Write) → w.room ≡ room → AreOfRoom room ws → undo_row_after ws w ≡ undo_row_at w (place_among (after [] ws) w)
room_undo room w ws is of = ap (λ l. undo_row_at w (place_among (after [] l) w)) (part-all room w.room ws is of)

pub HoldsEach-undone_all : (room : Text) (tail front : List Write) (lists : Text → List Write) (b : Rows) → AreOfRoom room front → AreOfRoom room tail
    → lists room ≡ front ++ tail → HaveDistinctIds (front ++ tail) → HoldsEach lists b → HoldsEach (with_list room front lists) (undone_all b (undo_rows_after front tail))
HoldsEach-undone_all room [] front lists b of1 of2 is distinct holds = subst (λ (ls : Text → List Write). HoldsEach ls b) (sym (with_list-same room front lists (is ∙ append-nil front))) holds
HoldsEach-undone_all room (w ∷ vs) front lists b of1 of2 is distinct holds =
    subst (λ (ls : Text → List Write). HoldsEach ls (undone rest (undo_row_after front w))) (with_list-twice room front (front ++ w ∷ []) lists)
    (subst (λ (u : UndoRow). HoldsEach (with_list room front (with_list room (front ++ w ∷ []) lists)) (undone rest u)) (sym (room_undo room w front of2.0 of1))
    (HoldsEach-undone (with_list room (front ++ w ∷ []) lists) room front rest w (with_list-own room (front ++ w ∷ []) lists) (distinct_front (front ++ w ∷ []) vs distinct_joined)
    (HoldsEach-undone_all room vs (front ++ w ∷ []) lists b (of_room-append room front (w ∷ []) of1 (of2.0, tt)) of2.1 (is ∙ sym joined) distinct_joined holds)))
  where
    rest : Rows
    rest = undone_all b (undo_rows_after (front ++ w ∷ []) vs)

    joined : (front ++ w ∷ []) ++ vs ≡ front ++ w ∷ vs
    joined = append_assoc front (w ∷ []) vs

    distinct_joined : HaveDistinctIds ((front ++ w ∷ []) ++ vs)
    distinct_joined = subst (λ (l : List Write). HaveDistinctIds l) (sym joined) distinct

-- these undone and others executed in their place
pub HoldsEach-replayed : (lists : Text → List Write) (room : Text) (front tail : List Write) (b : Rows) (us : List UndoRow) (again : List Write)
    → CanReplay lists room front tail b us again → HoldsEach (with_list room (front ++ again) lists) (executed_all (undone_all b us) again)
HoldsEach-replayed lists room front tail b us again can =
    subst (λ (ls : Text → List Write). HoldsEach ls (executed_all (undone_all b us) again)) same
    (HoldsEach-executed_all room again (with_list room front lists) (undone_all b us) can.again_of_room
    (subst (λ (l : List Write). HaveDistinctIds (l ++ again)) (sym own) can.again_distinct) can.again_new
    (subst (λ (rows : List UndoRow). HoldsEach (with_list room front lists) (undone_all b rows)) (sym can.rows)
    (HoldsEach-undone_all room tail front lists b (of_room-front room front tail can.of_room) (of_room-back room front tail can.of_room) can.parts can.distinct can.holds)))
  where
    own : with_list room front lists room ≡ front
    own = with_list-own room front lists

    same : with_list room (with_list room front lists room ++ again) (with_list room front lists) ≡ with_list room (front ++ again) lists
    same = ap (λ (l : List Write). with_list room (l ++ again) (with_list room front lists)) own ∙ with_list-twice room (front ++ again) front lists

-- what other rooms have stays
pub others-replayed : (lists : Text → List Write) (room : Text) (front tail : List Write) (b : Rows) (us : List UndoRow) (again : List Write) → CanReplay lists room front tail b us again
    → (other : Text) → bytes_eq other room ≡ false → (i : Id) → if_of other (row_at (executed_all (undone_all b us) again) i) ≡ if_of other (row_at b i)
others-replayed lists room front tail b us again can other apart i =
    (HoldsEach-replayed lists room front tail b us again can).rooms other i
    ∙ ap (λ (l : List Write). row_in (told_list l) i) (cond-false (bytes_eq other room) (front ++ again) (lists other) apart)
    ∙ sym (can.holds.rooms other i)

-- ---- writes that do not repeat an id of the list

-- a board that holds a list bears no mark of another write
no_marks : (ws : List Write) (b : Rows) (i : Id) → Holds ws b → is_among i (map id_of ws) ≡ false → BearNot i b
no_marks ws b i holds other =
    recursion_from_All (λ (row : Row). bears i row.trace ≡ false) (values_of b)
    (All-values_from_lookup same_id_equivalence (λ (row : Row). bears i row.trace ≡ false) b (distinct_keys b holds.ordered) (λ q. at q (row_at b q) refl))
  where
    at : (q : Id) (o : Option Row) → row_at b q ≡ o → IfSome o (λ row. bears i row.trace ≡ false)
    at q None is = tt
    at q (Some row) is = subst (λ o. BearsNot i o) told (rows-bear (of_room row.room ws) i q (among-part row.room ws i other))
      where
        told : row_in (told_list (of_room row.room ws)) q ≡ Some row
        told =
            sym (holds.rooms row.room q) ∙ ap (if_of row.room) is ∙ ap (λ t. cond t (Some row) None) (same_name row.room row.room refl)

all_new : (ws vs : List Write) (b : Rows) → HaveDistinctIds (ws ++ vs) → Holds ws b → AllByRecursion (λ v. IsNew b (id_of v)) vs
all_new ws [] b distinct holds = tt
all_new ws (v ∷ vs) b distinct holds =
    let other = distinct_next ws v vs distinct in
    (record { no_row = not_on_board ws b (id_of v) holds other; no_mark = no_marks ws b (id_of v) holds other }, all_new ws vs b (distinct_without ws v vs distinct) holds)

-- such writes are new to a board that holds it
pub AreNew-distinct : (ws vs : List Write) (b : Rows) → HaveDistinctIds (ws ++ vs) → Holds ws b → AreNew b vs
AreNew-distinct ws vs b distinct holds = (distinct_back ws vs distinct, all_new ws vs b distinct holds)
