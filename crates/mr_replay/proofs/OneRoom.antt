-- What executing a write and undoing it do to the rows of one room.
use Rattle.std.proofs.Common.{◌≡◌, Bool, true, false, cond, List, [], ◌∷◌, ◌++◌, map, Option, Some, None, ap, refl, sym, ◌∙◌, subst}
use Rattle.std.specs.Prelude.{option_map}
use Rattle.std.specs.Str.{bytes_eq}
use Rattle.std.proofs.lemmas.Bool.{true≢false, false_from_ne_true}
use Rattle.mr_model.specs.Texts.{Text}
use Rattle.mr_model.specs.Writes.{Id, Action, Books, Cancels, Write, id_of, same_id}
use Rattle.mr_model.specs.Replay.{Place, Taken, Logged, Done, Void, Booking, is_booked, place_for, place_among, slot_at}
use Rattle.mr_model.specs.Replica.{is_among}
use Rattle.mr_model.specs.Board.{after}
use Rattle.mr_model.specs.View.{cancels_it}
use Rattle.mr_model.specs.Dropped.{Has}
use Rattle.mr_model.proofs.Members.{same_id-true, same_id_refl}
use Rattle.mr_model.proofs.UniqueReplay.{none_some, booked_has}
use Rattle.mr_replay.specs.declared.rows.Standing.TheVariants.{Booked, CancelledBy, InErrorLog}
use Rattle.mr_replay.specs.declared.rows.Trace.{Trace}
use Rattle.mr_replay.specs.declared.rows.Trace.TheVariants.{OfBooking, OfCancel}
use Rattle.mr_replay.specs.declared.rows.Row.{Row}
use Rattle.mr_replay.specs.Rows.{Rows, row_at, bookings_of, trace_with, trace_for, row_of, place_by_rows, with_mark, without_mark}
use Rattle.mr_replay.specs.Rows.{change, target_of, marked_by, with_row, executed_at, executed, undo_row_at, undone_by, undone}
use Rattle.mr_replay.specs.Holds.{HaveDistinctIds, told_list, row_in, bears, if_of, HoldsIn}
use Rattle.mr_replay.specs.Bookings.{is_taken, if_taken}
use Rattle.mr_replay.proofs.Entries.{IsInOrder, row_at-put, row_at-removed, in_order-removed}
use Rattle.mr_replay.proofs.Marked.{change_if, nothing-changed, row_at-changed, in_order-changed, in_order-with, change-back}
use Rattle.mr_replay.proofs.Lists.{one_name, same_name, other_name}
use Rattle.mr_replay.proofs.ToldRows.{BearsNot, rows-push, rows-none, rows-bear, booked_at, after-row}
use Rattle.mr_replay.proofs.PlacesOnBoard.{booking-row, same_place}

-- ---- order

in_order-marked : (c : Id) (p : Place) (o : Option Id) (b : Rows) → IsInOrder b → IsInOrder (marked_by c p o b)
in_order-marked c Done (Some t) b h = in_order-changed (with_mark c) t b h
in_order-marked c Done None b h = h
in_order-marked c (Taken k) o b h = h
in_order-marked c Logged o b h = h
in_order-marked c Void o b h = h

pub in_order-executed : (b : Rows) (w : Write) (p : Place) → IsInOrder b → IsInOrder (executed_at b w p)
in_order-executed b w p h = in_order-with (marked_by (id_of w) p (target_of w.action) b) (id_of w) (row_of w p None) (in_order-marked (id_of w) p (target_of w.action) b h)

pub in_order-undone : (i : Id) (p : Place) (o : Option Id) (b : Rows) → IsInOrder b → IsInOrder (undone_by i p o b)
in_order-undone i Done (Some t) b h = in_order-changed (without_mark i) t b h
in_order-undone i Done None b h = in_order-removed b i h
in_order-undone i (Taken k) o b h = in_order-removed b i h
in_order-undone i Logged o b h = in_order-removed b i h
in_order-undone i Void o b h = in_order-removed b i h

-- ---- the part of the rows that is looked at: those of a room, or the bookings of a room

-- a part of the rows: a row is in it or not, whether a cancel marks it or not
pub record IsPart (see : Option Row → Option Row) : Type 0 where
  pub none : see None ≡ None
  pub marks : (c : Id) (row : Row) → see (Some (change (with_mark c) row)) ≡ option_map (change (with_mark c)) (see (Some row))
  pub unmarks : (c : Id) (row : Row) → see (Some (change (without_mark c) row)) ≡ option_map (change (without_mark c)) (see (Some row))

part-cond : (see : Option Row → Option Row) (c : Bool) (o p : Option Row) → see (cond c o p) ≡ cond c (see o) (see p)
part-cond see true o p = refl
part-cond see false o p = refl

part-marked : (see : Option Row → Option Row) → IsPart see → (c : Id) (t : Bool) (o : Option Row) → see (change_if (with_mark c) t o) ≡ change_if (with_mark c) t (see o)
part-marked see part c false o = refl
part-marked see part c true None = part.none ∙ ap (option_map (change (with_mark c))) (sym part.none)
part-marked see part c true (Some row) = part.marks c row

part-unmarked : (see : Option Row → Option Row) → IsPart see → (c : Id) (t : Bool) (o : Option Row) → see (change_if (without_mark c) t o) ≡ change_if (without_mark c) t (see o)
part-unmarked see part c false o = refl
part-unmarked see part c true None = part.none ∙ ap (option_map (change (without_mark c))) (sym part.none)
part-unmarked see part c true (Some row) = part.unmarks c row

pub room_part : (room : Text) → IsPart (if_of room)
room_part room = record {
  none = refl;
  marks = λ c row. go (change (with_mark c)) (bytes_eq row.room room) row;
  unmarks = λ c row. go (change (without_mark c)) (bytes_eq row.room room) row;
} where
  go : (f : Row → Row) (t : Bool) (row : Row) → cond t (Some (f row)) None ≡ option_map f (cond t (Some row) None)
  go f true row = refl
  go f false row = refl

taken-marked : (c : Id) (k : Trace) → is_taken (with_mark c k) ≡ is_taken k
taken-marked c (OfBooking s l t Booked) = refl
taken-marked c (OfBooking s l t (CancelledBy d)) = refl
taken-marked c (OfBooking s l t InErrorLog) = refl
taken-marked c (OfCancel t) = refl

taken-unmarked : (c : Id) (k : Trace) → is_taken (without_mark c k) ≡ is_taken k
taken-unmarked c (OfBooking s l t Booked) = refl
taken-unmarked c (OfBooking s l t (CancelledBy d)) = go (same_id d c)
  where
    go : (b : Bool) → is_taken (OfBooking s l t (cond b Booked (CancelledBy d))) ≡ true
    go true = refl
    go false = refl
taken-unmarked c (OfBooking s l t InErrorLog) = refl
taken-unmarked c (OfCancel t) = refl

pub taken_part : IsPart if_taken
taken_part = record {
  none = refl;
  marks = λ c row. ap (λ t. cond t (Some (change (with_mark c) row)) None) (taken-marked c row.trace) ∙ go (change (with_mark c)) (is_taken row.trace) row;
  unmarks = λ c row. ap (λ t. cond t (Some (change (without_mark c) row)) None) (taken-unmarked c row.trace) ∙ go (change (without_mark c)) (is_taken row.trace) row;
} where
  go : (f : Row → Row) (t : Bool) (row : Row) → cond t (Some (f row)) None ≡ option_map f (cond t (Some row) None)
  go f true row = refl
  go f false row = refl

pub bookings_part : (room : Text) → IsPart (λ o. if_taken (if_of room o))
bookings_part room = record {
  none = refl;
  marks = λ c row. ap if_taken ((room_part room).marks c row) ∙ part-marked if_taken taken_part c true (if_of room (Some row));
  unmarks = λ c row. ap if_taken ((room_part room).unmarks c row) ∙ part-unmarked if_taken taken_part c true (if_of room (Some row));
}

-- ---- a write executed

pub row_at-marked : (c : Id) (a : Action) (p : Place) (b : Rows) (q : Id) → row_at (marked_by c p (target_of a) b) q ≡ change_if (with_mark c) (cancels_it q a p) (row_at b q)
row_at-marked c (Books m) (Taken k) b q = refl
row_at-marked c (Books m) Logged b q = refl
row_at-marked c (Books m) Void b q = refl
row_at-marked c (Books m) Done b q = refl
row_at-marked c (Cancels t) (Taken k) b q = refl
row_at-marked c (Cancels t) Logged b q = refl
row_at-marked c (Cancels t) Void b q = refl
row_at-marked c (Cancels t) Done b q = row_at-changed (with_mark c) t b q

module _ (see : Option Row → Option Row) (part : IsPart see) where
  part-with : (b : Rows) (i : Id) (o : Option Row) (q : Id) → see (row_at b i) ≡ None → see (row_at (with_row i o b) q) ≡ cond (same_id q i) (see o) (see (row_at b q))
  part-with b i (Some row) q new = ap see (row_at-put b i row q) ∙ part-cond see (same_id q i) (Some row) (row_at b q)
  part-with b i None q new = go (same_id q i) refl
    where
      go : (c : Bool) → same_id q i ≡ c → see (row_at b q) ≡ cond c (see None) (see (row_at b q))
      go true e = ap (λ j. see (row_at b j)) (same_id-true q i e) ∙ new ∙ sym part.none
      go false e = refl

  pub part-executed : (b : Rows) (w : Write) (p : Place) (q : Id) → see (row_at b (id_of w)) ≡ None
      → see (row_at (executed_at b w p) q) ≡ cond (same_id q (id_of w)) (see (row_of w p None)) (change_if (with_mark (id_of w)) (cancels_it q w.action p) (see (row_at b q)))
  part-executed b w p q new =
      part-with (marked_by (id_of w) p (target_of w.action) b) (id_of w) (row_of w p None) q
      (marked (id_of w) ∙ ap (change_if (with_mark (id_of w)) (cancels_it (id_of w) w.action p)) new ∙ nothing-changed (with_mark (id_of w)) (cancels_it (id_of w) w.action p))
      ∙ ap (cond (same_id q (id_of w)) (see (row_of w p None))) (marked q)
    where
      marked : (j : Id) → see (row_at (marked_by (id_of w) p (target_of w.action) b) j) ≡ change_if (with_mark (id_of w)) (cancels_it j w.action p) (see (row_at b j))
      marked j = ap see (row_at-marked (id_of w) w.action p b j) ∙ part-marked see part (id_of w) (cancels_it j w.action p) (row_at b j)

-- which undoings take the write's row away; the other ones take its mark away
abbrev pub takes_away : Action → Place → Bool
takes_away (Cancels t) Done = false
takes_away _ _ = true

open_undone : (i : Id) (a : Action) (p : Place) (b : Rows) (q : Id) → IsInOrder b
    → row_at (undone_by i p (target_of a) b) q ≡ cond (takes_away a p) (cond (same_id q i) None (row_at b q)) (change_if (without_mark i) (cancels_it q a p) (row_at b q))
open_undone i (Books m) (Taken k) b q h = row_at-removed b i q h
open_undone i (Books m) Logged b q h = row_at-removed b i q h
open_undone i (Books m) Done b q h = row_at-removed b i q h
open_undone i (Books m) Void b q h = row_at-removed b i q h
open_undone i (Cancels t) (Taken k) b q h = row_at-removed b i q h
open_undone i (Cancels t) Logged b q h = row_at-removed b i q h
open_undone i (Cancels t) Void b q h = row_at-removed b i q h
open_undone i (Cancels t) Done b q h = row_at-changed (without_mark i) t b q

module _ (see : Option Row → Option Row) (part : IsPart see) where
  pub part-undone : (b : Rows) (i : Id) (a : Action) (p : Place) (q : Id) → IsInOrder b
      → see (row_at (undone_by i p (target_of a) b) q) ≡ cond (takes_away a p) (cond (same_id q i) None (see (row_at b q))) (change_if (without_mark i) (cancels_it q a p) (see (row_at b q)))
  part-undone b i a p q h =
      ap see (open_undone i a p b q h)
      ∙ part-cond see (takes_away a p) (cond (same_id q i) None (row_at b q)) (change_if (without_mark i) (cancels_it q a p) (row_at b q))
      ∙ ap (λ o. cond (takes_away a p) o (see (change_if (without_mark i) (cancels_it q a p) (row_at b q))))
      (part-cond see (same_id q i) None (row_at b q) ∙ ap (λ o. cond (same_id q i) o (see (row_at b q))) part.none)
      ∙ ap (cond (takes_away a p) (cond (same_id q i) None (see (row_at b q)))) (part-unmarked see part i (cancels_it q a p) (row_at b q))

-- ---- the last write of a list undone

-- a write whose row is taken away marks none, and one that marks has no row
taking_marks : (a : Action) (p : Place) (q : Id) → takes_away a p ≡ true → cancels_it q a p ≡ false
taking_marks (Books m) p q e = refl
taking_marks (Cancels t) (Taken k) q e = refl
taking_marks (Cancels t) Logged q e = refl
taking_marks (Cancels t) Void q e = refl
taking_marks (Cancels t) Done q e = absurd (true≢false (sym e))

trace_none : (w : Write) (a : Action) (p : Place) → takes_away a p ≡ false → trace_for w a p None ≡ None
trace_none w (Books m) p e = absurd (true≢false e)
trace_none w (Cancels t) (Taken k) e = absurd (true≢false e)
trace_none w (Cancels t) Logged e = absurd (true≢false e)
trace_none w (Cancels t) Void e = absurd (true≢false e)
trace_none w (Cancels t) Done e = refl

row_none : (w : Write) (p : Place) → takes_away w.action p ≡ false → row_of w p None ≡ None
row_none w p e = ap (option_map (λ (k : Trace). record { room = w.room; trace = k })) (trace_none w w.action p e)

trace_some : (w : Write) (a : Action) (p : Place) → takes_away a p ≡ true → (k : Trace) × (trace_for w a p None ≡ Some k)
trace_some w (Books m) p e = (trace_with m (slot_at w p) None, refl)
trace_some w (Cancels t) (Taken k) e = (OfCancel t, refl)
trace_some w (Cancels t) Logged e = (OfCancel t, refl)
trace_some w (Cancels t) Void e = (OfCancel t, refl)
trace_some w (Cancels t) Done e = absurd (true≢false (sym e))

back : (c : Id) (o : Option Row) (b : Bool) → BearsNot c o → change_if (without_mark c) b (change_if (with_mark c) b o) ≡ o
back c o false h = refl
back c None true h = refl
back c (Some row) true h = ap Some (change-back c row h)

-- what was there before the last write is there again once it is undone
restored : (i : Id) (t c x : Bool) (own before : Option Row) → (t ≡ true → x ≡ false) → (t ≡ false → own ≡ None) → (c ≡ true → before ≡ None) → BearsNot i before
    → cond t (cond c None (cond c own (change_if (with_mark i) x before))) (change_if (without_mark i) x (cond c own (change_if (with_mark i) x before))) ≡ before
restored i true true x own before taking marking new bears = sym (new refl)
restored i true false x own before taking marking new bears = ap (λ y. change_if (with_mark i) y before) (taking refl)
restored i false true x own before taking marking new bears = ap (change_if (without_mark i) x) (marking refl) ∙ nothing-changed (without_mark i) x ∙ sym (new refl)
restored i false false x own before taking marking new bears = back i before x bears

pub bears_not-taken : (c : Id) (o : Option Row) → BearsNot c o → BearsNot c (if_taken o)
bears_not-taken c None h = tt
bears_not-taken c (Some row) h = go (is_taken row.trace)
  where
    go : (t : Bool) → BearsNot c (cond t (Some row) None)
    go true = h
    go false = tt

-- what the list gives an id, with one write more, in a part of it
part-push : (given : Option Row → Option Row) → IsPart given → (ws : List Write) (w : Write) (q : Id) → is_among (id_of w) (map id_of ws) ≡ false
    → given (row_in (told_list (ws ++ w ∷ [])) q) ≡ cond (same_id q (id_of w)) (given (row_of w (place_among (after [] ws) w) None))
    (change_if (with_mark (id_of w)) (cancels_it q w.action (place_among (after [] ws) w)) (given (row_in (told_list ws) q)))
part-push given part ws w q new =
    ap given (rows-push ws w q new)
    ∙ part-cond given (same_id q (id_of w)) (row_of w (place_among (after [] ws) w) None)
    (change_if (with_mark (id_of w)) (cancels_it q w.action (place_among (after [] ws) w)) (row_in (told_list ws) q))
    ∙ ap (cond (same_id q (id_of w)) (given (row_of w (place_among (after [] ws) w) None)))
    (part-marked given part (id_of w) (cancels_it q w.action (place_among (after [] ws) w)) (row_in (told_list ws) q))

-- the part that is looked at has what the list gives it: with one write more, and with the last one undone
abbrev pub PartHas : (Option Row → Option Row) → (Option Row → Option Row) → List Write → Rows → Type 0
PartHas see given ws b = (i : Id) → see (row_at b i) ≡ given (row_in (told_list ws) i)

module _ (see given : Option Row → Option Row) (part : IsPart see) (given_part : IsPart given) where
  pub part_has-executed : (ws : List Write) (b : Rows) (w : Write) → see (row_of w (place_by_rows b w) None) ≡ given (row_of w (place_by_rows b w) None)
      → place_by_rows b w ≡ place_among (after [] ws) w → is_among (id_of w) (map id_of ws) ≡ false
      → PartHas see given ws b → PartHas see given (ws ++ w ∷ []) (executed b w)
  part_has-executed ws b w own place new has q =
      part-executed see part b w (place_by_rows b w) q (has (id_of w) ∙ ap given (rows-none ws (id_of w) new) ∙ given_part.none)
      ∙ ap (λ o. cond (same_id q (id_of w)) o (change_if (with_mark (id_of w)) (cancels_it q w.action (place_by_rows b w)) (see (row_at b q)))) own
      ∙ ap (λ o. cond (same_id q (id_of w)) (given (row_of w (place_by_rows b w) None)) (change_if (with_mark (id_of w)) (cancels_it q w.action (place_by_rows b w)) o)) (has q)
      ∙ ap (λ p. cond (same_id q (id_of w)) (given (row_of w p None)) (change_if (with_mark (id_of w)) (cancels_it q w.action p) (given (row_in (told_list ws) q)))) place
      ∙ sym (part-push given given_part ws w q new)

  pub part_has-undone : (ws : List Write) (b : Rows) (w : Write) → ((c : Id) (o : Option Row) → BearsNot c o → BearsNot c (given o)) → IsInOrder b → is_among (id_of w) (map id_of ws) ≡ false
      → PartHas see given (ws ++ w ∷ []) b → PartHas see given ws (undone b (undo_row_at w (place_among (after [] ws) w)))
  part_has-undone ws b w bears ordered new has q =
      let i = id_of w in
      let p = place_among (after [] ws) w in
      part-undone see part b i w.action p q ordered
      ∙ ap (λ o. cond (takes_away w.action p) (cond (same_id q i) None o) (change_if (without_mark i) (cancels_it q w.action p) o)) (has q ∙ part-push given given_part ws w q new)
      ∙ restored i (takes_away w.action p) (same_id q i) (cancels_it q w.action p) (given (row_of w p None)) (given (row_in (told_list ws) q)) (taking_marks w.action p q)
      (λ e. ap given (row_none w p e) ∙ given_part.none)
      (λ e. ap given (rows-none ws q (ap (λ j. is_among j (map id_of ws)) (same_id-true q i e) ∙ new)) ∙ given_part.none)
      (bears i (row_in (told_list ws) q) (rows-bear ws i q new))

-- all that a list gives
pub whole_part : IsPart (λ o. o)
whole_part = record { none = refl; marks = λ c row. refl; unmarks = λ c row. refl }

-- ---- the row of a write, if it is of the room

pub row-own : (room : Text) (w : Write) (p : Place) → w.room ≡ room → if_of room (row_of w p None) ≡ row_of w p None
row-own room w p is = go (trace_for w w.action p None)
  where
    go : (o : Option Trace) → if_of room (option_map (λ k. record { room = w.room; trace = k }) o) ≡ option_map (λ k. record { room = w.room; trace = k }) o
    go None = refl
    go (Some k) = ap (λ t. cond t (Some (record { room = w.room; trace = k })) None) (same_name w.room room is)

pub row-other : (room : Text) (w : Write) (p : Place) → bytes_eq w.room room ≡ false → if_of room (row_of w p None) ≡ None
row-other room w p e = go (trace_for w w.action p None)
  where
    go : (o : Option Trace) → if_of room (option_map (λ k. record { room = w.room; trace = k }) o) ≡ None
    go None = refl
    go (Some k) = ap (λ t. cond t (Some (record { room = w.room; trace = k })) None) e

-- a row of one room is of no other
pub if_of-apart : (room other : Text) (o : Option Row) (row : Row) → if_of room o ≡ Some row → bytes_eq other room ≡ false → if_of other o ≡ None
if_of-apart room other None row h e = refl
if_of-apart room other (Some r) row h e = go (bytes_eq r.room room) refl h
  where
    go : (b : Bool) → bytes_eq r.room room ≡ b → cond b (Some r) None ≡ Some row → if_of other (Some r) ≡ None
    go true is g = ap (λ t. cond t (Some r) None) (other_name r.room room other (one_name r.room room is) e)
    go false is g = absurd (none_some row g)

-- what no room has is not on the board
pub absent : (o : Option Row) → ((room : Text) → if_of room o ≡ None) → o ≡ None
absent None h = refl
absent (Some row) h = sym (ap (λ t. cond t (Some row) None) (same_name row.room row.room refl)) ∙ h row.room

-- rows that are alike for each room are one
pub same_row : (o p : Option Row) → ((room : Text) → if_of room o ≡ if_of room p) → o ≡ p
same_row None p h = sym (absent p (λ room. sym (h room)))
same_row (Some x) None h = absent (Some x) h
same_row (Some x) (Some y) h = by (bytes_eq y.room x.room) (sym (ap (λ t. cond t (Some x) None) (same_name x.room x.room refl)) ∙ h x.room)
  where
    by : (b : Bool) → Some x ≡ cond b (Some y) None → Some x ≡ Some y
    by true e = e
    by false e = absurd (none_some x (sym e))

-- ---- in its own room

pub HoldsIn-executed : (room : Text) (ws : List Write) (b : Rows) (w : Write) → w.room ≡ room → IsInOrder b → HaveDistinctIds ws
    → is_among (id_of w) (map id_of ws) ≡ false → HoldsIn room ws b → HoldsIn room (ws ++ w ∷ []) (executed b w)
HoldsIn-executed room ws b w is ordered distinct new holds =
    part_has-executed (if_of room) (λ o. o) (room_part room) whole_part ws b w (row-own room w (place_by_rows b w) is) (same_place room ws b w is ordered distinct holds) new holds

pub HoldsIn-undone : (room : Text) (ws : List Write) (b : Rows) (w : Write) → IsInOrder b → is_among (id_of w) (map id_of ws) ≡ false
    → HoldsIn room (ws ++ w ∷ []) b → HoldsIn room ws (undone b (undo_row_at w (place_among (after [] ws) w)))
HoldsIn-undone room ws b w ordered new holds = part_has-undone (if_of room) (λ o. o) (room_part room) whole_part ws b w (λ c o h. h) ordered new holds

-- ---- in another room

-- what a cancel takes back is of its own room
pub target_row : (b : Rows) (room : Text) (t : Id) → IsInOrder b → is_booked t (bookings_of room b) ≡ true → (row : Row) × (if_of room (row_at b t) ≡ Some row)
target_row b room t ordered e =
    let (x, h, at) = booked_has t (bookings_of room b) e in
    go x (if_of room (row_at b t)) refl (subst (λ i. Has x (booked_at i (if_of room (row_at b i)))) at (booking-row room b x ordered h))
  where
    go : (x : Booking) (o : Option Row) → if_of room (row_at b t) ≡ o → Has x (booked_at t o) → (row : Row) × (if_of room (row_at b t) ≡ Some row)
    go x None is h = absurd h
    go x (Some row) is h = (row, is)

-- a place that cancels is that of a cancel which found its target booked
pub cancels_booked : (bs : List Booking) (a : Action) (q : Id) → cancels_it q a (place_for bs a) ≡ true → is_booked q bs ≡ true
cancels_booked bs (Books m) q e = absurd (true≢false (sym e))
cancels_booked bs (Cancels t) q e = go (is_booked t bs) refl e
  where
    go : (c : Bool) → is_booked t bs ≡ c → cancels_it q (Cancels t) (cond c Done Void) ≡ true → is_booked q bs ≡ true
    go true found f = ap (λ i. is_booked i bs) (same_id-true q t f) ∙ found
    go false found f = absurd (true≢false (sym f))

not_there : (room : Text) (b : Rows) (i q : Id) (o : Option Row) → o ≡ None → if_of room (row_at b i) ≡ None → cond (same_id q i) o (if_of room (row_at b q)) ≡ if_of room (row_at b q)
not_there room b i q o none gone = go (same_id q i) refl
  where
    go : (c : Bool) → same_id q i ≡ c → cond c o (if_of room (row_at b q)) ≡ if_of room (row_at b q)
    go true e = none ∙ sym (ap (λ j. if_of room (row_at b j)) (same_id-true q i e) ∙ gone)
    go false e = refl

pub apart_names : (room other : Text) → bytes_eq room other ≡ false → bytes_eq other room ≡ false
apart_names room other e = false_from_ne_true (bytes_eq other room) (λ s. true≢false (sym (same_name room other (sym (one_name other room s))) ∙ e))

pub other-executed : (room : Text) (b : Rows) (w : Write) → bytes_eq w.room room ≡ false → IsInOrder b
    → if_of room (row_at b (id_of w)) ≡ None → (q : Id) → if_of room (row_at (executed b w) q) ≡ if_of room (row_at b q)
other-executed room b w other ordered new q =
    part-executed (if_of room) (room_part room) b w (place_by_rows b w) q new
    ∙ ap (cond (same_id q (id_of w)) (if_of room (row_of w (place_by_rows b w) None))) (unchanged (cancels_it q w.action (place_by_rows b w)) refl)
    ∙ not_there room b (id_of w) q (if_of room (row_of w (place_by_rows b w) None)) (row-other room w (place_by_rows b w) other) new
  where
    unchanged : (c : Bool) → cancels_it q w.action (place_by_rows b w) ≡ c → change_if (with_mark (id_of w)) c (if_of room (row_at b q)) ≡ if_of room (row_at b q)
    unchanged false e = refl
    unchanged true e =
        let (row, at) = target_row b w.room q ordered (cancels_booked (bookings_of w.room b) w.action q e) in
        let none : if_of room (row_at b q) ≡ None = if_of-apart w.room room (row_at b q) row at (apart_names w.room room other) in
        ap (option_map (change (with_mark (id_of w)))) none ∙ sym none

pub other-undone : (room other : Text) (ws : List Write) (b : Rows) (w : Write) → bytes_eq other room ≡ false
    → IsInOrder b → HaveDistinctIds ws → is_among (id_of w) (map id_of ws) ≡ false → HoldsIn room (ws ++ w ∷ []) b
    → (q : Id) → if_of other (row_at (undone b (undo_row_at w (place_among (after [] ws) w))) q) ≡ if_of other (row_at b q)
other-undone room other ws b w away ordered distinct new holds q =
    part-undone (if_of other) (room_part other) b i w.action p q ordered ∙ go (takes_away w.action p) refl (cancels_it q w.action p) refl
  where
    i : Id
    i = id_of w

    p : Place
    p = place_among (after [] ws) w

    not_of_other : (j : Id) (row : Row) → row_in (told_list (ws ++ w ∷ [])) j ≡ Some row → if_of other (row_at b j) ≡ None
    not_of_other j row e = if_of-apart room other (row_at b j) row (holds j ∙ e) away

    -- its own row is of its room
    own : takes_away w.action p ≡ true → if_of other (row_at b i) ≡ None
    own e =
        let (k, is) = trace_some w w.action p e in
        not_of_other i (record { room = w.room; trace = k })
        (rows-push ws w i new
        ∙ ap (λ c. cond c (row_of w p None) (change_if (with_mark i) (cancels_it i w.action p) (row_in (told_list ws) i))) (same_id_refl i)
        ∙ ap (option_map (λ (x : Trace). record { room = w.room; trace = x })) is)

    some_row : (x : Booking) (o : Option Row) → Has x (booked_at x.id o) → (row : Row) × (o ≡ Some row)
    some_row x None h = absurd h
    some_row x (Some row) h = (row, refl)

    -- and so is its target's
    target : cancels_it q w.action p ≡ true → if_of other (row_at b q) ≡ None
    target e =
        let (x, h, at) = booked_has q (after [] ws) (cancels_booked (after [] ws) w.action q e) in
        let (row, is) = some_row x (row_in (told_list ws) x.id) (after-row ws x distinct h) in
        let there : row_in (told_list ws) q ≡ Some row = ap (row_in (told_list ws)) (sym at) ∙ is in
        let not_own : same_id q i ≡ false = false_from_ne_true (same_id q i) (λ s. none_some row (sym (rows-none ws q (ap (λ j. is_among j (map id_of ws)) (same_id-true q i s) ∙ new)) ∙ there)) in
        not_of_other q (change (with_mark i) row)
        (rows-push ws w q new
        ∙ ap (λ c. cond c (row_of w p None) (change_if (with_mark i) (cancels_it q w.action p) (row_in (told_list ws) q))) not_own
        ∙ ap (λ c. change_if (with_mark i) c (row_in (told_list ws) q)) e ∙ ap (option_map (change (with_mark i))) there)

    go : (t : Bool) → takes_away w.action p ≡ t → (c : Bool) → cancels_it q w.action p ≡ c
        → cond t (cond (same_id q i) None (if_of other (row_at b q))) (change_if (without_mark i) c (if_of other (row_at b q))) ≡ if_of other (row_at b q)
    go true takes c cancels = not_there other b i q None refl (own takes)
    go false takes false cancels = refl
    go false takes true cancels = ap (option_map (change (without_mark i))) (target cancels) ∙ sym (target cancels)
