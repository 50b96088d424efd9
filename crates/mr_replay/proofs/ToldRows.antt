-- The rows that a list of writes gives: after one write more, and as the bookings that stand.
use Rattle.std.proofs.Common.{◌≡◌, refl, sym, ap, ◌∙◌, subst, ℕ, Bool, true, false, cond, List, [], ◌∷◌, ◌++◌, map, ◌⊎◌, inl, inr, Option, Some, None, append-nil}
use Rattle.std.proofs.lemmas.Bool.{true≢false, or_parts}
use Rattle.std.specs.Prelude.{option_map}
use Rattle.std.specs.List.{flat_map, slice_get}
use Rattle.mr_model.specs.Slots.{Slot}
use Rattle.mr_model.specs.Writes.{Id, Action, Books, Cancels, Write, id_of, same_id, choices_in, length_of, length_in}
use Rattle.mr_model.specs.Replica.{is_among}
use Rattle.mr_model.specs.Replay.{Place, Taken, Logged, Done, Void, Booking, place_among, slot_at, booking_of, booked_with, replay}
use Rattle.mr_model.specs.Board.{after}
use Rattle.mr_model.specs.View.{Placed, placed_with, cancels_it, cancel_of, Told, tell, booking_unless, booked_told, told_of}
use Rattle.mr_model.specs.Dropped.{Has}
use Rattle.mr_model.proofs.Members.{has_left, has_right, has_split, has_map, find_has, has_among, same_id-true, same_id_from}
use Rattle.mr_model.proofs.PlacedInOrder.{placed_among, placed_with-replay, booked_by, booked_by-among, unless_taken, told-stand, placed_id}
use Rattle.mr_replay.specs.declared.rows.Trace.{Trace}
use Rattle.mr_replay.specs.declared.rows.Row.{Row}
use Rattle.mr_replay.specs.Rows.{booking_traced, trace_with, trace_for, row_of, with_mark, change}
use Rattle.mr_replay.specs.Holds.{AreDistinct, HaveDistinctIds, bears, told_list, told_row, row_if, row_in}
use Rattle.mr_replay.proofs.IdKeys.{same_id_equivalence}
use Rattle.mr_replay.proofs.Marked.{change_if, nothing-changed}

-- ---- one placed write more

or_else : Option Placed → Option Placed → Option Placed
or_else (Some x) o = Some x
or_else None o = o

cancel_of-push : (i : Id) (ps : List Placed) (q : Placed) → cancel_of i (ps ++ q ∷ []) ≡ or_else (cancel_of i ps) (cond (cancels_it i q.write.action q.place) (Some q) None)
unfolding or_else
cancel_of-push i [] q = refl
cancel_of-push i (p ∷ ps) q = go (cancels_it i p.write.action p.place) (cancel_of-push i ps q)
  where
    go : (b : Bool) → cancel_of i (ps ++ q ∷ []) ≡ or_else (cancel_of i ps) (cond (cancels_it i q.write.action q.place) (Some q) None)
        → cond b (Some p) (cancel_of i (ps ++ q ∷ [])) ≡ or_else (cond b (Some p) (cancel_of i ps)) (cond (cancels_it i q.write.action q.place) (Some q) None)
    go true ih = refl
    go false ih = ih

-- the row of a write that a later cancel may take back
trace_marked : (w : Write) (a : Action) (p : Place) (c : Id) → trace_for w a p (Some c) ≡ option_map (with_mark c) (trace_for w a p None)
trace_marked w (Books m) p c = go (slot_at w p)
  where
    go : (o : Option Slot) → Some (trace_with m o (Some c)) ≡ option_map (with_mark c) (Some (trace_with m o None))
    go None = refl
    go (Some s) = refl
trace_marked w (Cancels t) (Taken k) c = refl
trace_marked w (Cancels t) Logged c = refl
trace_marked w (Cancels t) Done c = refl
trace_marked w (Cancels t) Void c = refl

trace_stays : (w : Write) (a : Action) (p : Place) (c d : Id) → trace_for w a p (Some d) ≡ option_map (with_mark c) (trace_for w a p (Some d))
trace_stays w (Books m) p c d = go (slot_at w p)
  where
    go : (o : Option Slot) → Some (trace_with m o (Some d)) ≡ option_map (with_mark c) (Some (trace_with m o (Some d)))
    go None = refl
    go (Some s) = refl
trace_stays w (Cancels t) (Taken k) c d = refl
trace_stays w (Cancels t) Logged c d = refl
trace_stays w (Cancels t) Done c d = refl
trace_stays w (Cancels t) Void c d = refl

in_room : (w : Write) (o p : Option Trace) (c : Id) → o ≡ option_map (with_mark c) p
    → option_map (λ k. record { room = w.room; trace = k }) o ≡ option_map (change (with_mark c)) (option_map (λ k. record { room = w.room; trace = k }) p)
in_room w o None c e = ap (option_map (λ (k : Trace). record { room = w.room; trace = k })) e
in_room w o (Some k) c e = ap (option_map (λ (j : Trace). record { room = w.room; trace = j })) e

-- the row of a told write, with one more write behind it
late_row : (w : Write) (p : Place) (o : Option Placed) (q : Placed) (b : Bool)
    → row_of w p (option_map (λ c. id_of c.write) (or_else o (cond b (Some q) None))) ≡ change_if (with_mark (id_of q.write)) b (row_of w p (option_map (λ c. id_of c.write) o))
unfolding or_else
late_row w p None q false = refl
late_row w p (Some x) q false = refl
late_row w p None q true = in_room w (trace_for w w.action p (Some (id_of q.write))) (trace_for w w.action p None) (id_of q.write) (trace_marked w w.action p (id_of q.write))
late_row w p (Some x) q true =
    in_room w (trace_for w w.action p (Some (id_of x.write))) (trace_for w w.action p (Some (id_of x.write))) (id_of q.write) (trace_stays w w.action p (id_of q.write) (id_of x.write))

-- one more: its own row, and its mark where it takes a booking back
pub row_in-push : (ps : List Placed) (q : Placed) (i : Id) → is_among (id_of q.write) (map placed_id ps) ≡ false
    → row_in (tell (ps ++ q ∷ [])) i ≡ cond (same_id i (id_of q.write)) (row_of q.write q.place None) (change_if (with_mark (id_of q.write)) (cancels_it i q.write.action q.place) (row_in (tell ps) i))
row_in-push [] q i new = ap (λ b. row_if (cond b (Some last) None)) (same_id_equivalence.symm (id_of q.write) i) ∙ go (same_id i (id_of q.write))
  where
    last : Told
    last = record { write = q.write; is_committed = q.is_committed; place = q.place; cancelled_by = None }

    go : (b : Bool) → row_if (cond b (Some last) None) ≡ cond b (row_of q.write q.place None) (change_if (with_mark (id_of q.write)) (cancels_it i q.write.action q.place) None)
    go true = refl
    go false = sym (nothing-changed (with_mark (id_of q.write)) (cancels_it i q.write.action q.place))
row_in-push (p ∷ ps) q i new = go (same_id (id_of p.write) i) refl (row_in-push ps q i parts.1)
  where
    parts : (same_id (id_of q.write) (id_of p.write) ≡ false) × (is_among (id_of q.write) (map placed_id ps) ≡ false)
    parts = or_parts (same_id (id_of q.write) (id_of p.write)) (is_among (id_of q.write) (map placed_id ps)) new

    c : Bool
    c = cancels_it i q.write.action q.place

    old : Told
    old = record { write = p.write; is_committed = p.is_committed; place = p.place; cancelled_by = cancel_of (id_of p.write) ps }

    newer : Told
    newer = record { write = p.write; is_committed = p.is_committed; place = p.place; cancelled_by = cancel_of (id_of p.write) (ps ++ q ∷ []) }

    apart : same_id (id_of p.write) i ≡ true → same_id i (id_of q.write) ≡ false
    apart e = ap (λ x. same_id x (id_of q.write)) (sym (same_id-true (id_of p.write) i e)) ∙ same_id_equivalence.symm (id_of p.write) (id_of q.write) ∙ parts.0

    go : (b : Bool) → same_id (id_of p.write) i ≡ b
        → row_in (tell (ps ++ q ∷ [])) i ≡ cond (same_id i (id_of q.write)) (row_of q.write q.place None) (change_if (with_mark (id_of q.write)) c (row_in (tell ps) i))
        → row_if (cond b (Some newer) (told_of i (tell (ps ++ q ∷ []))))
        ≡ cond (same_id i (id_of q.write)) (row_of q.write q.place None) (change_if (with_mark (id_of q.write)) c (row_if (cond b (Some old) (told_of i (tell ps)))))
    go true e ih =
        ap (λ o. row_of p.write p.place (option_map (λ x. id_of x.write) o)) (cancel_of-push (id_of p.write) ps q)
        ∙ late_row p.write p.place (cancel_of (id_of p.write) ps) q (cancels_it (id_of p.write) q.write.action q.place)
        ∙ ap (λ j. change_if (with_mark (id_of q.write)) (cancels_it j q.write.action q.place) (told_row old)) (same_id-true (id_of p.write) i e)
        ∙ ap (λ b. cond b (row_of q.write q.place None) (change_if (with_mark (id_of q.write)) c (told_row old))) (sym (apart e))
    go false e ih = ih

pub row_in-none : (ps : List Placed) (i : Id) → is_among i (map placed_id ps) ≡ false → row_in (tell ps) i ≡ None
row_in-none [] i h = refl
row_in-none (p ∷ ps) i h =
    let parts = or_parts (same_id i (id_of p.write)) (is_among i (map placed_id ps)) h in
    ap (λ b. row_if (cond b (Some (record { write = p.write; is_committed = p.is_committed; place = p.place; cancelled_by = cancel_of (id_of p.write) ps })) (told_of i (tell ps))))
    (same_id_equivalence.symm (id_of p.write) i ∙ parts.0)
    ∙ row_in-none ps i parts.1

-- ---- a row bears only marks of the list's own writes

cancel_has : (i : Id) (ps : List Placed) (q : Placed) → cancel_of i ps ≡ Some q → Has q ps
cancel_has i ps q e = (find_has (λ p. cancels_it i p.write.action p.place) q ps e).0

abbrev pub BearsNot : Id → Option Row → Type 0
BearsNot c None = Unit {0}
BearsNot c (Some row) = bears c row.trace ≡ false

placed_among_has : (q : Placed) (ps : List Placed) → Has q ps → Has (placed_id q) (map placed_id ps)
placed_among_has q ps h = has_map placed_id q ps h

trace_bears : (w : Write) (a : Action) (p : Place) (c : Id) (o : Option Id) → ((d : Id) → o ≡ Some d → same_id d c ≡ false)
    → BearsNot c (option_map (λ k. record { room = w.room; trace = k }) (trace_for w a p o))
trace_bears w (Books m) p c o f = go (slot_at w p) o f
  where
    go : (s : Option Slot) (o : Option Id) → ((d : Id) → o ≡ Some d → same_id d c ≡ false) → bears c (trace_with m s o) ≡ false
    go None o f = refl
    go (Some s) None f = refl
    go (Some s) (Some d) f = f d refl
trace_bears w (Cancels t) (Taken k) c o f = refl
trace_bears w (Cancels t) Logged c o f = refl
trace_bears w (Cancels t) Done c o f = tt
trace_bears w (Cancels t) Void c o f = refl

pub row_in-bears : (ps : List Placed) (c i : Id) → is_among c (map placed_id ps) ≡ false → BearsNot c (row_in (tell ps) i)
row_in-bears [] c i h = tt
row_in-bears (p ∷ ps) c i h = go (same_id (id_of p.write) i) (row_in-bears ps c i parts.1)
  where
    parts : (same_id c (id_of p.write) ≡ false) × (is_among c (map placed_id ps) ≡ false)
    parts = or_parts (same_id c (id_of p.write)) (is_among c (map placed_id ps)) h

    here : Told
    here = record { write = p.write; is_committed = p.is_committed; place = p.place; cancelled_by = cancel_of (id_of p.write) ps }

    other : (d : Id) (o : Option Placed) → o ≡ cancel_of (id_of p.write) ps → option_map (λ x. id_of x.write) o ≡ Some d → same_id d c ≡ false
    other d None e f = absurd (let g : ◌≡◌ {A = Option Id} None (Some d) = f in cc)
    other d (Some q) e f = apart (same_id d c) refl
      where
        at : id_of q.write ≡ d
        at = let g : Some (id_of q.write) ≡ Some d = f in cc

        there : is_among (id_of q.write) (map placed_id ps) ≡ true
        there = has_among (placed_id q) (map placed_id ps) (placed_among_has q ps (cancel_has (id_of p.write) ps q (sym e)))

        apart : (b : Bool) → same_id d c ≡ b → b ≡ false
        apart false s = refl
        apart true s = absurd (true≢false (sym there ∙ ap (λ j. is_among j (map placed_id ps)) (at ∙ same_id-true d c s) ∙ parts.1))

    go : (b : Bool) → BearsNot c (row_in (tell ps) i) → BearsNot c (row_if (cond b (Some here) (told_of i (tell ps))))
    go true ih = trace_bears p.write p.write.action p.place c (option_map (λ x. id_of x.write) (cancel_of (id_of p.write) ps)) (λ d f. other d (cancel_of (id_of p.write) ps) refl f)
    go false ih = ih

-- ---- the list of a room

-- without marks of commits
abbrev pub list_places : List Write → List Placed
list_places ws = placed_with false ws (replay ws)

pub list_places-is : (ws : List Write) → list_places ws ≡ placed_among false [] ws
list_places-is ws = ap (placed_with false ws) (sym (append-nil (replay ws))) ∙ placed_with-replay false [] ws []

pub among-append : (bs : List Booking) (xs ys : List Write) → placed_among false bs (xs ++ ys) ≡ placed_among false bs xs ++ placed_among false (after bs xs) ys
among-append bs [] ys = refl
among-append bs (x ∷ xs) ys = ap (λ (ts : List Placed). record { write = x; is_committed = false; place = place_among bs x } ∷ ts) (among-append (booked_with bs x (place_among bs x)) xs ys)

pub list_places-push : (ws : List Write) (w : Write) → list_places (ws ++ w ∷ []) ≡ list_places ws ++ record { write = w; is_committed = false; place = place_among (after [] ws) w } ∷ []
list_places-push ws w =
    list_places-is (ws ++ w ∷ []) ∙ among-append [] ws (w ∷ []) ∙ ap (λ (ps : List Placed). ps ++ placed_among false (after [] ws) (w ∷ [])) (sym (list_places-is ws))

pub list_ids : (ws : List Write) → map placed_id (list_places ws) ≡ map id_of ws
list_ids ws = ap (map placed_id) (list_places-is ws) ∙ go [] ws
  where
    go : (bs : List Booking) (vs : List Write) → map placed_id (placed_among false bs vs) ≡ map id_of vs
    go bs [] = refl
    go bs (v ∷ vs) = ap (λ (is : List Id). id_of v ∷ is) (go (booked_with bs v (place_among bs v)) vs)

pub rows-push : (ws : List Write) (w : Write) (i : Id) → is_among (id_of w) (map id_of ws) ≡ false
    → row_in (told_list (ws ++ w ∷ [])) i
    ≡ cond (same_id i (id_of w)) (row_of w (place_among (after [] ws) w) None) (change_if (with_mark (id_of w)) (cancels_it i w.action (place_among (after [] ws) w)) (row_in (told_list ws) i))
rows-push ws w i new =
    ap (λ ps. row_in (tell ps) i) (list_places-push ws w)
    ∙ row_in-push (list_places ws) (record { write = w; is_committed = false; place = place_among (after [] ws) w }) i (ap (is_among (id_of w)) (list_ids ws) ∙ new)

pub rows-none : (ws : List Write) (i : Id) → is_among i (map id_of ws) ≡ false → row_in (told_list ws) i ≡ None
rows-none ws i h = row_in-none (list_places ws) i (ap (is_among i) (list_ids ws) ∙ h)

pub rows-bear : (ws : List Write) (c i : Id) → is_among c (map id_of ws) ≡ false → BearsNot c (row_in (told_list ws) i)
rows-bear ws c i h = row_in-bears (list_places ws) c i (ap (is_among c) (list_ids ws) ∙ h)

-- ---- the bookings of the rows are those that stand

abbrev pub booked_at : Id → Option Row → List Booking
booked_at i None = []
booked_at i (Some row) = booking_traced i row.trace

told_booking : (w : Write) (a : Action) (p : Place) (o : Option Placed) → w.action ≡ a
    → booked_at (id_of w) (option_map (λ k. record { room = w.room; trace = k }) (trace_for w a p (option_map (λ x. id_of x.write) o))) ≡ booking_unless o w p
told_booking w (Books m) p o e = go (slot_at w p) o ∙ sym (unless_taken w p o)
  where
    long : length_of w ≡ m.length
    long = ap length_in e

    go : (s : Option Slot) (o : Option Placed) → booking_traced (id_of w) (trace_with m s (option_map (λ x. id_of x.write) o)) ≡ elim o [ None ↦ booking_of w s | Some q ↦ [] ]
    go None None = refl
    go None (Some q) = refl
    go (Some s) None = ap (λ n. record { id = id_of w; slot = s; length = n } ∷ []) (sym long)
    go (Some s) (Some q) = refl
told_booking w (Cancels t) p o e = go p o
  where
    none : (k : ℕ) → slot_at w (Taken k) ≡ None
    none k = ap (λ b. slice_get (choices_in b) k) e

    go : (p : Place) (o : Option Placed)
        → booked_at (id_of w) (option_map (λ k. record { room = w.room; trace = k }) (trace_for w (Cancels t) p (option_map (λ x. id_of x.write) o))) ≡ booking_unless o w p
    go (Taken k) None = sym (ap (booking_of w) (none k))
    go (Taken k) (Some q) = refl
    go Logged None = refl
    go Logged (Some q) = refl
    go Done None = refl
    go Done (Some q) = refl
    go Void None = refl
    go Void (Some q) = refl

pub told-booking : (t : Told) → booked_at (id_of t.write) (told_row t) ≡ booked_told t
told-booking t = told_booking t.write t.write.action t.place t.cancelled_by refl

-- a booking bears the id of its write
booking_id : (w : Write) (p : Place) (o : Option Placed) (x : Booking) → Has x (booking_unless o w p) → x.id ≡ id_of w
booking_id w p None x h = go (slot_at w p) h
  where
    go : (s : Option Slot) → Has x (booking_of w s) → x.id ≡ id_of w
    go None g = absurd g
    go (Some s) (inl e) = ap (λ (b : Booking). b.id) e
    go (Some s) (inr g) = absurd g
booking_id w p (Some q) x h = absurd h

abbrev told_ids : List Told → List Id
told_ids ts = map (λ t. id_of t.write) ts

-- what is booked under an id is what is told of the id as booked
booked_there : (ts : List Told) (x : Booking) → AreDistinct (told_ids ts) → Has x (flat_map booked_told ts) → Has x (booked_at x.id (row_in ts x.id))
booked_there [] x d h = absurd h
booked_there (t ∷ ts) x d h = go (has_split x (booked_told t) (flat_map booked_told ts) h) (booked_there ts x d.1)
  where
    found : (b : Bool) → same_id (id_of t.write) x.id ≡ b → b ≡ true → row_in (t ∷ ts) x.id ≡ told_row t
    found b e s = ap (λ c. row_if (cond c (Some t) (told_of x.id ts))) (e ∙ s)

    later : (b : Bool) → same_id (id_of t.write) x.id ≡ b → Has x (booked_at x.id (row_in ts x.id)) → Has x (booked_at x.id (row_if (cond b (Some t) (told_of x.id ts))))
    later false e g = g
    later true e g = absurd (none (sym (same_id-true (id_of t.write) x.id e)) g)
      where
        none : x.id ≡ id_of t.write → Has x (booked_at x.id (row_in ts x.id)) → ⊥
        none at g = subst (λ o. Has x (booked_at x.id (row_if o))) (absent ts (ap (λ i. is_among i (told_ids ts)) at ∙ d.0)) g
          where
            absent : (us : List Told) → is_among x.id (told_ids us) ≡ false → told_of x.id us ≡ None
            absent [] k = refl
            absent (u ∷ us) k =
                let p = or_parts (same_id x.id (id_of u.write)) (is_among x.id (told_ids us)) k in
                ap (λ c. cond c (Some u) (told_of x.id us)) (same_id_equivalence.symm (id_of u.write) x.id ∙ p.0) ∙ absent us p.1

    go : Has x (booked_told t) ⊎ Has x (flat_map booked_told ts) → (Has x (flat_map booked_told ts) → Has x (booked_at x.id (row_in ts x.id))) → Has x (booked_at x.id (row_in (t ∷ ts) x.id))
    go (inl g) ih =
        let at : x.id ≡ id_of t.write = booking_id t.write t.place t.cancelled_by x g in
        subst (λ o. Has x (booked_at x.id o)) (sym (found (same_id (id_of t.write) x.id) refl (same_id_from (id_of t.write) x.id (sym at))))
        (subst (λ i. Has x (booked_at i (told_row t))) (sym at) (subst (λ bs. Has x bs) (sym (told-booking t)) g))
    go (inr g) ih = later (same_id (id_of t.write) x.id) refl (ih g)

there_booked : (ts : List Told) (x : Booking) → Has x (booked_at x.id (row_in ts x.id)) → Has x (flat_map booked_told ts)
there_booked [] x h = absurd h
there_booked (t ∷ ts) x h = go (same_id (id_of t.write) x.id) refl h (there_booked ts x)
  where
    go : (b : Bool) → same_id (id_of t.write) x.id ≡ b → Has x (booked_at x.id (row_if (cond b (Some t) (told_of x.id ts))))
        → (Has x (booked_at x.id (row_in ts x.id)) → Has x (flat_map booked_told ts)) → Has x (booked_told t ++ flat_map booked_told ts)
    go true e g ih = has_left x (booked_told t) (flat_map booked_told ts)
        (subst (λ bs. Has x bs) (told-booking t) (subst (λ i. Has x (booked_at i (told_row t))) (sym (same_id-true (id_of t.write) x.id e)) g))
    go false e g ih = has_right x (booked_told t) (flat_map booked_told ts) (ih g)

tell_ids : (ps : List Placed) → told_ids (tell ps) ≡ map placed_id ps
tell_ids [] = refl
tell_ids (p ∷ ps) = ap (λ (is : List Id). id_of p.write ∷ is) (tell_ids ps)

list_stands : (ws : List Write) → flat_map booked_told (told_list ws) ≡ after [] ws
list_stands ws = sym (told-stand [] (list_places ws)) ∙ ap (booked_by []) (list_places-is ws) ∙ booked_by-among false [] ws

pub after-row : (ws : List Write) (x : Booking) → HaveDistinctIds ws → Has x (after [] ws) → Has x (booked_at x.id (row_in (told_list ws) x.id))
after-row ws x d h =
    booked_there (told_list ws) x (subst AreDistinct (sym (tell_ids (list_places ws) ∙ list_ids ws)) d) (subst (λ bs. Has x bs) (sym (list_stands ws)) h)

pub row-after : (ws : List Write) (x : Booking) → Has x (booked_at x.id (row_in (told_list ws) x.id)) → Has x (after [] ws)
row-after ws x h = subst (λ bs. Has x bs) (list_stands ws) (there_booked (told_list ws) x h)
