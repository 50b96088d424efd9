-- What a view tells, as the executions one after the other that it is; and which bookings it tells of as standing.
use Rattle.std.proofs.Common.{◌≡◌, refl, sym, ap, ◌∙◌, ℕ, Bool, true, false, not, cond, List, [], ◌∷◌, ◌++◌, length, take, drop, Option, Some, None, append_assoc, append-nil}
use Rattle.std.proofs.lemmas.List.Elements.{filter-append, filter_agree}
use Rattle.std.specs.List.{filter, flat_map}
use Rattle.std.specs.Option.{is_none}
use Rattle.mr_model.specs.Slots.{Slot}
use Rattle.mr_model.specs.Writes.{Id, Action, Books, Cancels, Write, id_of, same_id, length_of}
use Rattle.mr_model.specs.Replay.{Place, Taken, Logged, Done, Void, Booking, place_among, slot_at, booking_of, without_target, booked_with, replay_among, replay}
use Rattle.mr_model.specs.Board.{after}
use Rattle.mr_model.specs.View.{View, Placed, placed_with, whole_places, committed_places, cancels_it, cancel_of, tell, booking_unless, booked_told, whole_list, committed_list}
use Rattle.mr_model.proofs.UniqueReplay.{length-replay, booked_after}
use Rattle.mr_model.proofs.RoomsApart.{replay-append, after-append}
use Rattle.mr_model.proofs.Lists.{filter_true}

-- the writes executed one after the other, from these bookings on
abbrev pub placed_among : Bool → List Booking → List Write → List Placed
placed_among mark bs [] = []
placed_among mark bs (w ∷ ws) =
    record { write = w; is_committed = mark; place = place_among bs w } ∷ placed_among mark (booked_with bs w (place_among bs w)) ws

pub placed_with-replay : (mark : Bool) (bs : List Booking) (ws : List Write) (ps : List Place) → placed_with mark ws (replay_among bs ws ++ ps) ≡ placed_among mark bs ws
placed_with-replay mark bs [] ps = refl
placed_with-replay mark bs (w ∷ ws) ps =
    ap (λ (ts : List Placed). record { write = w; is_committed = mark; place = place_among bs w } ∷ ts) (placed_with-replay mark (booked_with bs w (place_among bs w)) ws ps)

drop-all : {A : Type 0} (xs ys : List A) (n : ℕ) → n ≡ length xs → drop n (xs ++ ys) ≡ ys
drop-all [] ys n e = ap (λ m. drop m ys) e
drop-all (x ∷ xs) ys n e = ap (λ m. drop m (x ∷ (xs ++ ys))) e ∙ drop-all xs ys (length xs) refl

pub committed-places : (v : View) → committed_places v ≡ placed_among true [] v.committed
committed-places v =
    ap (placed_with true v.committed) (sym (append-nil (replay v.committed))) ∙ placed_with-replay true [] v.committed []

-- the committed writes of the whole list have the places of their own replay
pub stand_alone : (v : View) → whole_places v ≡ committed_places v ++ placed_with false v.tentative (drop (length v.committed) (replay (v.committed ++ v.tentative)))
stand_alone v =
    ap (λ (ts : List Placed). ts ++ placed_with false v.tentative (drop (length v.committed) (replay (v.committed ++ v.tentative))))
    (ap (placed_with true v.committed) (replay-append [] v.committed v.tentative)
    ∙ placed_with-replay true [] v.committed (replay_among (after [] v.committed) v.tentative) ∙ sym (committed-places v))

-- a view tells its executions
pub whole-places : (v : View) → whole_places v ≡ placed_among true [] v.committed ++ placed_among false (after [] v.committed) v.tentative
whole-places v =
    let ps = replay_among [] v.committed in
    let qs = replay_among (after [] v.committed) v.tentative in
    stand_alone v
    ∙ ap (λ (ts : List Placed). ts ++ placed_with false v.tentative (drop (length v.committed) (replay (v.committed ++ v.tentative)))) (committed-places v)
    ∙ ap (λ (rs : List Place). placed_among true [] v.committed ++ placed_with false v.tentative rs)
    (ap (drop (length v.committed)) (replay-append [] v.committed v.tentative) ∙ drop-all ps qs (length v.committed) (sym (length-replay [] v.committed)) ∙ sym (append-nil qs))
    ∙ ap (λ (ts : List Placed). placed_among true [] v.committed ++ ts) (placed_with-replay false (after [] v.committed) v.tentative [])

pub among-append : (mark : Bool) (bs : List Booking) (xs ys : List Write) → placed_among mark bs (xs ++ ys) ≡ placed_among mark bs xs ++ placed_among mark (after bs xs) ys
among-append mark bs [] ys = refl
among-append mark bs (x ∷ xs) ys = ap (λ (ts : List Placed). record { write = x; is_committed = mark; place = place_among bs x } ∷ ts) (among-append mark (booked_with bs x (place_among bs x)) xs ys)

abbrev pub placed_id : Placed → Id
placed_id p = id_of p.write

-- ---- the bookings after them

abbrev pub booked_by : List Booking → List Placed → List Booking
booked_by bs [] = bs
booked_by bs (p ∷ ps) = booked_by (booked_with bs p.write p.place) ps

pub booked_by-append : (bs : List Booking) (xs ys : List Placed) → booked_by bs (xs ++ ys) ≡ booked_by (booked_by bs xs) ys
booked_by-append bs [] ys = refl
booked_by-append bs (x ∷ xs) ys = booked_by-append (booked_with bs x.write x.place) xs ys

pub booked_by-among : (mark : Bool) (bs : List Booking) (ws : List Write) → booked_by bs (placed_among mark bs ws) ≡ after bs ws
booked_by-among mark bs [] = refl
booked_by-among mark bs (w ∷ ws) = booked_by-among mark (booked_with bs w (place_among bs w)) ws

pub booked_by-whole : (v : View) → booked_by [] (whole_places v) ≡ after [] (v.committed ++ v.tentative)
booked_by-whole v =
    let cs = placed_among true [] v.committed in
    let ts = placed_among false (after [] v.committed) v.tentative in
    ap (booked_by []) (whole-places v) ∙ booked_by-append [] cs ts ∙ ap (λ bs. booked_by bs ts) (booked_by-among true [] v.committed)
    ∙ booked_by-among false (after [] v.committed) v.tentative ∙ sym (after-append [] v.committed v.tentative)

-- ---- those that are told of as standing

-- no cancel of these takes it back
abbrev pub stays : List Placed → Booking → Bool
stays ps b = is_none (cancel_of b.id ps)

filter-filter : {A : Type 0} (f g h : A → Bool) (xs : List A) → ((x : A) → cond (g x) (f x) false ≡ h x) → filter f (filter g xs) ≡ filter h xs
filter-filter f g h [] e = refl
filter-filter f g h (x ∷ xs) e = go (g x) (f x) (h x) refl (e x) (filter-filter f g h xs e)
  where
    go : (b c d : Bool) → f x ≡ c → cond b c false ≡ d → filter f (filter g xs) ≡ filter h xs → filter f (cond b (x ∷ filter g xs) (filter g xs)) ≡ cond d (x ∷ filter h xs) (filter h xs)
    go true c d ec ed ih =
        ap (λ z. cond z (x ∷ filter f (filter g xs)) (filter f (filter g xs))) (ec ∙ ed) ∙ ap (λ ys. cond d (x ∷ ys) ys) ih
    go false c d ec ed ih = ih ∙ ap (λ z. cond z (x ∷ filter h xs) (filter h xs)) ed

not_done : (id : Id) (a : Action) (p : Place) → (p ≡ Done → ⊥) → cancels_it id a p ≡ false
not_done id (Books m) p other = refl
not_done id (Cancels t) (Taken k) other = refl
not_done id (Cancels t) Logged other = refl
not_done id (Cancels t) Void other = refl
not_done id (Cancels t) Done other = absurd (other refl)

-- what stays of the booking that a write makes
own_stays : (w : Write) (o : Option Slot) (ps : List Placed) (c : Option Placed) → cancel_of (id_of w) ps ≡ c → filter (stays ps) (booking_of w o) ≡ elim c [ None ↦ booking_of w o | Some q ↦ [] ]
own_stays w None ps None e = refl
own_stays w None ps (Some q) e = refl
own_stays w (Some s) ps None e = ap (λ (d : Option Placed). cond (is_none d) (record { id = id_of w; slot = s; length = length_of w } ∷ []) []) e
own_stays w (Some s) ps (Some q) e = ap (λ (d : Option Placed). cond (is_none d) (record { id = id_of w; slot = s; length = length_of w } ∷ []) []) e

pub unless_taken : (w : Write) (p : Place) (c : Option Placed) → booking_unless c w p ≡ elim c [ None ↦ booking_of w (slot_at w p) | Some q ↦ [] ]
unless_taken w p None = refl
unless_taken w p (Some q) = refl

nothing_told : (w : Write) (p : Place) (c : Option Placed) → slot_at w p ≡ None → booking_unless c w p ≡ []
nothing_told w p None e = ap (booking_of w) e
nothing_told w p (Some q) e = refl

-- one write: what stays of the bookings before and of its own
one_told : (bs : List Booking) (q : Placed) (ps : List Placed)
    → filter (stays ps) (booked_with bs q.write q.place) ≡ filter (stays (q ∷ ps)) bs ++ booking_unless (cancel_of (id_of q.write) ps) q.write q.place
one_told bs q ps = go q.place refl
  where
    w : Write
    w = q.write

    same : (p : Place) → q.place ≡ p → (p ≡ Done → ⊥) → filter (stays ps) bs ≡ filter (stays (q ∷ ps)) bs
    same p e other =
        filter_agree (stays ps) (stays (q ∷ ps))
        (λ b. sym (ap (λ x. is_none (cond x (Some q) (cancel_of b.id ps))) (ap (cancels_it b.id w.action) e ∙ not_done b.id w.action p other))) bs

    quiet : (p : Place) → q.place ≡ p → (p ≡ Done → ⊥) → slot_at w p ≡ None → filter (stays ps) bs ≡ filter (stays (q ∷ ps)) bs ++ booking_unless (cancel_of (id_of w) ps) w p
    quiet p e other none =
        same p e other ∙ sym (append-nil (filter (stays (q ∷ ps)) bs)) ∙ ap (λ cs. filter (stays (q ∷ ps)) bs ++ cs) (sym (nothing_told w p (cancel_of (id_of w) ps) none))

    done : (a : Action) → w.action ≡ a → q.place ≡ Done → filter (stays ps) (without_target bs a) ≡ filter (stays (q ∷ ps)) bs
    done (Books m) ea e =
        filter_agree (stays ps) (stays (q ∷ ps))
        (λ b. sym (ap (λ x. is_none (cond x (Some q) (cancel_of b.id ps))) (ap (λ y. cancels_it b.id y q.place) ea))) bs
    done (Cancels t) ea e =
        filter-filter (stays ps) (λ b. not (same_id b.id t)) (stays (q ∷ ps)) bs
        (λ b. each (same_id b.id t) (cancel_of b.id ps)
        ∙ sym (ap (λ x. is_none (cond x (Some q) (cancel_of b.id ps))) (ap (λ y. cancels_it b.id y q.place) ea ∙ ap (cancels_it b.id (Cancels t)) e)))
      where
        each : (x : Bool) (c : Option Placed) → cond (not x) (is_none c) false ≡ is_none (cond x (Some q) c)
        each true c = refl
        each false c = refl

    go : (p : Place) → q.place ≡ p → filter (stays ps) (booked_with bs w p) ≡ filter (stays (q ∷ ps)) bs ++ booking_unless (cancel_of (id_of w) ps) w p
    go (Taken k) e =
        filter-append (stays ps) bs (booking_of w (slot_at w (Taken k)))
        ∙ ap (λ cs. cs ++ filter (stays ps) (booking_of w (slot_at w (Taken k)))) (same (Taken k) e (λ x. cc))
        ∙ ap (λ cs. filter (stays (q ∷ ps)) bs ++ cs)
        (own_stays w (slot_at w (Taken k)) ps (cancel_of (id_of w) ps) refl ∙ sym (unless_taken w (Taken k) (cancel_of (id_of w) ps)))
    go Logged e = quiet Logged e (λ x. cc) refl
    go Void e = quiet Void e (λ x. cc) refl
    go Done e =
        done w.action refl e ∙ sym (append-nil (filter (stays (q ∷ ps)) bs)) ∙ ap (λ cs. filter (stays (q ∷ ps)) bs ++ cs) (sym (nothing_told w Done (cancel_of (id_of w) ps) refl))

pub told-stand : (bs : List Booking) (ps : List Placed) → booked_by bs ps ≡ filter (stays ps) bs ++ flat_map booked_told (tell ps)
told-stand bs [] = sym (append-nil (filter (λ b. true) bs) ∙ filter_true bs)
told-stand bs (q ∷ ps) =
    told-stand (booked_with bs q.write q.place) ps
    ∙ ap (λ cs. cs ++ flat_map booked_told (tell ps)) (one_told bs q ps)
    ∙ append_assoc (filter (stays (q ∷ ps)) bs) (booking_unless (cancel_of (id_of q.write) ps) q.write q.place) (flat_map booked_told (tell ps))

-- the bookings that are told of as standing are those after all writes
pub standing-told : (v : View) → flat_map booked_told (whole_list v) ≡ after [] (v.committed ++ v.tentative)
standing-told v = sym (told-stand [] (whole_places v)) ∙ booked_by-whole v

pub standing-told-of-committed : (v : View) → flat_map booked_told (committed_list v) ≡ after [] v.committed
standing-told-of-committed v =
    sym (told-stand [] (committed_places v)) ∙ ap (booked_by []) (committed-places v) ∙ booked_by-among true [] v.committed

-- ---- and those that stand before the end

after-booked : (bs : List Booking) (ws : List Write) → after bs ws ≡ booked_after bs ws (replay_among bs ws)
after-booked bs [] = refl
after-booked bs (w ∷ ws) = after-booked (booked_with bs w (place_among bs w)) ws

take_whole : {A : Type 0} (xs : List A) (n : ℕ) → n ≡ length xs → take n xs ≡ xs
take_whole [] n e = ap (λ m. take m []) e
take_whole (x ∷ xs) n e = ap (λ m. take m (x ∷ xs)) e ∙ ap (λ ys. x ∷ ys) (take_whole xs (length xs) refl)

pub after-before : (ws : List Write) → after [] ws ≡ booked_after [] (take (length ws) ws) (take (length ws) (replay ws))
after-before ws =
    after-booked [] ws ∙ ap (λ xs. booked_after [] xs (replay ws)) (sym (take_whole ws (length ws) refl))
    ∙ ap (booked_after [] (take (length ws) ws)) (sym (take_whole (replay ws) (length ws) (sym (length-replay [] ws))))
