-- Executions one after the other: where each write goes, which bookings are taken back, and that those that stand begin apart.
use Rattle.std.proofs.Common.{◌≡◌, refl, sym, ap, ◌∙◌, subst, ℕ, ◌≤◌, Bool, true, false, not, cond, List, [], ◌∷◌, ◌++◌, map, ◌⊎◌, inl, inr, Option, Some, None, arith, add-zero, append-nil}
use Rattle.std.proofs.lemmas.Bool.{false_from_ne_true, cond-false}
use Rattle.std.specs.List.{slice_get}
use Rattle.mr_model.specs.Dropped.{Has}
use Rattle.mr_model.specs.Slots.{Slot, Overlap}
use Rattle.mr_model.specs.Writes.{Id, Meeting, Action, Books, Cancels, Write, id_of, same_id, choices_of, choices_in, length_in, length_of}
use Rattle.mr_model.specs.Replay.{Place, Taken, Logged, Done, Void, Booking, is_booked, place_for, place_among, slot_at, booking_of, without_target, booked_with}
use Rattle.mr_model.specs.Board.{after}
use Rattle.mr_model.specs.View.{View, Placed, Told, whole_places, committed_places, cancels_it, cancel_of, tell}
use Rattle.mr_model.proofs.Members.{has_split, filter_has, has_map, has_all, all_has, Sorted, sorted_filter, same_id-true, among_not, Distinct}
use Rattle.mr_model.proofs.UniqueReplay.{Meets, Choice, choice, one_free, none_free, first_free_taken, first_free_logged, some_inj, none_some, booked_has}
use Rattle.mr_model.proofs.PlacedInOrder.{placed_among, placed_id, committed-places, whole-places, booked_by, booked_by-among}

-- each goes where it belongs among the bookings before it
abbrev pub IsRun : List Booking → List Placed → Type 0
IsRun bs [] = Unit {0}
IsRun bs (p ∷ ps) = (p.place ≡ place_among bs p.write) × IsRun (booked_with bs p.write p.place) ps

pub run-among : (mark : Bool) (bs : List Booking) (ws : List Write) → IsRun bs (placed_among mark bs ws)
run-among mark bs [] = tt
run-among mark bs (w ∷ ws) = (refl, run-among mark (booked_with bs w (place_among bs w)) ws)

pub run-append : (bs : List Booking) (xs ys : List Placed) → IsRun bs xs → IsRun (booked_by bs xs) ys → IsRun bs (xs ++ ys)
run-append bs [] ys a b = b
run-append bs (x ∷ xs) ys a b = (a.0, run-append (booked_with bs x.write x.place) xs ys a.1 b)

pub run-committed : (v : View) → IsRun [] (committed_places v)
run-committed v = subst (IsRun []) (sym (committed-places v)) (run-among true [] v.committed)

pub run-whole : (v : View) → IsRun [] (whole_places v)
run-whole v =
    subst (IsRun []) (sym (whole-places v))
    (run-append [] (placed_among true [] v.committed) (placed_among false (after [] v.committed) v.tentative) (run-among true [] v.committed)
    (subst (λ bs. IsRun bs (placed_among false (after [] v.committed) v.tentative)) (sym (booked_by-among true [] v.committed)) (run-among false (after [] v.committed) v.tentative)))

-- ---- where a write can go

pub data Went (w : Write) (p : Place) : Type 0 where
  took : (m : Meeting) (k : ℕ) (s : Slot) → w.action ≡ Books m → p ≡ Taken k → slot_at w p ≡ Some s → Went w p
  failed : (m : Meeting) → w.action ≡ Books m → p ≡ Logged → Went w p
  did : (t : Id) → w.action ≡ Cancels t → p ≡ Done → Went w p
  missed : (t : Id) → w.action ≡ Cancels t → p ≡ Void → Went w p

pub went : (bs : List Booking) (w : Write) (p : Place) → p ≡ place_among bs w → Went w p
went bs w p e = go w.action refl
  where
    go : (a : Action) → w.action ≡ a → Went w p
    go (Books m) f = booked (choice bs m.length (choices_of m))
      where
        booked : Choice bs m.length (choices_of m) → Went w p
        booked (one_free c g) =
            let at : p ≡ Taken c = e ∙ ap (place_for bs) f ∙ first_free_taken bs m.length 0 (choices_of m) c g ∙ ap Taken (add-zero c) in
            took m c g.slot f at (ap (slot_at w) at ∙ ap (λ a. slice_get (choices_in a) c) f ∙ g.is_choice)
        booked (none_free all) = failed m f (e ∙ ap (place_for bs) f ∙ first_free_logged bs m.length 0 (choices_of m) all)
    go (Cancels t) f = found (is_booked t bs) refl
      where
        found : (b : Bool) → is_booked t bs ≡ b → Went w p
        found true g = did t f (e ∙ ap (place_for bs) f ∙ ap (λ x. cond x Done Void) g)
        found false g = missed t f (e ∙ ap (place_for bs) f ∙ ap (λ x. cond x Done Void) g)

pub run_went : (bs : List Booking) (ps : List Placed) (p : Placed) → IsRun bs ps → Has p ps → Went p.write p.place
run_went bs [] p r h = absurd h
run_went bs (q ∷ ps) p r (inl e) = subst (λ (x : Placed). Went x.write x.place) (sym e) (went bs q.write q.place r.0)
run_went bs (q ∷ ps) p r (inr h) = run_went (booked_with bs q.write q.place) ps p r.1 h

-- ---- what is not booked is not taken back

abbrev pub Free : Id → List Booking → Type 0
Free id bs = (b : Booking) → Has b bs → b.id ≡ id → ⊥

free_without : (id : Id) (bs : List Booking) (a : Action) → Free id bs → Free id (without_target bs a)
free_without id bs (Books m) f = f
free_without id bs (Cancels t) f = λ b h e. f b (filter_has _ b bs h).0 e

booked_only : (w : Write) (o : Option Slot) (b : Booking) → Has b (booking_of w o) → b.id ≡ id_of w
booked_only w None b h = absurd h
booked_only w (Some s) b (inl e) = ap (λ (x : Booking). x.id) e
booked_only w (Some s) b (inr h) = absurd h

-- another write books nothing under this id
pub free_with : (id : Id) (bs : List Booking) (w : Write) (p : Place) → Free id bs → (id_of w ≡ id → ⊥) → Free id (booked_with bs w p)
free_with id bs w (Taken k) f ne = λ b h e. go b e (has_split b bs (booking_of w (slot_at w (Taken k))) h)
  where
    go : (b : Booking) → b.id ≡ id → Has b bs ⊎ Has b (booking_of w (slot_at w (Taken k))) → ⊥
    go b e (inl g) = f b g e
    go b e (inr g) = ne (sym (booked_only w (slot_at w (Taken k)) b g) ∙ e)
free_with id bs w Logged f ne = f
free_with id bs w Done f ne = free_without id bs w.action f
free_with id bs w Void f ne = f

-- nor does one that takes no slot
free_none : (id : Id) (bs : List Booking) (w : Write) (p : Place) → Free id bs → slot_at w p ≡ None → Free id (booked_with bs w p)
free_none id bs w (Taken k) f none = λ b h e. go b e (has_split b bs (booking_of w (slot_at w (Taken k))) h)
  where
    go : (b : Booking) → b.id ≡ id → Has b bs ⊎ Has b (booking_of w (slot_at w (Taken k))) → ⊥
    go b e (inl g) = f b g e
    go b e (inr g) = subst (λ o. Has b (booking_of w o)) none g
free_none id bs w Logged f none = f
free_none id bs w Done f none = free_without id bs w.action f
free_none id bs w Void f none = f

pub not_now : (id : Id) (bs : List Booking) (a : Action) (q : Place) → q ≡ place_for bs a → Free id bs → cancels_it id a q ≡ false
not_now id bs (Books m) q e f = refl
not_now id bs (Cancels t) (Taken k) e f = refl
not_now id bs (Cancels t) Logged e f = refl
not_now id bs (Cancels t) Void e f = refl
not_now id bs (Cancels t) Done e f = false_from_ne_true (same_id id t) (λ h. go (is_booked t bs) refl e h)
  where
    go : (b : Bool) → is_booked t bs ≡ b → Done ≡ cond b Done Void → same_id id t ≡ true → ⊥
    go true g d h = let (b, i, s) = booked_has t bs g in f b i (s ∙ sym (same_id-true id t h))
    go false g d h = absurd (let x : Done ≡ Void = d in cc)

pub never_done : (id : Id) (bs : List Booking) (ps : List Placed) → IsRun bs ps → Free id bs → ((p : Placed) → Has p ps → id_of p.write ≡ id → ⊥) → cancel_of id ps ≡ None
never_done id bs [] r f others = refl
never_done id bs (p ∷ ps) r f others =
    cond-false (cancels_it id p.write.action p.place) (Some p) (cancel_of id ps) (not_now id bs p.write.action p.place r.0 f)
    ∙ never_done id (booked_with bs p.write p.place) ps r.1 (free_with id bs p.write p.place f (others p (inl refl))) (λ q h. others q (inr h))

-- what was taken back had been booked
pub cancelled_booked : (bs : List Booking) (ps : List Placed) → IsRun bs ps → ((p : Placed) → Has p ps → Free (placed_id p) bs)
    → Distinct (map placed_id ps) → (t : Told) → Has t (tell ps) → (c : Placed) → t.cancelled_by ≡ Some c → (s : Slot) × (slot_at t.write t.place ≡ Some s)
cancelled_booked bs [] r fresh d t h c e = absurd h
cancelled_booked bs (p ∷ ps) r fresh d t (inl same) c e =
    subst (λ (x : Told). (s : Slot) × (slot_at x.write x.place ≡ Some s)) (sym same) (go (slot_at p.write p.place) refl)
  where
    others : (q : Placed) → Has q ps → placed_id q ≡ placed_id p → ⊥
    others q h s = among_not (placed_id p) (map placed_id ps) d.0 (subst (λ i. Has i (map placed_id ps)) s (has_map placed_id q ps h))

    go : (o : Option Slot) → slot_at p.write p.place ≡ o → (s : Slot) × (slot_at p.write p.place ≡ Some s)
    go (Some s) f = (s, f)
    go None f =
        let none : cancel_of (placed_id p) ps ≡ None = never_done (placed_id p) (booked_with bs p.write p.place) ps r.1 (free_none (placed_id p) bs p.write p.place (fresh p (inl refl)) f) others in
        absurd (none_some c (sym none ∙ sym (ap (λ (x : Told). x.cancelled_by) same) ∙ e))
cancelled_booked bs (p ∷ ps) r fresh d t (inr h) c e =
    cancelled_booked (booked_with bs p.write p.place) ps r.1 later d.1 t h c e
  where
    later : (q : Placed) → Has q ps → Free (placed_id q) (booked_with bs p.write p.place)
    later q g =
        free_with (placed_id q) bs p.write p.place (fresh q (inr g))
        (λ s. among_not (placed_id p) (map placed_id ps) d.0 (subst (λ i. Has i (map placed_id ps)) (sym s) (has_map placed_id q ps g)))

-- ---- bookings that stand begin apart

abbrev pub BeginApart : Booking → Booking → Type 0
BeginApart a b = a.slot.day ≡ b.slot.day → a.slot.start ≡ b.slot.start → ⊥

abbrev pub Long : List Booking → Type 0
Long bs = (b : Booking) → Has b bs → 1 ≤ b.length

-- what begins with a booking meets it
begins_with : (bs : List Booking) (b : Booking) (s : Slot) (n : ℕ) → Has b bs → 1 ≤ b.length → 1 ≤ n → b.slot.day ≡ s.day → b.slot.start ≡ s.start → Meets bs s n
begins_with [] b s n h low long d e = absurd h
begins_with (x ∷ xs) b s n (inl same) low long d e =
    inl (subst (λ (y : Booking). Overlap s n y.slot y.length) same (
      s.day,
      s.start,
      record { same_day = refl; begun = omega arith; not_ended = omega (arith, long) },
      record { same_day = d; begun = omega (arith, e); not_ended = omega (arith, low, e) },
    ))
begins_with (x ∷ xs) b s n (inr h) low long d e = inr (begins_with xs b s n h low long d e)

pub sorted_append : {A : Type 0} (P : A → A → Type 0) (xs ys : List A) → Sorted P xs → Sorted P ys → ((x y : A) → Has x xs → Has y ys → P x y) → Sorted P (xs ++ ys)
sorted_append P [] ys s t f = t
sorted_append P (x ∷ xs) ys s t f = (has_all (P x) (xs ++ ys) here, sorted_append P xs ys s.1 t (λ y z h g. f y z (inr h) g))
  where
    here : (y : _) → Has y (xs ++ ys) → P x y
    here y h = go (has_split y xs ys h)
      where
        go : Has y xs ⊎ Has y ys → P x y
        go (inl g) = all_has (P x) y xs s.0 g
        go (inr g) = f x y (inl refl) g

-- the bookings after one write
pub record AreStanding (bs : List Booking) : Type 0 where
  pub long : Long bs
  pub apart : Sorted BeginApart bs

stand_without : (bs : List Booking) (a : Action) → AreStanding bs → AreStanding (without_target bs a)
stand_without bs (Books m) s = s
stand_without bs (Cancels t) s =
    record { long = λ b h. s.long b (filter_has _ b bs h).0; apart = sorted_filter BeginApart (λ b. not (same_id b.id t)) bs s.apart }

stand_with : (bs : List Booking) (w : Write) (p : Place) → p ≡ place_among bs w → (Went w p → 1 ≤ length_of w ⊎ (slot_at w p ≡ None)) → AreStanding bs → AreStanding (booked_with bs w p)
stand_with bs w Logged e long s = s
stand_with bs w Void e long s = s
stand_with bs w Done e long s = stand_without bs w.action s
stand_with bs w (Taken k) e long s = go (slot_at w (Taken k)) refl (long (went bs w (Taken k) e))
  where
    free : (v : Slot) → slot_at w (Taken k) ≡ Some v → Meets bs v (length_of w) → ⊥
    free v at = by_action w.action refl
      where
        by_action : (a : Action) → w.action ≡ a → Meets bs v (length_of w) → ⊥
        by_action (Books m) f m0 = chosen (choice bs m.length (choices_of m)) (subst (λ n. Meets bs v n) (ap length_in f) m0)
          where
            here : slice_get (choices_of m) k ≡ Some v
            here = ap (λ a. slice_get (choices_in a) k) (sym f) ∙ at

            chosen : Choice bs m.length (choices_of m) → Meets bs v m.length → ⊥
            chosen (one_free c g) x =
                let is : Taken k ≡ Taken c = e ∙ ap (place_for bs) f ∙ first_free_taken bs m.length 0 (choices_of m) c g ∙ ap Taken (add-zero c) in
                let same : k ≡ c = cc is in
                let slot : g.slot ≡ v = some_inj g.slot v (sym g.is_choice ∙ ap (λ i. slice_get (choices_of m) i) (sym same) ∙ here) in
                g.free (subst (λ y. Meets bs y m.length) (sym slot) x)
            chosen (none_free all) x = absurd (let is : Taken k ≡ Logged = e ∙ ap (place_for bs) f ∙ first_free_logged bs m.length 0 (choices_of m) all in cc)
        by_action (Cancels t) f m0 = absurd (none_some v (sym (ap (λ a. slice_get (choices_in a) k) f) ∙ at))

    added : (v : Slot) → slot_at w (Taken k) ≡ Some v → 1 ≤ length_of w → AreStanding (bs ++ record { id = id_of w; slot = v; length = length_of w } ∷ [])
    added v at n =
        record {
          long = λ b h. each b (has_split b bs (record { id = id_of w; slot = v; length = length_of w } ∷ []) h);
          apart =
              sorted_append BeginApart bs (record { id = id_of w; slot = v; length = length_of w } ∷ []) s.apart (tt, tt)
              (λ x y h g. new x y h g);
        }
      where
        each : (b : Booking) → Has b bs ⊎ Has b (record { id = id_of w; slot = v; length = length_of w } ∷ []) → 1 ≤ b.length
        each b (inl h) = s.long b h
        each b (inr (inl q)) = subst (λ (x : Booking). 1 ≤ x.length) (sym q) n
        each b (inr (inr h)) = absurd h

        new : (x y : Booking) → Has x bs → Has y (record { id = id_of w; slot = v; length = length_of w } ∷ []) → BeginApart x y
        new x y h (inl q) d u =
            free v at (begins_with bs x v (length_of w) h (s.long x h) n (d ∙ ap (λ (z : Booking). z.slot.day) q) (u ∙ ap (λ (z : Booking). z.slot.start) q))
        new x y h (inr g) d u = g

    go : (o : Option Slot) → slot_at w (Taken k) ≡ o → 1 ≤ length_of w ⊎ (slot_at w (Taken k) ≡ None) → AreStanding (bs ++ booking_of w o)
    go None at n = subst AreStanding (sym (append-nil bs)) s
    go (Some v) at (inl n) = added v at n
    go (Some v) at (inr none) = absurd (none_some v (sym none ∙ at))

pub stand_all : (bs : List Booking) (ps : List Placed) → IsRun bs ps
    → ((p : Placed) → Has p ps → Went p.write p.place → 1 ≤ length_of p.write ⊎ (slot_at p.write p.place ≡ None)) → AreStanding bs → Sorted BeginApart (booked_by bs ps)
stand_all bs [] r long s = s.apart
stand_all bs (p ∷ ps) r long s =
    stand_all (booked_with bs p.write p.place) ps r.1 (λ q h. long q (inr h)) (stand_with bs p.write p.place r.0 (long p (inl refl)) s)

pub all_apart : (ps : List Placed) → IsRun [] ps → ((p : Placed) → Has p ps → Went p.write p.place → 1 ≤ length_of p.write ⊎ (slot_at p.write p.place ≡ None)) → Sorted BeginApart (booked_by [] ps)
all_apart ps r long = stand_all [] ps r long (record { long = λ b h. absurd h; apart = tt })
