-- Each booking that was cancelled has its cancel among a replica's rows, and each cancel that is done its booking.
use Rattle.std.proofs.Common.{◌≡◌, refl, sym, ap, ◌∙◌, subst, Bool, true, false, not, cond, ◌||◌, List, [], ◌∷◌, ◌⊎◌, inl, inr, Option, Some, None}
use Rattle.std.proofs.lemmas.Bool.{and_from, true≢false, cond-true, cond-false, false_from_ne_true, or_left, or_right}
use Rattle.std.proofs.lemmas.Slice.Eq.{bytes_eq-Decides}
use Rattle.std.specs.List.{list_all, list_any}
use Rattle.std.specs.Str.{bytes_eq}
use Rattle.mr_model.specs.Dropped.{Has}
use Rattle.mr_model.specs.Texts.{Text}
use Rattle.mr_model.specs.Slots.{Slot}
use Rattle.mr_model.specs.Writes.{Id, Action, Books, Cancels, Write, id_of, same_id}
use Rattle.mr_model.specs.Replay.{Place, Taken, Logged, Done, Void, Booking, is_booked, place_for, slot_at, booking_of, without, booked_with}
use Rattle.mr_model.specs.Replica.{Replica, IsReplica, is_committed}
use Rattle.mr_model.specs.View.{Placed, Told, view_of, placed_of, cancels_it, cancel_of, tell}
use Rattle.mr_model.specs.Tables.{CancelledRow, CancelRow, Booked, Erred, Cancelled, Cancel, place_row, seq_of, as_cancelled, as_cancel, tables_of}
use Rattle.mr_model.specs.Queries.{is_marked}
use Rattle.mr_agree.specs.Agreeing.{is_taken_by, do_cancels_agree}
use Rattle.mr_model.proofs.Members.{has_split, filter_has, any_has, same_id_refl, same_id_from}
use Rattle.mr_model.proofs.UniqueReplay.{some_inj, none_some, booked_has}
use Rattle.mr_model.proofs.CalendarsShow.{cancels_later}
use Rattle.mr_model.proofs.PlacesOfOrder.{room_places}
use Rattle.mr_model.proofs.Runs.{IsRun}
use Rattle.mr_model.proofs.RoomTold.{IsToldOf, told_of_room, room_list, room-list, room_run, known_told, told_placed, told_id, committed-seq}
use Rattle.mr_model.proofs.RowsTell.{Case, stood, gone, erred, done, void, case_of, booked_as, erred_as, cancelled_as, cancel_as, IsTakenBack, back_of, of_known}
use Rattle.mr_agree.proofs.AgreeCounts.{all_true, of_cancelled, of_cancel}

-- ---- a booking that was taken back, and its cancel

record Pair (r : Replica) (t : Told) (p : Placed) : Type 0 where
  gone_row : CancelledRow
  cancel : CancelRow
  is_gone : place_row r t.write ≡ Cancelled gone_row
  is_cancel : place_row r p.write ≡ Cancel cancel
  known : Has p.write r.known
  fits : is_taken_by cancel gone_row ≡ true

pair_of : (r : Replica) (room : Text) (t : Told) (p : Placed) → IsReplica r → Has t (room_list r room) → t.cancelled_by ≡ Some p → Pair r t p
pair_of r room t p h a e = go (case_of r room t k)
  where
    k : IsToldOf r room t
    k = told_of_room r room t h a

    back : IsTakenBack r t p
    back = back_of r room t p h a e

    later : (b : Bool) → t.is_committed ≡ b → (not (is_marked (seq_of r p.write)) || is_committed r (told_id t)) ≡ true
    later true c = or_right (not (is_marked (seq_of r p.write))) (is_committed r (told_id t)) (sym k.mark ∙ c)
    later false c =
        or_left (not (is_marked (seq_of r p.write))) (is_committed r (told_id t))
        (ap not (sym (committed-seq r p.write) ∙ sym back.mark ∙ cancels_later (view_of r room) t p (subst (λ ts. Has t ts) (sym (room-list r room)) a) c e))

    none : t.cancelled_by ≡ None → Pair r t p
    none n = absurd (none_some p (sym n ∙ e))

    no_slot : slot_at t.write t.place ≡ None → Pair r t p
    no_slot n = let (s, o) = k.booked p e in absurd (none_some s (sym n ∙ o))

    go : Case r t → Pair r t p
    go (stood m s f o c x) = none c
    go (erred m f q c x) = none c
    go (done x f q y) = no_slot (ap (slot_at t.write) q)
    go (void x f q y) = no_slot (ap (slot_at t.write) q)
    go (gone m s c f o b x) =
        let same : c ≡ p = some_inj c p (sym b ∙ e) in
        record {
          gone_row = cancelled_as r t.write m s p;
          cancel = cancel_as r p.write back.target true;
          is_gone = x ∙ ap (λ q. Cancelled (cancelled_as r t.write m s q)) same;
          is_cancel = back.row;
          known = back.known;
          fits =
              and_from _ (not (is_marked (seq_of r p.write)) || is_committed r (told_id t))
              (and_from _ (bytes_eq p.write.room t.write.room)
              (and_from _ (same_id back.target (told_id t))
              (and_from (same_id (id_of p.write) (id_of p.write)) true (same_id_refl (id_of p.write)) refl)
              (same_id_from back.target (told_id t) back.is_target))
              ((bytes_eq-Decides p.write.room t.write.room).1 back.same_room))
              (later t.is_committed refl);
        }

-- ---- a cancel that is done took a booking back

-- a cancel of this id that is done took back a booking that was there before the run, or one that is told
data TookBack (id : Id) (bs : List Booking) (ps : List Placed) (p : Placed) : Type 0 where
  earlier : (b : Booking) → Has b bs → b.id ≡ id → cancel_of id ps ≡ Some p → TookBack id bs ps p
  told : (t : Told) → Has t (tell ps) → told_id t ≡ id → t.cancelled_by ≡ Some p → TookBack id bs ps p

took_back : (id : Id) (bs : List Booking) (ps : List Placed) (p : Placed) → IsRun bs ps → Has p ps → p.write.action ≡ Cancels id → p.place ≡ Done → TookBack id bs ps p
took_back id bs [] p r a f at = absurd a
took_back id bs (q ∷ ps) p r (inl e) f at = go (is_booked id bs) refl
  where
    its : cancels_it id q.write.action q.place ≡ true
    its = (λ i. cancels_it id ((ap (λ (x : Placed). x.write.action) (sym e) ∙ f) i) ((ap (λ (x : Placed). x.place) (sym e) ∙ at) i)) ∙ same_id_refl id

    here : Done ≡ cond (is_booked id bs) Done Void
    here = sym (ap (λ (x : Placed). x.place) (sym e) ∙ at) ∙ r.0 ∙ ap (place_for bs) (ap (λ (x : Placed). x.write.action) (sym e) ∙ f)

    go : (b : Bool) → is_booked id bs ≡ b → TookBack id bs (q ∷ ps) p
    go true g = let (b, i, s) = booked_has id bs g in earlier b i s (cond-true (cancels_it id q.write.action q.place) (Some q) (cancel_of id ps) its ∙ ap Some (sym e))
    go false g = absurd (let x : Done ≡ Void = here ∙ ap (λ b. cond b Done Void) g in cc)
took_back id bs (q ∷ ps) p r (inr a) f at = go (took_back id (booked_with bs q.write q.place) ps p r.1 a f at)
  where
    head : Told
    head = record { write = q.write; is_committed = q.is_committed; place = q.place; cancelled_by = cancel_of (id_of q.write) ps }

    own : (w : Write) (o : Option Slot) (b : Booking) → Has b (booking_of w o) → b.id ≡ id_of w
    own w None b i = absurd i
    own w (Some s) b (inl e) = ap (λ (x : Booking). x.id) e
    own w (Some s) b (inr i) = absurd i

    stays : (b : Booking) → Has b bs → b.id ≡ id → cancels_it id q.write.action q.place ≡ false → cancel_of id ps ≡ Some p → TookBack id bs (q ∷ ps) p
    stays b i s n c = earlier b i s (cond-false (cancels_it id q.write.action q.place) (Some q) (cancel_of id ps) n ∙ c)

    made : (b : Booking) → b.id ≡ id → cancel_of id ps ≡ Some p → b.id ≡ id_of q.write → TookBack id bs (q ∷ ps) p
    made b s c o = told head (inl refl) (sym o ∙ s) (ap (λ x. cancel_of x ps) (sym o ∙ s) ∙ c)

    by_action : (x : Action) → q.write.action ≡ x → (b : Booking) → Has b (Rattle.mr_model.specs.Replay.without_target bs x) → b.id ≡ id → Has b bs × (cancels_it id x Done ≡ false)
    by_action (Books m) e b i s = (i, refl)
    by_action (Cancels t) e b i s =
        let g = filter_has (λ y. not (same_id y.id t)) b bs i in
        (g.0, false_from_ne_true (same_id id t) (λ z. true≢false (sym g.1 ∙ ap not (ap (λ y. same_id y t) s ∙ z))))

    no_cancel : (x : Action) (k : Place) → (k ≡ Done → ⊥) → cancels_it id x k ≡ false
    no_cancel (Books m) k n = refl
    no_cancel (Cancels t) (Taken c) n = refl
    no_cancel (Cancels t) Logged n = refl
    no_cancel (Cancels t) Void n = refl
    no_cancel (Cancels t) Done n = absurd (n refl)

    at_place : (k : Place) → q.place ≡ k → (b : Booking) → Has b (booked_with bs q.write k) → b.id ≡ id → cancel_of id ps ≡ Some p → TookBack id bs (q ∷ ps) p
    at_place Logged e b i s c = stays b i s (no_cancel q.write.action q.place (λ d. absurd (let x : Logged ≡ Done = sym e ∙ d in cc))) c
    at_place Void e b i s c = stays b i s (no_cancel q.write.action q.place (λ d. absurd (let x : Void ≡ Done = sym e ∙ d in cc))) c
    at_place Done e b i s c = let g = by_action q.write.action refl b i s in stays b g.0 s (ap (cancels_it id q.write.action) e ∙ g.1) c
    at_place (Taken n) e b i s c = split (has_split b bs (booking_of q.write (slot_at q.write (Taken n))) i)
      where
        split : Has b bs ⊎ Has b (booking_of q.write (slot_at q.write (Taken n))) → TookBack id bs (q ∷ ps) p
        split (inl g) = stays b g s (no_cancel q.write.action q.place (λ d. absurd (let x : Taken n ≡ Done = sym e ∙ d in cc))) c
        split (inr g) = made b s c (own q.write (slot_at q.write (Taken n)) b g)

    go : TookBack id (booked_with bs q.write q.place) ps p → TookBack id bs (q ∷ ps) p
    go (told t i s c) = told t (inr i) s c
    go (earlier b i s c) = at_place q.place refl b i s c

-- ---- both ways

cancelled_has : (r : Replica) (row : CancelledRow) → IsReplica r → Has row (tables_of r).cancelled → list_any (λ c. is_taken_by c row) (tables_of r).cancels ≡ true
cancelled_has r row h g =
    let (w, a, made, id) = of_cancelled r row h g in
    let (t, i, e) = known_told r w h a in
    go w.room t i (ap (place_row r) e ∙ made) t.cancelled_by refl (case_of r w.room t (told_of_room r w.room t h i))
  where
    go : (room : Text) (t : Told) → Has t (room_list r room) → place_row r t.write ≡ Cancelled row → (o : Option Placed)
        → t.cancelled_by ≡ o → Case r t → list_any (λ c. is_taken_by c row) (tables_of r).cancels ≡ true
    go room t i made (Some p) e k =
        let x = pair_of r room t p h i e in
        let same : x.gone_row ≡ row = some_inj x.gone_row row (ap as_cancelled (sym x.is_gone ∙ made)) in
        any_has (λ c. is_taken_by c row) x.cancel (tables_of r).cancels (ap (is_taken_by x.cancel) (sym same) ∙ x.fits) (of_known as_cancel r x.cancel h p.write x.known (ap as_cancel x.is_cancel))
    go room t i made None e (stood m s f o c x) = absurd (let y : Booked (booked_as r t.write m s) ≡ Cancelled row = sym x ∙ made in cc)
    go room t i made None e (gone m s c f o b x) = absurd (none_some c (sym e ∙ b))
    go room t i made None e (erred m f q c x) = absurd (let y : Erred (erred_as r t.write m) ≡ Cancelled row = sym x ∙ made in cc)
    go room t i made None e (done x f q y) = absurd (let z : Cancel (cancel_as r t.write x true) ≡ Cancelled row = sym y ∙ made in cc)
    go room t i made None e (void x f q y) = absurd (let z : Cancel (cancel_as r t.write x false) ≡ Cancelled row = sym y ∙ made in cc)

done_has : (r : Replica) (c : CancelRow) → IsReplica r → Has c (tables_of r).cancels → c.done ≡ true → list_any (is_taken_by c) (tables_of r).cancelled ≡ true
done_has r c h g d =
    let (w, a, made, id) = of_cancel r c h g in
    let (t, i, e) = known_told r w h a in
    go w.room t i (ap (place_row r) e ∙ made) (case_of r w.room t (told_of_room r w.room t h i))
  where
    found : (room : Text) (t : Told) (x : Id) → Has t (room_list r room) → place_row r t.write ≡ Cancel c
        → TookBack x [] (room_places r room) (placed_of t) → list_any (is_taken_by c) (tables_of r).cancelled ≡ true
    found room t x i made (earlier b k s n) = absurd k
    found room t x i made (told u k s n) =
        let y = pair_of r room u (placed_of t) h k n in
        let same : y.cancel ≡ c = some_inj y.cancel c (ap as_cancel (sym y.is_cancel ∙ made)) in
        any_has (is_taken_by c) y.gone_row (tables_of r).cancelled (ap (λ z. is_taken_by z y.gone_row) (sym same) ∙ y.fits)
        (of_known as_cancelled r y.gone_row h u.write (told_of_room r room u h k).known (ap as_cancelled y.is_gone))

    go : (room : Text) (t : Told) → Has t (room_list r room) → place_row r t.write ≡ Cancel c → Case r t → list_any (is_taken_by c) (tables_of r).cancelled ≡ true
    go room t i made (stood m s f o b x) = absurd (let y : Booked (booked_as r t.write m s) ≡ Cancel c = sym x ∙ made in cc)
    go room t i made (gone m s b f o k x) = absurd (let y : Cancelled (cancelled_as r t.write m s b) ≡ Cancel c = sym x ∙ made in cc)
    go room t i made (erred m f q b x) = absurd (let y : Erred (erred_as r t.write m) ≡ Cancel c = sym x ∙ made in cc)
    go room t i made (void x f q y) = absurd (true≢false (sym d ∙ sym (ap (λ (z : CancelRow). z.done) (some_inj (cancel_as r t.write x false) c (ap as_cancel (sym y ∙ made))))))
    go room t i made (done x f q y) = found room t x i made (took_back x [] (room_places r room) (placed_of t) (room_run r room) (told_placed (room_places r room) t i) f q)

pub cancels_agree : (r : Replica) → IsReplica r → do_cancels_agree (tables_of r) ≡ true
cancels_agree r h =
    and_from (list_all (λ row. list_any (λ c. is_taken_by c row) (tables_of r).cancels) (tables_of r).cancelled)
    (list_all (λ c. not c.done || list_any (is_taken_by c) (tables_of r).cancelled) (tables_of r).cancels)
    (all_true (λ row. list_any (λ c. is_taken_by c row) (tables_of r).cancels) (tables_of r).cancelled (λ row g. cancelled_has r row h g))
    (all_true (λ (c : CancelRow). not c.done || list_any (is_taken_by c) (tables_of r).cancelled) (tables_of r).cancels (λ c g. each c g c.done refl))
  where
    each : (c : CancelRow) → Has c (tables_of r).cancels → (b : Bool) → c.done ≡ b → (not c.done || list_any (is_taken_by c) (tables_of r).cancelled) ≡ true
    each c g false e = or_left (not c.done) (list_any (is_taken_by c) (tables_of r).cancelled) (ap not e)
    each c g true e = or_right (not c.done) (list_any (is_taken_by c) (tables_of r).cancelled) (done_has r c h g e)
