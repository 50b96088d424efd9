-- What became of each write in a replica's log is what its place there tells.
use Rattle.std.proofs.Common.{◌≡◌, refl, sym, ap, ◌∙◌, subst, ℕ, ◌+◌, ◌*◌, ◌/◌, Bool, true, false, not, cond, ◌&&◌, ◌||◌, eqb}
use Rattle.std.proofs.Common.{[], ◌∷◌, ◌++◌, length, ◌⊎◌, inl, inr, Option, Some, None, arith, length-append, IsTrue, eq-eqb}
use Rattle.std.proofs.lemmas.Bool.{and_from, or_left, or_right}
use Rattle.std.proofs.lemmas.Slice.Eq.{bytes_eq-Decides}
use Rattle.std.specs.Prelude.{flat_map}
use Rattle.std.specs.Str.{bytes_eq}
use Rattle.std.specs.List.{list_any, slice_get}
use Rattle.mr_model.specs.Dropped.{Has}
use Rattle.mr_model.specs.Texts.{Text, words}
use Rattle.mr_model.specs.Calendar.{date_text, time_text}
use Rattle.mr_model.specs.Slots.{Slot, same_slot, slot_words}
use Rattle.mr_model.specs.Writes.{Id, Meeting, Action, Books, Cancels, Write, id_of, same_id, choices_of, choices_in, is_meeting, is_action}
use Rattle.mr_model.specs.Replay.{Place, Taken, Logged, Done, Void, slot_at}
use Rattle.mr_model.specs.Replica.{Replica, IsReplica, is_committed}
use Rattle.mr_model.specs.Exchange.{slots_at}
use Rattle.mr_model.specs.View.{place_of, canceller_of}
use Rattle.mr_model.specs.Tables.{BookingRow, ErrorRow, CancelRow, LogRow, MeetingCells, seq_of, booked_in, erred_in, taken_back, as_booked, cancel_row_for}
use Rattle.mr_model.specs.Tables.{booking_place_row, place_row_for, place_row, as_booking, as_error, as_cancelled, as_cancel, choices_text, cells_of, log_row, tables_of}
use Rattle.mr_model.specs.Queries.{booking_id, error_id, cancel_id, is_marked}
use Rattle.mr_agree.specs.Agreeing.{same_mark, same_booking, same_error, same_cancel, slots_in, taken_row, logged_row, cancelling_row, has_taken, has_logged, is_at_place, do_places_agree}
use Rattle.mr_model.proofs.Members.{any_has, same_id_refl}
use Rattle.mr_model.proofs.SlotTests.{same_date_refl}
use Rattle.mr_model.proofs.LinesReadBack.{slots-read}
use Rattle.mr_model.proofs.RowsById.{known_write, action_within, meeting_slots, slots_long, words-snoc}
use Rattle.mr_model.proofs.RowsOfKnown.{rows_of_known}
use Rattle.mr_model.proofs.RowsTell.{of_known}
use Rattle.mr_model.proofs.RoomTold.{known_went, committed-seq}
use Rattle.mr_model.proofs.Runs.{Went, took, failed, did, missed}
use Rattle.mr_agree.proofs.AgreeCounts.{all_true, same_mark_from}

-- ---- the slots of a text of choices

count_of_text : (t u : Text) (n : ℕ) → u ≡ t ++ 32 ∷ [] → length u ≡ 17 * n → (length t + 1) / 17 ≡ n
count_of_text t u n e l =
    let a : length u ≡ length (t ++ 32 ∷ []) = ap length e in
    let b : length (t ++ 32 ∷ []) ≡ length t + 1 = length-append t (32 ∷ []) in
    let c : length t + 1 ≡ 17 * n = omega (arith, a, b, l) in
    ap (λ k. k / 17) c ∙ omega arith

pub slots_in-text : (m : Meeting) → is_meeting m ≡ true → slots_in (choices_text m) ≡ choices_of m
slots_in-text m ok =
    let text : words (flat_map slot_words (choices_of m) ++ [] ∷ []) ≡ choices_text m ++ 32 ∷ [] = words-snoc (date_text m.wish.day) (time_text m.wish.start ∷ flat_map slot_words m.alternatives) in
    let n : (length (choices_text m) + 1) / 17 ≡ length (choices_of m) =
    count_of_text (choices_text m) (words (flat_map slot_words (choices_of m) ++ [] ∷ [])) (length (choices_of m)) text (slots_long (choices_of m)) in
    (λ i. slots_at (n i) 0 (sym text i))
    ∙ slots-read (choices_of m) 0 (words (flat_map slot_words (choices_of m) ++ [] ∷ [])) [] (meeting_slots m ok) refl

-- ---- equal rows pass the tests

same_text : (t : Text) → bytes_eq t t ≡ true
same_text t = (bytes_eq-Decides t t).1 refl

same_slot_refl : (s : Slot) → same_slot s s ≡ true
same_slot_refl s = and_from _ (eqb s.start s.start) (same_date_refl s.day) (eq-eqb s.start s.start refl)

booking_refl : (a : BookingRow) → same_booking a a ≡ true
booking_refl a =
    and_from _ (same_mark a.committed a.committed)
    (and_from _ (bytes_eq a.title a.title)
    (and_from _ (eqb a.stop a.stop)
    (and_from _ (same_slot (record { day = a.day; start = a.start }) (record { day = a.day; start = a.start }))
    (and_from (same_id (booking_id a) (booking_id a)) (bytes_eq a.room a.room) (same_id_refl (booking_id a)) (same_text a.room))
    (same_slot_refl (record { day = a.day; start = a.start })))
    (eq-eqb a.stop a.stop refl)) (same_text a.title)) (same_mark_from a.committed a.committed refl)

error_refl : (a : ErrorRow) → same_error a a ≡ true
error_refl a =
    and_from _ (eqb a.seq a.seq)
    (and_from _ (eqb a.time a.time)
    (and_from _ (bytes_eq a.title a.title)
    (and_from _ (eqb a.stop a.stop)
    (and_from _ (same_slot (record { day = a.day; start = a.start }) (record { day = a.day; start = a.start }))
    (and_from (same_id (error_id a) (error_id a)) (bytes_eq a.room a.room) (same_id_refl (error_id a)) (same_text a.room))
    (same_slot_refl (record { day = a.day; start = a.start })))
    (eq-eqb a.stop a.stop refl)) (same_text a.title)) (eq-eqb a.time a.time refl)) (eq-eqb a.seq a.seq refl)

cancel_refl : (a : CancelRow) → same_cancel a a ≡ true
cancel_refl a =
    and_from _ (eqb a.seq a.seq)
    (and_from _ (eqb a.time a.time)
    (and_from _ (same_mark a.done a.done)
    (and_from _ (same_id a.target a.target)
    (and_from (same_id (cancel_id a) (cancel_id a)) (bytes_eq a.room a.room) (same_id_refl (cancel_id a)) (same_text a.room))
    (same_id_refl a.target)) (same_mark_from a.done a.done refl)) (eq-eqb a.time a.time refl)) (eq-eqb a.seq a.seq refl)

-- ---- places

-- the row of a write, where its action and its place are these
row_at_place : (r : Replica) (w : Write) (a : Action) (p : Place) → w.action ≡ a → place_of r w ≡ p → place_row r w ≡ place_row_for w a p (canceller_of r w) (is_committed r (id_of w)) (seq_of r w)
row_at_place r w a p f at = λ i. place_row_for w (f i) (at i) (canceller_of r w) (is_committed r (id_of w)) (seq_of r w)

-- a log row at its write's place
at_place : (r : Replica) (w : Write) → IsReplica r → Has w r.known → is_at_place (tables_of r) (log_row r w) (cells_of w.action) (place_of r w) ≡ true
at_place r w h g = go (known_went r w h g)
  where
    cells : Meeting → MeetingCells
    cells m = record { length = m.length; choices = choices_text m; title = m.title }

    within_limits : (m : Meeting) → w.action ≡ Books m → is_meeting m ≡ true
    within_limits m f = sym (ap is_action f) ∙ action_within w (known_write r w h g)

    choices : (m : Meeting) (k : ℕ) → w.action ≡ Books m → slice_get (slots_in (choices_text m)) k ≡ slice_get (choices_of m) k
    choices m k f = ap (λ ss. slice_get ss k) (slots_in-text m (within_limits m f))

    booked : (m : Meeting) (s : Slot)
        → record { room = w.room; day = s.day; start = s.start; stop = s.start + m.length; server = w.stamp.server; n = w.stamp.n; title = m.title; committed = is_marked (seq_of r w) }
        ≡ booked_in w m s (is_committed r (id_of w))
    booked m s = ap (λ b. booked_in w m s b) (sym (committed-seq r w))

    taken : (m : Meeting) (s : Slot) (by : Option Id) → place_row r w ≡ booking_place_row w m (Some s) by (is_committed r (id_of w)) (seq_of r w)
        → has_taken (tables_of r) (log_row r w) (cells m) (Some s) ≡ true
    taken m s None e =
        or_left (list_any (same_booking (taken_row (log_row r w) (cells m) s)) (tables_of r).booking) _
        (any_has (same_booking (taken_row (log_row r w) (cells m) s)) (booked_in w m s (is_committed r (id_of w))) (tables_of r).booking
        (ap (same_booking (taken_row (log_row r w) (cells m) s)) (sym (booked m s)) ∙ booking_refl (taken_row (log_row r w) (cells m) s))
        (of_known as_booking r (booked_in w m s (is_committed r (id_of w))) h w g (ap as_booking e)))
    taken m s (Some c) e =
        or_right _ (list_any (λ x. same_booking (taken_row (log_row r w) (cells m) s) (as_booked x)) (tables_of r).cancelled)
        (any_has (λ x. same_booking (taken_row (log_row r w) (cells m) s) (as_booked x)) (taken_back c (booked_in w m s (is_committed r (id_of w)))) (tables_of r).cancelled
        (ap (same_booking (taken_row (log_row r w) (cells m) s)) (sym (booked m s)) ∙ booking_refl (taken_row (log_row r w) (cells m) s))
        (of_known as_cancelled r (taken_back c (booked_in w m s (is_committed r (id_of w)))) h w g (ap as_cancelled e)))

    go : Went w (place_of r w) → is_at_place (tables_of r) (log_row r w) (cells_of w.action) (place_of r w) ≡ true
    go (took m k s f at o) =
        let slot : slice_get (choices_of m) k ≡ Some s = sym (ap (λ a. slice_get (choices_in a) k) f) ∙ sym (ap (slot_at w) at) ∙ o in
        (λ i. is_at_place (tables_of r) (log_row r w) (cells_of (f i)) (at i))
        ∙ ap (has_taken (tables_of r) (log_row r w) (cells m)) (choices m k f ∙ slot)
        ∙ taken m s (canceller_of r w)
        (row_at_place r w (Books m) (Taken k) f at ∙ ap (λ x. booking_place_row w m x (canceller_of r w) (is_committed r (id_of w)) (seq_of r w)) (sym (ap (slot_at w) at) ∙ o))
    go (failed m f at) =
        (λ i. is_at_place (tables_of r) (log_row r w) (cells_of (f i)) (at i))
        ∙ ap (has_logged (tables_of r) (log_row r w) (cells m)) (choices m 0 f)
        ∙ any_has (same_error (logged_row (log_row r w) (cells m) m.wish)) (erred_in w m (seq_of r w)) (tables_of r).errorlog
        (error_refl (erred_in w m (seq_of r w)))
        (of_known as_error r (erred_in w m (seq_of r w)) h w g (ap as_error (row_at_place r w (Books m) Logged f at)))
    go (did x f at) =
        (λ i. is_at_place (tables_of r) (log_row r w) (cells_of (f i)) (at i))
        ∙ any_has (same_cancel (cancelling_row (log_row r w) x true)) (cancel_row_for w x Done (seq_of r w)) (tables_of r).cancels
        (cancel_refl (cancel_row_for w x Done (seq_of r w)))
        (of_known as_cancel r (cancel_row_for w x Done (seq_of r w)) h w g (ap as_cancel (row_at_place r w (Cancels x) Done f at)))
    go (missed x f at) =
        (λ i. is_at_place (tables_of r) (log_row r w) (cells_of (f i)) (at i))
        ∙ any_has (same_cancel (cancelling_row (log_row r w) x false)) (cancel_row_for w x Void (seq_of r w)) (tables_of r).cancels
        (cancel_refl (cancel_row_for w x Void (seq_of r w)))
        (of_known as_cancel r (cancel_row_for w x Void (seq_of r w)) h w g (ap as_cancel (row_at_place r w (Cancels x) Void f at)))

pub places_agree : (r : Replica) → IsReplica r → do_places_agree (tables_of r) ≡ true
places_agree r h =
    all_true (λ row. is_at_place (tables_of r) row row.action row.place) (tables_of r).log
    (λ row g. let (w, k, d, e) = ((rows_of_known r h).log row).0 g in
    subst (λ (x : LogRow). is_at_place (tables_of r) x x.action x.place ≡ true) (sym e) (at_place r w h k))
