-- The rows of a replica's tables are within the limits.
use Rattle.std.proofs.Common.{◌≡◌, inl, ℕ, ◌+◌, ◌≤◌, ◌∷◌, Bool, true, false, not, ◌&&◌, Option, Some, None, IsTrue, refl, sym, ap, subst, ◌∙◌, arith, le-leb}
use Rattle.std.proofs.lemmas.Bool.{and_parts, and_from}
use Rattle.std.proofs.lemmas.Bool.Decides.{nat_tests}
use Rattle.mr_model.specs.Texts.{within}
use Rattle.std.specs.Prelude.{nat_le}
use Rattle.std.specs.List.{list_all, list_any, slice_get}
use Rattle.mr_model.specs.Calendar.{is_date}
use Rattle.mr_model.specs.Slots.{Slot, is_slot}
use Rattle.mr_model.specs.Writes.{Id, Meeting, Action, Books, Cancels, Write, id_of, same_id, is_server, is_count, is_time, is_id, is_room_name}
use Rattle.mr_model.specs.Writes.{is_length, is_meeting, is_action, greatest_alternatives, greatest_time, fits_day, choices_of, choices_in}
use Rattle.mr_model.specs.Replay.{Place, Taken, Logged, Done, Void, slot_at}
use Rattle.mr_model.specs.Replica.{Replica, IsReplica, clock_of, is_committed, is_dropped}
use Rattle.mr_model.specs.Tables.{VectorRow, LogRow, CancelledRow, CancelRow, PlaceRow, Booked, Erred, Cancelled, Cancel, as_booking, as_error, as_cancelled}
use Rattle.mr_model.specs.Tables.{as_cancel, cells_of, booking_place_row, place_row_for, place_row, seq_of, log_row, by_id, kept, tables_of}
use Rattle.mr_model.specs.View.{place_of, canceller_of}
use Rattle.mr_model.specs.Queries.{cancel_id}
use Rattle.mr_model.specs.Dropped.{Has}
use Rattle.mr_model.proofs.LinesReadBack.{meeting_facts, write_parts}
use Rattle.mr_model.proofs.Members.{has_all, all_has, has_any, slice_has, map_has, filter_has, same_id-true}
use Rattle.mr_model.proofs.Fronts.{get_below}
use Rattle.mr_model.proofs.Runs.{Went, took, failed, did, missed}
use Rattle.mr_model.proofs.RoomTold.{known_went}
use Rattle.mr_model.proofs.RowsById.{known_write, by_id_has}
use Rattle.mr_model.proofs.RowsTell.{known_of, booked_is, erred_is, cancelled_is, cancel_is}
use Rattle.mr_model.proofs.StepsKeep.{clock_within, within_from}
use Rattle.mr_agree.specs.Agreeing.{Note, notes, is_taken_by}
use Rattle.mr_agree.proofs.AgreeMarks.{seq_few}
use Rattle.mr_agree.proofs.AgreeLimits.{limits_agree}
use Rattle.mr_agree.proofs.AgreeCounts.{counts_agree}
use Rattle.mr_agree.proofs.AgreeCancels.{cancels_agree}
use Rattle.mr_tables.proofs.CountLimits.{few_commits}
use Rattle.mr_tables.specs.Cells.{is_cancel_cells}
use Rattle.mr_rows.specs.RowLimits.{is_commit, is_meta_row, is_vector_row, is_log_row, is_action_cells, is_place_of, is_slot_row, is_booking_row, is_error_row, is_cancelled_row, is_cancel_row}
use Rattle.mr_rows.specs.TableLimits.{AreWithinLimits}
use Rattle.mr_rows.proofs.ChoiceTexts.{choices_within}
use Rattle.mr_model.proofs.Lists.{list_all_at}

-- ---- a write

record IsWithin (w : Write) : Type 0 where
  server : is_server w.stamp.server ≡ true
  count : is_count w.stamp.n ≡ true
  time : is_time w.stamp.time ≡ true
  room : is_room_name w.room ≡ true
  action : is_action w.action ≡ true

write_within : (r : Replica) (w : Write) → IsReplica r → Has w r.known → IsWithin w
write_within r w h a =
    let parts = write_parts w (known_write r w h a) in
    let stamp = and_parts _ (is_time w.stamp.time) parts.0 in
    let id = and_parts (is_server w.stamp.server) (is_count w.stamp.n) stamp.0 in
    record { server = id.0; count = id.1; time = stamp.1; room = parts.1; action = parts.2 }

number_within : (r : Replica) (w : Write) → IsReplica r → is_commit (seq_of r w) ≡ true
number_within r w h = within_from 0 999_999_999_999 (seq_of r w) (omega arith) (omega (arith, seq_few r w, few_commits r h))

-- ---- what became of it

abbrev IsSlotOf : Write → Meeting → Slot → Type 0
IsSlotOf w m s = is_slot_row w.room s.day s.start (s.start + m.length) w.stamp.server w.stamp.n m.title ≡ true

slot_within : (w : Write) (m : Meeting) (s : Slot) → IsWithin w → is_meeting m ≡ true → Has s (choices_of m) → IsSlotOf w m s
slot_within w m s k h g =
    let f = meeting_facts m h in
    let long : is_length m.length ≡ true = grind arith in
    let fits = and_parts (is_slot s) (fits_day m.length s) (list_all_at (λ x. is_slot x && fits_day m.length x) s (choices_of m) f.slots g) in
    let day = and_parts (is_date s.day) (nat_le s.start 1439) fits.0 in
    let start : within 0 1439 s.start ≡ true = grind (arith, nat_tests, day.1) in
    let stop : within (s.start + 1) 1440 (s.start + m.length) ≡ true = grind (arith, nat_tests, long, fits.1) in
    and_from _ _ (and_from _ _ (and_from _ _ (and_from _ _ (and_from _ _ (and_from _ _ k.room day.0) start) stop) k.server) k.count) f.title

-- (the cancel of a booking that was taken back is that of a row of its own)
abbrev PlaceWithin : PlaceRow → Type 0
PlaceWithin (Booked row) = is_booking_row row ≡ true
PlaceWithin (Erred row) = is_error_row row ≡ true
PlaceWithin (Cancelled row) = is_slot_row row.room row.day row.start row.stop row.server row.n row.title ≡ true
PlaceWithin (Cancel row) = is_cancel_row row ≡ true

meeting_within : (w : Write) (m : Meeting) (o : Option Slot) (by : Option Id) (mark : Bool) (seq : ℕ) → IsWithin w → is_commit seq ≡ true
    → IsSlotOf w m m.wish → ((s : Slot) → o ≡ Some s → IsSlotOf w m s) → PlaceWithin (booking_place_row w m o by mark seq)
meeting_within w m None by mark seq k few wish slots = and_from _ _ (and_from _ _ wish k.time) few
meeting_within w m (Some s) None mark seq k few wish slots = slots s refl
meeting_within w m (Some s) (Some c) mark seq k few wish slots = slots s refl

chosen : (w : Write) (m : Meeting) (p : Place) (s : Slot) → w.action ≡ Books m → slot_at w p ≡ Some s → Has s (choices_of m)
chosen w m (Taken k) s a e = slice_has (choices_of m) k s (sym (ap (λ x. slice_get (choices_in x) k) a) ∙ e)
chosen w m Logged s a e = let f : ◌≡◌ {A = Option Slot} None (Some s) = e in absurd (cc)
chosen w m Done s a e = let f : ◌≡◌ {A = Option Slot} None (Some s) = e in absurd (cc)
chosen w m Void s a e = let f : ◌≡◌ {A = Option Slot} None (Some s) = e in absurd (cc)

place_within : (w : Write) (a : Action) (p : Place) (by : Option Id) (mark : Bool) (seq : ℕ) → IsWithin w
    → is_commit seq ≡ true → is_action a ≡ true → w.action ≡ a → PlaceWithin (place_row_for w a p by mark seq)
place_within w (Books m) p by mark seq k few h e =
    meeting_within w m (slot_at w p) by mark seq k few (slot_within w m m.wish k h (inl refl)) (λ s f. slot_within w m s k h (chosen w m p s e f))
place_within w (Cancels t) p by mark seq k few h e = and_from _ _ (and_from _ _ (and_from _ _ (and_from _ _ (and_from _ _ k.server k.count) k.room) h) k.time) few

known_within : (r : Replica) (w : Write) → IsReplica r → Has w r.known → PlaceWithin (place_row r w)
known_within r w h a =
    let k = write_within r w h a in
    place_within w w.action (place_of r w) (canceller_of r w) (is_committed r (id_of w)) (seq_of r w) k (number_within r w h) k.action refl

cancel_within : (r : Replica) (row : CancelRow) → IsReplica r → Has row (tables_of r).cancels → is_cancel_row row ≡ true
cancel_within r row h g = let (w, a, e) = known_of as_cancel r row g in subst PlaceWithin (cancel_is row (place_row r w) e) (known_within r w h a)

its_own : (c : CancelRow) (row : CancelledRow) → is_taken_by c row ≡ true → same_id (cancel_id c) row.by ≡ true
its_own c row is = grind arith

cancelled_within : (r : Replica) (row : CancelledRow) → IsReplica r → Has row (tables_of r).cancelled → is_cancelled_row row ≡ true
cancelled_within r row h g =
    let (w, a, e) = known_of as_cancelled r row g in
    let slot = subst PlaceWithin (cancelled_is row (place_row r w) e) (known_within r w h a) in
    let agreed = and_parts (list_all (λ x. list_any (λ c. is_taken_by c x) (tables_of r).cancels) (tables_of r).cancelled) _ (cancels_agree r h) in
    let (c, i, by) = has_any (λ c. is_taken_by c row) (tables_of r).cancels (list_all_at (λ x. list_any (λ c. is_taken_by c x) (tables_of r).cancels) row (tables_of r).cancelled agreed.0 g) in
    let limits = cancel_within r c h i in
    let own = and_parts _ (is_room_name c.room) (and_parts _ (is_id c.target) (and_parts _ (is_time c.time) (and_parts _ (is_commit c.seq) limits).0).0).0 in
    and_from _ _ slot (ap is_id (sym (same_id-true (cancel_id c) row.by (its_own c row by))) ∙ own.0)

-- ---- the log

place_fits : (w : Write) (p : Place) → Went w p → IsTrue (is_action w.action) → is_place_of (is_cancel_cells (cells_of w.action)) p ≡ true
place_fits w p (took m k s f at o) h =
    let good : is_meeting m ≡ true = sym (ap is_action f) ∙ h in
    let few = (meeting_facts m good).few in
    let low = get_below (choices_of m) k s (sym (ap (λ a. slice_get (choices_in a) k) f) ∙ sym (ap (slot_at w) at) ∙ o) in
    subst (λ x. is_place_of (is_cancel_cells (cells_of x)) p ≡ true) (sym f) (subst (λ x. is_place_of false x ≡ true) (sym at) (le-leb k greatest_alternatives (omega (arith, low, few))))
place_fits w p (failed m f at) h = subst (λ x. is_place_of (is_cancel_cells (cells_of x)) p ≡ true) (sym f) (ap (is_place_of false) at)
place_fits w p (did t f at) h = subst (λ x. is_place_of (is_cancel_cells (cells_of x)) p ≡ true) (sym f) (ap (is_place_of true) at)
place_fits w p (missed t f at) h = subst (λ x. is_place_of (is_cancel_cells (cells_of x)) p ≡ true) (sym f) (ap (is_place_of true) at)

cells_within : (a : Action) → is_action a ≡ true → is_action_cells (cells_of a) ≡ true
cells_within (Books m) h = let long : is_length m.length ≡ true = grind arith in and_from _ _ (and_from _ _ long (choices_within m h)) (meeting_facts m h).title
cells_within (Cancels t) h = h

log_within : (r : Replica) (row : LogRow) → IsReplica r → Has row (tables_of r).log → is_log_row row ≡ true
log_within r row h g =
    let (w, i, e) = map_has (log_row r) row (kept r) g in
    let a = by_id_has r w (filter_has (λ v. not (is_dropped r (id_of v))) w (by_id r.known) i).0 in
    let k = write_within r w h a in
    ap is_log_row e
    ∙ and_from _ _ (and_from _ _ (and_from _ _ (and_from _ _ (and_from _ _ (and_from _ _ k.server k.count) k.time) k.room) (cells_within w.action k.action))
    (place_fits w (place_of r w) (known_went r w h a) k.action)) (number_within r w h)

-- ---- numbers

vector_within : (r : Replica) (row : VectorRow) → IsReplica r → Has row (tables_of r).vector → is_vector_row row ≡ true
vector_within r row h g =
    let limits = and_parts _ (list_all is_room_name (tables_of r).room) (limits_agree r h) in
    let noted = and_parts _ (list_all (λ (a : Note). is_id a.id && is_time a.time) (notes (tables_of r))) limits.0 in
    let counted = and_parts _ (list_all (λ (v : VectorRow). is_id (record { server = v.server; n = v.count }) && is_time v.last_time) (tables_of r).vector) noted.0 in
    let own = list_all_at (λ (v : VectorRow). is_id (record { server = v.server; n = v.count }) && is_time v.last_time) row (tables_of r).vector counted.1 g in
    let few = list_all_at (λ (v : VectorRow). nat_le 1 v.count && nat_le v.committed v.count) row (tables_of r).vector (counts_agree r h) g in
    grind (arith, nat_tests, own, few)

meta_within : (r : Replica) → IsReplica r → is_meta_row (tables_of r).meta ≡ true
meta_within r h =
    let commits : (n : ℕ) → n ≤ 999_999_999_999 → is_commit n ≡ true = λ n low. within_from 0 999_999_999_999 n (omega arith) low in
    let few = few_commits r h in
    let dropped = h.dropped_committed in
    and_from _ _ (and_from _ _ (and_from _ _ h.servers (commits _ few)) (commits r.dropped (omega (arith, dropped, few)))) (within_from 0 greatest_time (clock_of r) (omega arith) (clock_within r h))

pub limits_kept : (r : Replica) → IsReplica r → AreWithinLimits (tables_of r)
limits_kept r h = record {
  meta = meta_within r h;
  room = has_all (λ name. IsTrue (is_room_name name)) (tables_of r).room (λ name g. all_has (λ t. IsTrue (is_room_name t)) name r.rooms h.room_names g);
  vector = has_all (λ row. IsTrue (is_vector_row row)) (tables_of r).vector (λ row g. vector_within r row h g);
  log = has_all (λ row. IsTrue (is_log_row row)) (tables_of r).log (λ row g. log_within r row h g);
  booking = has_all (λ row. IsTrue (is_booking_row row)) (tables_of r).booking
      (λ row g. let (w, a, e) = known_of as_booking r row g in subst PlaceWithin (booked_is row (place_row r w) e) (known_within r w h a));
  errorlog = has_all (λ row. IsTrue (is_error_row row)) (tables_of r).errorlog
      (λ row g. let (w, a, e) = known_of as_error r row g in subst PlaceWithin (erred_is row (place_row r w) e) (known_within r w h a));
  cancelled = has_all (λ row. IsTrue (is_cancelled_row row)) (tables_of r).cancelled (λ row g. cancelled_within r row h g);
  cancels = has_all (λ row. IsTrue (is_cancel_row row)) (tables_of r).cancels (λ row g. cancel_within r row h g);
}
