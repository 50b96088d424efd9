-- Whether a slot is free: as a test of rows, as one of bookings, and as what it means.
use Rattle.std.proofs.Common.{◌≡◌, ℕ, Bool, true, false, not, cond, ◌&&◌, ◌||◌, List, [], ◌∷◌, ap, refl, sym, ◌∙◌}
use Rattle.std.specs.List.{list_any, AllByRecursion}
use Rattle.std.specs.Map.{values_of}
use Rattle.std.specs.Str.{bytes_eq}
use Rattle.std.proofs.lemmas.Bool.{true≢false, or_parts, or_from, false_from_ne_true}
use Rattle.std.proofs.lemmas.List.Folds.{list_any-append}
use Rattle.mr_model.specs.Texts.{Text}
use Rattle.mr_model.specs.Slots.{Slot, Overlap, overlaps}
use Rattle.mr_model.specs.Writes.{Id}
use Rattle.mr_model.specs.Replay.{Booking, is_free}
use Rattle.mr_model.proofs.SlotTests.{overlaps-true, overlaps_from}
use Rattle.mr_model.proofs.UniqueReplay.{meets}
use Rattle.mr_replay.specs.declared.rows.Standing.TheVariants.{Booked, CancelledBy, InErrorLog}
use Rattle.mr_replay.specs.declared.rows.Trace.{Trace}
use Rattle.mr_replay.specs.declared.rows.Trace.TheVariants.{OfBooking, OfCancel}
use Rattle.mr_replay.specs.declared.rows.Row.{Row}
use Rattle.mr_replay.specs.Rows.{Rows, booking_traced, bookings_of_entry, bookings_of, is_trace_in_the_way, is_in_the_way, IsFree}

not-cond : (b : Bool) → not b ≡ cond b false true
not-cond true = refl
not-cond false = refl

module _ (room : Text) (slot : Slot) (length : ℕ) where
  or_end : (b : Bool) → (b || false) ≡ b
  or_end true = refl
  or_end false = refl

  trace_meets : (i : Id) (k : Trace) → meets (booking_traced i k) slot length ≡ is_trace_in_the_way slot length k
  trace_meets i (OfBooking s l t Booked) = or_end (overlaps slot length s l)
  trace_meets i (OfBooking s l t (CancelledBy c)) = refl
  trace_meets i (OfBooking s l t InErrorLog) = refl
  trace_meets i (OfCancel t) = refl

  entry_meets : (e : Id × Row) → meets (bookings_of_entry room e) slot length ≡ is_in_the_way room slot length e.1
  entry_meets e = go (bytes_eq e.1.room room) (trace_meets e.0 e.1.trace)
    where
      go : (c : Bool) → meets (booking_traced e.0 e.1.trace) slot length ≡ is_trace_in_the_way slot length e.1.trace
          → meets (cond c (booking_traced e.0 e.1.trace) []) slot length ≡ (is_trace_in_the_way slot length e.1.trace && c)
      go true h = h ∙ both (is_trace_in_the_way slot length e.1.trace)
        where
          both : (b : Bool) → b ≡ (b && true)
          both true = refl
          both false = refl
      go false h = none (is_trace_in_the_way slot length e.1.trace)
        where
          none : (b : Bool) → false ≡ (b && false)
          none true = refl
          none false = refl

  -- some booking of the room overlaps the slot where some row is in the way
  pub meets-rows : (b : Rows) → meets (bookings_of room b) slot length ≡ list_any (is_in_the_way room slot length) (values_of b)
  meets-rows [] = refl
  meets-rows (e ∷ es) =
      list_any-append (λ (x : Booking). overlaps slot length x.slot x.length) (bookings_of_entry room e) (bookings_of room es)
      ∙ ap (λ t. t || meets (bookings_of room es) slot length) (entry_meets e) ∙ ap (λ t. is_in_the_way room slot length e.1 || t) (meets-rows es)

  pub free-bookings : (b : Rows) → not (list_any (is_in_the_way room slot length) (values_of b)) ≡ is_free (bookings_of room b) length slot
  free-bookings b =
      not-cond (list_any (is_in_the_way room slot length) (values_of b)) ∙ ap (λ t. cond t false true) (sym (meets-rows b))

  -- ---- what the test means

  all_leave_free : (bs : List Booking) → meets bs slot length ≡ false → AllByRecursion (λ x. ¬ (Overlap slot length x.slot x.length)) bs
  all_leave_free [] h = tt
  all_leave_free (x ∷ xs) h =
      let parts = or_parts (overlaps slot length x.slot x.length) (meets xs slot length) h in
      (λ overlap. true≢false (sym (overlaps_from slot length x.slot x.length overlap) ∙ parts.0), all_leave_free xs parts.1)

  none_meets : (bs : List Booking) → AllByRecursion (λ x. ¬ (Overlap slot length x.slot x.length)) bs → meets bs slot length ≡ false
  none_meets [] h = refl
  none_meets (x ∷ xs) h =
      or_from _ _ (false_from_ne_true (overlaps slot length x.slot x.length) (λ e. h.0 (overlaps-true slot length x.slot x.length e))) (none_meets xs h.1)

  free_is : (t : Bool) → cond t false true ≡ true → t ≡ false
  free_is true e = absurd (true≢false (sym e))
  free_is false e = refl

  pub free-true : (b : Rows) → is_free (bookings_of room b) length slot ≡ true → IsFree room slot length b
  free-true b h = all_leave_free (bookings_of room b) (free_is (meets (bookings_of room b) slot length) h)

  pub free_from : (b : Rows) → IsFree room slot length b → is_free (bookings_of room b) length slot ≡ true
  free_from b h = ap (λ t. cond t false true) (none_meets (bookings_of room b) h)
