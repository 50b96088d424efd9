-- All parts together.
use Rattle.std.proofs.Common.{◌≡◌, refl, ◌∙◌, Bool, true, false, ◌&&◌, ltb, leb, List, [], ◌∷◌}
use Rattle.std.proofs.lemmas.Bool.{and_parts, and_from}
use Rattle.std.specs.List.{list_all}
use Rattle.mr_model.specs.Tables.{Tables, BookingRow}
use Rattle.mr_model.specs.Slots.{is_slot}
use Rattle.mr_model.specs.Changes.{AreInKeyOrder}
use Rattle.mr_model.specs.Queries.{booking_id, error_id, cancelled_id, cancel_id, log_id}
use Rattle.mr_agree.specs.Agreeing.{does_meta_agree, do_counts_agree, do_ids_agree, do_marks_agree, do_rooms_agree, does_log_agree, is_log_whole, notes}
use Rattle.mr_agree.specs.Agreeing.{does_time_agree, do_places_agree, do_cancels_agree, are_rows_apart, is_span, do_spans_agree, do_limits_agree, agree}
use Rattle.mr_audit.specs.KeyOrders.{AreByRisingId}
use Rattle.mr_audit.specs.Apart.{are_numbers_single, is_positive}
use Rattle.mr_audit.specs.Turns.{are_all_in_turn}
use Rattle.mr_audit.specs.Parts.{do_parts_agree}
use Rattle.mr_audit.proofs.SortedIds.{ids_rising, rising_ids}
use Rattle.mr_audit.proofs.TablesInTurn.{all_two}

-- ---- the parts in another order

regrouped : (m c i k r l w x y n p g a u z : Bool)
    → (m && c && i && k && r && l && w && (x && (y && n)) && p && g && a && u && z) ≡ ((m && c && i && k && r && l && w && x && y && p && g && u && z) && (a && n))
regrouped false c i k r l w x y n p g a u z = refl
regrouped true false i k r l w x y n p g a u z = refl
regrouped true true false k r l w x y n p g a u z = refl
regrouped true true true false r l w x y n p g a u z = refl
regrouped true true true true false l w x y n p g a u z = refl
regrouped true true true true true false w x y n p g a u z = refl
regrouped true true true true true true false x y n p g a u z = refl
regrouped true true true true true true true false y n p g a u z = refl
regrouped true true true true true true true true false n p g a u z = refl
regrouped true true true true true true true true true true false g a u z = refl
regrouped true true true true true true true true true true true false a u z = refl
regrouped true true true true true true true true true true true true false false z = refl
regrouped true true true true true true true true true true true true false true false = refl
regrouped true true true true true true true true true true true true false true true = refl
regrouped true true true true true true true true true true true true true false z = refl
regrouped true true true true true true true true true true true true true true false = refl
regrouped true true true true true true true true true true true true true true true = refl
regrouped true true true true true true true true true false false g a u z = refl
regrouped true true true true true true true true true false true false a u z = refl
regrouped true true true true true true true true true false true true a false z = refl
regrouped true true true true true true true true true false true true a true false = refl
regrouped true true true true true true true true true false true true false true true = refl
regrouped true true true true true true true true true false true true true true true = refl

pub parts_tell : (t : Tables) → agree t ≡ (do_parts_agree t && (are_rows_apart t.booking && are_numbers_single t))
parts_tell t =
    (λ i. does_meta_agree t && do_counts_agree t && do_ids_agree t && do_marks_agree t && do_rooms_agree t && does_log_agree t && is_log_whole t
    && (list_all (does_time_agree t) (notes t) && all_two t i) && do_places_agree t && do_cancels_agree t && are_rows_apart t.booking && do_spans_agree t
    && do_limits_agree t)
    ∙ regrouped (does_meta_agree t) (do_counts_agree t) (do_ids_agree t) (do_marks_agree t) (do_rooms_agree t) (does_log_agree t) (is_log_whole t) (list_all (does_time_agree t) (notes t))
    (are_all_in_turn t) (are_numbers_single t) (do_places_agree t) (do_cancels_agree t) (are_rows_apart t.booking) (do_spans_agree t) (do_limits_agree t)

-- ---- spans

-- bookings that end on their day, and not before they begin
pub positive : (t : Tables) → do_parts_agree t ≡ true → list_all is_positive t.booking ≡ true
positive t h = go t.booking (and_parts _ _ (and_parts _ _ spans).0).0
  where
    spans : do_spans_agree t ≡ true
    spans = (and_parts _ (do_spans_agree t) (and_parts _ (do_limits_agree t) h).0).1

    go : (rows : List BookingRow) → list_all (λ row. is_span (record { day = row.day; start = row.start }) row.stop) rows ≡ true → list_all is_positive rows ≡ true
    go [] e = refl
    go (row ∷ rows) e =
        let p = and_parts (is_span (record { day = row.day; start = row.start }) row.stop) (list_all (λ row. is_span (record { day = row.day; start = row.start }) row.stop) rows) e in
        let q = and_parts (is_slot (record { day = row.day; start = row.start }) && ltb row.start row.stop) (leb row.stop 1440) p.0 in
        and_from (is_positive row) (list_all is_positive rows) (and_parts (is_slot (record { day = row.day; start = row.start })) (ltb row.start row.stop) q.0).1 (go rows p.1)

-- ---- the order of keys

pub by_rising_id : (t : Tables) → AreInKeyOrder t → AreByRisingId t
by_rising_id t o = record {
  log = ids_rising log_id t.log o.log;
  booking = ids_rising booking_id t.booking o.booking;
  errorlog = ids_rising error_id t.errorlog o.errorlog;
  cancelled = ids_rising cancelled_id t.cancelled o.cancelled;
  cancels = ids_rising cancel_id t.cancels o.cancels;
}

pub in_key_order : (t : Tables) → AreByRisingId t → AreInKeyOrder t
in_key_order t o = record {
  log = rising_ids log_id t.log o.log;
  booking = rising_ids booking_id t.booking o.booking;
  errorlog = rising_ids error_id t.errorlog o.errorlog;
  cancelled = rising_ids cancelled_id t.cancelled o.cancelled;
  cancels = rising_ids cancel_id t.cancels o.cancels;
}
