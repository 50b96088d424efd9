-- Bookings in the order of rooms, days and starts: from one to the next.
use Rattle.std.proofs.Common.{◌≡◌, refl, sym, ap, ◌∙◌, ◌+◌, ◌-◌, ◌≤◌, min, max, Bool, true, false, ◌&&◌, nat_lt, nat_le, List, [], ◌∷◌, arith}
use Rattle.std.specs.Prelude.{bytes_eq, not}
use Rattle.std.specs.List.{list_all}
use Rattle.std.specs.Cmp.{IsTotalOrder, both_ways}
use Rattle.std.specs.Cmp.Lexicographic.{slice_cmp}
use Rattle.std.specs.Ordering.{is_lt, nat_cmp, ordering_then, ordering_reverse}
use Rattle.std.specs.declared.cmp.Ordering.{Ordering}
use Rattle.std.specs.declared.cmp.Ordering.TheVariants.{Less, Equal, Greater}
use Rattle.std.proofs.lemmas.Bool.{true≢false, and_parts, and_from, and_right, ltb-true, leb-true, leb-false, lt-ltb, le-ltb, le-leb, false_from_ne_true}
use Rattle.std.proofs.lemmas.Bool.Decides.{nat_tests}
use Rattle.std.proofs.lemmas.Cmp.{on_total, nat_cmp_total, then_total, nat_list_cmp_total}
use Rattle.std.proofs.lemmas.Map.Lookups.{exact_pairs, exact_bytes}
use Rattle.std.proofs.lemmas.Slice.Eq.{bytes_eq-Decides}
use Rattle.mr_model.specs.Texts.{Text}
use Rattle.mr_model.specs.Calendar.{Date, same_date}
use Rattle.mr_model.specs.Tables.{BookingRow}
use Rattle.mr_model.proofs.SlotTests.{same_date-true, same_date_from}
use Rattle.mr_replay.specs.Index.{day_cmp}
use Rattle.mr_agree.specs.Agreeing.{do_rows_overlap, are_rows_apart}
use Rattle.mr_audit.specs.Apart.{apart, place_cmp, start_cmp, or_alike, is_next_booking, is_positive}
use Rattle.mr_replay.proofs.Keys.{exact_days}
use Rattle.mr_audit.proofs.SortedNames.{itself}

-- ---- the order is total, and exact

days_total : IsTotalOrder day_cmp
days_total =
    then_total (on_total (λ (d : Date). d.year) nat_cmp_total)
    (then_total (on_total (λ (d : Date). d.month) nat_cmp_total) (on_total (λ (d : Date). d.day) nat_cmp_total))

places_total : IsTotalOrder place_cmp
places_total = then_total (on_total (λ (r : BookingRow). r.room) nat_list_cmp_total) (on_total (λ (r : BookingRow). r.day) days_total)

pub starts_total : IsTotalOrder start_cmp
starts_total = then_total places_total (on_total (λ (r : BookingRow). r.start) nat_cmp_total)

one_place : (x y : BookingRow) → place_cmp x y ≡ Equal → (x.room ≡ y.room) × (x.day ≡ y.day)
one_place x y e =
    let p = exact_pairs (slice_cmp nat_cmp) day_cmp exact_bytes exact_days (x.room, x.day) (y.room, y.day) e in
    (ap (λ (q : Text × Date). q.0) p, ap (λ (q : Text × Date). q.1) p)

alike : (x y : BookingRow) → x.room ≡ y.room → x.day ≡ y.day → place_cmp x y ≡ Equal
alike x y room day =
    (λ i. ordering_then (slice_cmp nat_cmp x.room (sym room i)) (day_cmp x.day (sym day i)))
    ∙ itself (place_cmp x x) (places_total.antisymm x x)

-- ---- from one to the next

-- a later place than an alike one, or an alike one behind
place_joins : (x y z : BookingRow) (o p : Ordering) → place_cmp x y ≡ o → place_cmp y z ≡ p → (s t u : Bool)
    → or_alike o s ≡ true → or_alike p t ≡ true → (s ≡ true → t ≡ true → u ≡ true) → or_alike (place_cmp x z) u ≡ true
place_joins x y z Less Less e f s t u a b c = ap (λ o. or_alike o u) (places_total.trans x y z e f)
place_joins x y z Less Equal e f s t u a b c =
    let back : place_cmp z y ≡ Equal = places_total.antisymm z y ∙ ap ordering_reverse f in
    let behind : place_cmp z x ≡ Greater = places_total.congr z y x back ∙ places_total.antisymm y x ∙ ap ordering_reverse e in
    ap (λ o. or_alike o u) (places_total.antisymm x z ∙ ap ordering_reverse behind)
place_joins x y z Less Greater e f s t u a b c = absurd (true≢false (sym b))
place_joins x y z Equal Less e f s t u a b c = ap (λ o. or_alike o u) (places_total.congr x y z e ∙ f)
place_joins x y z Equal Equal e f s t u a b c = ap (λ o. or_alike o u) (places_total.congr x y z e ∙ f) ∙ c a b
place_joins x y z Equal Greater e f s t u a b c = absurd (true≢false (sym b))
place_joins x y z Greater p e f s t u a b c = absurd (true≢false (sym a))

pub booking_joins : (x y z : BookingRow) → is_positive y ≡ true → is_next_booking x y ≡ true → is_next_booking y z ≡ true → is_next_booking x z ≡ true
booking_joins x y z long p q =
    place_joins x y z (place_cmp x y) (place_cmp y z) refl refl (nat_le x.stop y.start) (nat_le y.stop z.start) (nat_le x.stop z.start) p q
    (λ a b. le-leb x.stop z.start (omega (arith, ltb-true y.start y.stop long, leb-true x.stop y.start a, leb-true y.stop z.start b)))

-- the minutes that two bookings of a day have in common
abbrev common : BookingRow → BookingRow → Bool
common x y = nat_lt (max x.start y.start) (min (x.start + (x.stop - x.start)) (y.start + (y.stop - y.start)))

-- the next one doesn't overlap
pub next_apart : (x y : BookingRow) → is_next_booking x y ≡ true → do_rows_overlap x y ≡ false
next_apart x y p = go (place_cmp x y) refl p
  where
    go : (o : Ordering) → place_cmp x y ≡ o → or_alike o (nat_le x.stop y.start) ≡ true → do_rows_overlap x y ≡ false
    go Less e a =
        false_from_ne_true (do_rows_overlap x y)
        (λ both.
        let parts = and_parts (bytes_eq x.room y.room) (same_date x.day y.day && common x y) both in
        let day = and_parts (same_date x.day y.day) (common x y) parts.1 in
        true≢false (ap (λ o. is_lt o) (sym e ∙ alike x y ((bytes_eq-Decides x.room y.room).0 parts.0) (same_date-true x.day y.day day.0))))
    go Equal e a =
        let over = leb-true x.stop y.start a in
        and_right (bytes_eq x.room y.room) (same_date x.day y.day && common x y)
        (and_right (same_date x.day y.day) (common x y)
        (le-ltb (max x.start y.start) (min (x.start + (x.stop - x.start)) (y.start + (y.stop - y.start))) (omega (arith, over))))
    go Greater e a = absurd (true≢false (sym a))

-- one that is not the next, though it doesn't stand before, overlaps
pub not_next : (x y : BookingRow) → is_positive x ≡ true → is_positive y ≡ true → is_lt (start_cmp y x) ≡ false → is_next_booking x y ≡ false → do_rows_overlap x y ≡ true
not_next x y long_x long_y up p = go (place_cmp x y) refl p
  where
    go : (o : Ordering) → place_cmp x y ≡ o → or_alike o (nat_le x.stop y.start) ≡ false → do_rows_overlap x y ≡ true
    go Less e a = absurd (true≢false a)
    go Equal e a =
        let same = one_place x y e in
        let back : place_cmp y x ≡ Equal = places_total.antisymm y x ∙ ap ordering_reverse e in
        let starts : is_lt (nat_cmp y.start x.start) ≡ false = sym (ap (λ o. is_lt (ordering_then o (nat_cmp y.start x.start))) back) ∙ up in
        let order : x.start ≤ y.start = grind (arith, nat_tests) in
        let late = leb-false x.stop y.start a in
        let lx = ltb-true x.start x.stop long_x in
        let ly = ltb-true y.start y.stop long_y in
        and_from (bytes_eq x.room y.room) (same_date x.day y.day && common x y) ((bytes_eq-Decides x.room y.room).1 same.0)
        (and_from (same_date x.day y.day) (common x y) (same_date_from x.day y.day same.1)
        (lt-ltb (max x.start y.start) (min (x.start + (x.stop - x.start)) (y.start + (y.stop - y.start))) (omega (arith, order, late, lx, ly))))
    go Greater e a =
        let back : place_cmp y x ≡ Less = places_total.antisymm y x ∙ ap ordering_reverse e in
        absurd (true≢false (sym (ap (λ o. is_lt (ordering_then o (nat_cmp y.start x.start))) back) ∙ up))

-- ---- of both sides alike

common_either : (x y : BookingRow) → common x y ≡ true → common y x ≡ true
common_either x y e =
    let there = ltb-true (max x.start y.start) (min (x.start + (x.stop - x.start)) (y.start + (y.stop - y.start))) e in
    lt-ltb (max y.start x.start) (min (y.start + (y.stop - y.start)) (x.start + (x.stop - x.start))) (omega (arith, there))

overlap_either : (x y : BookingRow) → do_rows_overlap x y ≡ true → do_rows_overlap y x ≡ true
overlap_either x y e =
    let parts = and_parts (bytes_eq x.room y.room) (same_date x.day y.day && common x y) e in
    let day = and_parts (same_date x.day y.day) (common x y) parts.1 in
    and_from (bytes_eq y.room x.room) (same_date y.day x.day && common y x) ((bytes_eq-Decides y.room x.room).1 (sym ((bytes_eq-Decides x.room y.room).0 parts.0)))
    (and_from (same_date y.day x.day) (common y x) (same_date_from y.day x.day (sym (same_date-true x.day y.day day.0))) (common_either x y day.1))

pub overlap_alike : (x y : BookingRow) → do_rows_overlap x y ≡ do_rows_overlap y x
overlap_alike x y = both_ways (do_rows_overlap x y) (do_rows_overlap y x) (overlap_either x y) (overlap_either y x)

pub rows_apart : (rows : List BookingRow) → apart do_rows_overlap rows ≡ are_rows_apart rows
rows_apart [] = refl
rows_apart (row ∷ rows) = ap (λ b. list_all (λ other. not (do_rows_overlap row other)) rows && b) (rows_apart rows)
