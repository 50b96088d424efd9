-- The order of a calendar's rows is a total order.
use Rattle.std.proofs.Common.{◌≡◌, ◌||◌, ◌&&◌, ◌==◌, nat_lt, Bool, true, false, cond, ap, refl, ◌∙◌}
use Rattle.std.specs.Ordering.{is_lt, nat_cmp, ordering_then}
use Rattle.std.specs.declared.cmp.Ordering.{Ordering}
use Rattle.std.specs.declared.cmp.Ordering.TheVariants.{Less, Equal, Greater}
use Rattle.std.specs.Cmp.{IsTotalOrder}
use Rattle.std.proofs.lemmas.Cmp.{on_total, nat_cmp_total, then_total}
use Rattle.mr_model.specs.Calendar.{Date, same_date, date_before}
use Rattle.mr_model.specs.Tables.{BookingRow}
use Rattle.mr_replica.specs.Order.{booking_cmp}
use Rattle.mr_replay.specs.Index.{day_cmp}
use Rattle.mr_replica.specs.Picked.{booking_before}

-- ---- the comparison is total

date_total : IsTotalOrder day_cmp
date_total =
    then_total (on_total (λ (d : Date). d.year) nat_cmp_total)
    (then_total (on_total (λ (d : Date). d.month) nat_cmp_total) (on_total (λ (d : Date). d.day) nat_cmp_total))

pub booking_total : IsTotalOrder booking_cmp
booking_total =
    then_total (on_total (λ (r : BookingRow). r.day) date_total)
    (then_total (on_total (λ (r : BookingRow). r.start) nat_cmp_total)
    (then_total (on_total (λ (r : BookingRow). r.server) nat_cmp_total) (on_total (λ (r : BookingRow). r.n) nat_cmp_total)))

-- ---- it answers less where a row stands before the other

-- by the two tests of nat_cmp, whatever they say
pub less : (b e : Bool) → is_lt (cond b Less (cond e Equal Greater)) ≡ b
less true e = refl
less false true = refl
less false false = refl

pub less_then : (b e : Bool) (o : Ordering) → is_lt (ordering_then (cond b Less (cond e Equal Greater)) o) ≡ (b || (e && is_lt o))
less_then true e o = refl
less_then false true o = refl
less_then false false o = refl

-- of three comparisons and what follows them
less_by_date : (b e c f d g : Bool) (o : Ordering)
    → is_lt (ordering_then (ordering_then (cond b Less (cond e Equal Greater)) (ordering_then (cond c Less (cond f Equal Greater)) (cond d Less (cond g Equal Greater)))) o)
    ≡ ((b || (e && (c || (f && d)))) || ((e && f && g) && is_lt o))
less_by_date true e c f d g o = refl
less_by_date false false c f d g o = refl
less_by_date false true true f d g o = refl
less_by_date false true false false d g o = refl
less_by_date false true false true true g o = refl
less_by_date false true false true false true o = refl
less_by_date false true false true false false o = refl

pub booking_cmp-before : (a b : BookingRow) → is_lt (booking_cmp a b) ≡ booking_before a b
booking_cmp-before a b =
    less_by_date (nat_lt a.day.year b.day.year) (a.day.year == b.day.year) (nat_lt a.day.month b.day.month) (a.day.month == b.day.month)
    (nat_lt a.day.day b.day.day) (a.day.day == b.day.day) (ordering_then (nat_cmp a.start b.start) (ordering_then (nat_cmp a.server b.server) (nat_cmp a.n b.n)))
    ∙ ap (λ x. date_before a.day b.day || (same_date a.day b.day && x)) by_start
  where
    by_server : is_lt (ordering_then (nat_cmp a.server b.server) (nat_cmp a.n b.n)) ≡ (nat_lt a.server b.server || (a.server == b.server && nat_lt a.n b.n))
    by_server =
        less_then (nat_lt a.server b.server) (a.server == b.server) (nat_cmp a.n b.n)
        ∙ ap (λ x. nat_lt a.server b.server || (a.server == b.server && x)) (less (nat_lt a.n b.n) (a.n == b.n))

    by_start : is_lt (ordering_then (nat_cmp a.start b.start) (ordering_then (nat_cmp a.server b.server) (nat_cmp a.n b.n)))
        ≡ (nat_lt a.start b.start || (a.start == b.start && (nat_lt a.server b.server || (a.server == b.server && nat_lt a.n b.n))))
    by_start =
        less_then (nat_lt a.start b.start) (a.start == b.start) (ordering_then (nat_cmp a.server b.server) (nat_cmp a.n b.n))
        ∙ ap (λ x. nat_lt a.start b.start || (a.start == b.start && x)) by_server
