-- The order of a calendar's rows, as a comparison.
use Rattle.std.specs.Ordering.{on, nat_cmp, then_cmp}
use Rattle.std.specs.declared.cmp.Ordering.{Ordering}
use Rattle.mr_model.specs.Tables.{BookingRow}
use Rattle.mr_replay.specs.Index.{day_cmp}

-- by day, start, server and count
abbrev pub booking_cmp : BookingRow → BookingRow → Ordering
booking_cmp =
    then_cmp (on (λ r. r.day) day_cmp)
    (then_cmp (on (λ r. r.start) nat_cmp) (then_cmp (on (λ r. r.server) nat_cmp) (on (λ r. r.n) nat_cmp)))
