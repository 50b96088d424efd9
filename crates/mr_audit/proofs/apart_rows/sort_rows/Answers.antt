use Rattle.std.proofs.Common.{rules, Bor}
use Rattle.std.proofs.lemmas.List.Sorted.{ranks_by, answers_always}
use Rattle.mr_model.specs.Tables.{BookingRow}
use Rattle.mr_audit.proofs.NextBookings.{starts_total}
use Rattle.mr_audit.proofs.apart_rows.sort_rows.Goals as goal

pub returns-clause-sorted : goal.returns-clause-sorted
returns-clause-sorted c =
    c.sort_unstable_by.ensures.sorted _ (ranks_by starts_total (λ (r : Bor BookingRow). r.now)) (answers_always _ _ _ (λ f a r q k. search rules))
