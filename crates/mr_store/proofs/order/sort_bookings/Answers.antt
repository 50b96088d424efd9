use Rattle.std.proofs.Common.{rules, subst}
use Rattle.std.proofs.lemmas.List.Sorted.{ranks_by, answers_always}
use Rattle.std.proofs.lemmas.Result.{on_ok_weaker}
use Rattle.std.specs.List.Sorted.{IsSortedBy}
use Rattle.mr_replica.proofs.CalendarOrder.{booking_total, booking_cmp-before}
use Rattle.mr_store.proofs.order.sort_bookings.Goals as goal

pub returns-clause-sorted : goal.returns-clause-sorted
returns-clause-sorted c =
    on_ok_weaker c.sort_by.result
    (λ sorted. subst (λ lt. IsSortedBy lt c.sort_by.new.self.items) (λ i a b. booking_cmp-before a b i) (sorted _ (ranks_by booking_total (λ r. r)) (answers_always _ _ _ (λ f a r q k. search rules))))
    c.sort_by.ensures.sorted
