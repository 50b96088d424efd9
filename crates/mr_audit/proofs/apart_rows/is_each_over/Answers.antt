use Rattle.std.proofs.Common.{rules, Bor, true, ◌≡◌}
use Rattle.std.proofs.lemmas.List.Sorted.{answers_always}
use Rattle.std.proofs.lemmas.List.Sums.{AllPass-from_list_all}
use Rattle.std.specs.Ordering.{is_lt}
use Rattle.mr_model.specs.Tables.{BookingRow}
use Rattle.mr_agree.specs.Agreeing.{do_rows_overlap}
use Rattle.mr_audit.specs.Apart.{start_cmp, is_next_booking, is_positive}
use Rattle.mr_audit.proofs.Apart.{apart_answer}
use Rattle.mr_audit.proofs.NextBookings.{booking_joins, next_apart, not_next}
use Rattle.mr_audit.proofs.apart_rows.is_each_over.Goals as goal

pub returns : goal.returns
returns c = λ sorted long.
    let P : Bor BookingRow → Type 0 = λ r. is_positive r.now ≡ true in
    apart_answer (λ (x y : Bor BookingRow). is_lt (start_cmp x.now y.now)) (λ x y. is_next_booking x.now y.now) (λ x y. do_rows_overlap x.now y.now) P
    (λ x y z good. booking_joins x.now y.now z.now good) (λ x y. next_apart x.now y.now) (λ x y g h. not_next x.now y.now g h) c.args.rows.now
    (AllPass-from_list_all (λ (r : Bor BookingRow). is_positive r.now) c.args.rows.now long) sorted c.is_sorted_by.result
    (c.is_sorted_by.ensures.cases (λ x y. is_next_booking x.now y.now) (answers_always _ _ _ (λ f a r f' k. search rules)))
