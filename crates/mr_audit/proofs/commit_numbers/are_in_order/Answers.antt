use Rattle.std.proofs.Common.{rules, not, nat_cmp}
use Rattle.std.proofs.lemmas.List.Sorted.{answers_always}
use Rattle.std.specs.Ordering.{is_lt}
use Rattle.mr_agree.specs.Agreeing.{Note}
use Rattle.mr_audit.specs.Apart.{do_numbers_differ, is_next_number}
use Rattle.mr_audit.proofs.Apart.{apart_answer}
use Rattle.mr_audit.proofs.NextNumbers.{next_joins, next_differs, same_number}
use Rattle.mr_audit.proofs.commit_numbers.are_in_order.Goals as goal

pub returns : goal.returns
returns c = λ sorted.
    apart_answer (λ (x y : Note). is_lt (nat_cmp x.seq y.seq)) is_next_number (λ a b. not (do_numbers_differ a b)) (λ a. Unit {0})
    (λ x y z good. next_joins x y z) next_differs (λ x y g h. same_number x y) c.args.notes.now (λ k d low. tt) sorted c.is_sorted_by.result
    (c.is_sorted_by.ensures.cases is_next_number (answers_always _ _ _ (λ f a r f' k. search rules)))
