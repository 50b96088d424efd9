use Rattle.std.proofs.Common.{not, sym, subst, ap, List, Bool, ◌∙◌, nat_cmp}
use Rattle.std.specs.List.Sorted.{IsSortedByKey}
use Rattle.mr_agree.specs.Agreeing.{Note, notes}
use Rattle.mr_audit.specs.Apart.{do_numbers_differ, apart}
use Rattle.mr_audit.proofs.Apart.{apart-permutation, apart_of_all}
use Rattle.mr_audit.proofs.NextNumbers.{differ_alike, differ_self}
use Rattle.mr_audit.proofs.commit_numbers.are_numbers_single.Goals as goal

pub returns-clause-single : goal.returns-clause-single
returns-clause-single c =
    let C : Note → Note → Bool = λ a b. not (do_numbers_differ a b) in
    let same = c.deref.ensures.value in
    let sorted = subst (λ (xs : List Note). IsSortedByKey (λ a. a.seq) nat_cmp xs) (sym same) c.sort_notes.ensures.sorted in
    let all = c.in_ok-notes.ensures.notes in
    c.are_in_order.ensures sorted ∙ ap (λ (xs : List Note). apart C xs) same
    ∙ sym (apart-permutation C (λ x y. ap not (differ_alike x y)) c.in_ok-notes.notes.items c.sort_notes.new.notes.items c.sort_notes.ensures.moved)
    ∙ ap (λ (xs : List Note). apart C xs) all
    ∙ apart_of_all do_numbers_differ differ_self differ_alike (notes c.args.tables.now)
