use Rattle.std.proofs.Common.{◌≡◌, ◌∙◌, ap, sym, subst, true, Bool, Bor, List}
use Rattle.std.proofs.lemmas.List.Folds.{list_all-map}
use Rattle.std.specs.List.{list_all}
use Rattle.std.specs.List.Sorted.{IsSortedBy}
use Rattle.std.specs.Ordering.{is_lt}
use Rattle.mr_model.specs.Tables.{BookingRow}
use Rattle.mr_agree.specs.Agreeing.{do_rows_overlap}
use Rattle.mr_audit.specs.Apart.{apart, start_cmp, is_positive}
use Rattle.mr_audit.proofs.Apart.{apart-permutation, apart-map, list_all-permutation}
use Rattle.mr_audit.proofs.NextBookings.{overlap_alike, rows_apart}
use Rattle.mr_audit.proofs.apart_rows.are_rows_apart.Goals as goal

pub returns-clause-apart : goal.returns-clause-apart
returns-clause-apart c = λ long.
    let C : Bor BookingRow → Bor BookingRow → Bool = λ x y. do_rows_overlap x.now y.now in
    let is_long : Bor BookingRow → Bool = λ x. is_positive x.now in
    let first = c.in_ok-sorted.sorted.items in
    let rows = c.in_ok-sorted.ensures.rows in
    let moved = c.sort_rows.ensures.moved in
    let same = c.deref.ensures.value in
    let first_long = list_all-map is_positive (λ (x : Bor BookingRow). x.now) first in
    let last_long = list_all-permutation is_long first c.sort_rows.new.rows.items moved (sym first_long ∙ ap (list_all is_positive) rows ∙ long) in
    let sorted = subst (λ (xs : List (Bor BookingRow)). IsSortedBy (λ a b. is_lt (start_cmp a.now b.now)) xs) (sym same) c.sort_rows.ensures.sorted in
    c.is_each_over.ensures sorted (subst (λ (xs : List (Bor BookingRow)). list_all is_long xs ≡ true) (sym same) last_long)
    ∙ ap (λ (xs : List (Bor BookingRow)). apart C xs) same
    ∙ sym (apart-permutation C (λ x y. overlap_alike x.now y.now) first c.sort_rows.new.rows.items moved)
    ∙ apart-map do_rows_overlap (λ (x : Bor BookingRow). x.now) first
    ∙ ap (λ (xs : List BookingRow). apart do_rows_overlap xs) rows
    ∙ rows_apart c.args.rows.now
