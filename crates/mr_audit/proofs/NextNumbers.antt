-- Commit numbers of notes, from one to the next in their order.
use Rattle.std.proofs.Common.{◌≡◌, true, false, not, arith, tests}
use Rattle.std.specs.Ordering.{is_lt, nat_cmp}
use Rattle.std.proofs.lemmas.Bool.Decides.{nat_tests}
use Rattle.mr_agree.specs.Agreeing.{Note}
use Rattle.mr_audit.specs.Apart.{do_numbers_differ, is_next_number}

-- the next one's next is a next one
pub next_joins : (x y z : Note) → is_next_number x y ≡ true → is_next_number y z ≡ true → is_next_number x z ≡ true
next_joins x y z p q = grind (arith, nat_tests, tests)

-- the next one differs
pub next_differs : (x y : Note) → is_next_number x y ≡ true → not (do_numbers_differ x y) ≡ false
next_differs x y p = grind (arith, nat_tests, tests)

-- one that is not the next, though it is not before, is of another write with the same number
pub same_number : (x y : Note) → is_lt (nat_cmp y.seq x.seq) ≡ false → is_next_number x y ≡ false → not (do_numbers_differ x y) ≡ true
same_number x y up p = grind (arith, nat_tests, tests)

pub differ_alike : (x y : Note) → do_numbers_differ x y ≡ do_numbers_differ y x
differ_alike x y = grind (arith, nat_tests, tests)

pub differ_self : (x : Note) → do_numbers_differ x x ≡ true
differ_self x = grind (arith, nat_tests, tests)
