use Rattle.std.proofs.Common.{◌≡◌, ◌∙◌, ◌&&◌, ◌||◌, nat_lt, true, ap, sym, arith}
use Rattle.std.proofs.lemmas.Bool.Decides.{nat_tests}
use Rattle.mr_model.specs.Writes.{same_id}
use Rattle.mr_base.specs.Batches.{item_of}
use Rattle.mr_part.specs.Sets.{has_id}
use Rattle.mr_part.specs.Touched.{commits_id}
use Rattle.mr_part.proofs.Sets.{id_more}
use Rattle.mr_part.proofs.touched.Touched.add.Goals as goal

pub returns-in_ok-insert-in-C-clause-committed : goal.returns-in_ok-insert-in-C-clause-committed
returns-in_ok-insert-in-C-clause-committed c = λ id.
    let old = c.args.self.now.committed in
    let new = c.insert.new.self in
    let other = c.in-C.id in
    let number = c.number.ensures.value in
    let above = c.if-number-commits.true in
    let unknown : nat_lt c.args.commits c.in-C.seq ≡ true = grind (arith, nat_tests) in
    id_more old new other id c.in_ok-insert-in-C.ensures.updates
    ∙ (λ t. (sym unknown t && same_id other id) || has_id old id)
    ∙ ap (λ x. commits_id c.args.commits id (item_of x) || has_id old id) (sym c.in-C.is)
