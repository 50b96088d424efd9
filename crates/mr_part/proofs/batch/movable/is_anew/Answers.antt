use Rattle.std.proofs.Common.{◌≡◌, ◌∙◌, ◌||◌, nat_lt, false, sym, arith}
use Rattle.std.proofs.lemmas.Bool.Decides.{nat_tests}
use Rattle.mr_part.specs.Moves.{moves_row}
use Rattle.mr_part.proofs.batch.movable.is_anew.Goals as goal

pub returns-else-row-commits : goal.returns-else-row-commits
returns-else-row-commits c = λ touched items moving.
    let row = c.args.row.now in
    let known = c.if-row-commits.false in
    let old : nat_lt c.args.commits row.seq ≡ false = grind (arith, nat_tests) in
    c.moves_row.ensures touched items c.args.commits moving ∙ (λ t. sym old t || moves_row touched items c.args.commits row)
