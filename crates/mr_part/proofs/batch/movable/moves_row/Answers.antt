use Rattle.std.proofs.Common.{◌∙◌, ◌&&◌, sym, eq-eqb}
use Rattle.mr_part.specs.Moves.{moves_in}
use Rattle.mr_part.proofs.batch.movable.moves_row.Goals as goal

pub returns-then-row-eq0 : goal.returns-then-row-eq0
returns-then-row-eq0 c = λ touched items commits moving.
    let row = c.args.row.now in
    c.may_move.ensures touched items commits moving ∙ (λ i. sym (eq-eqb row.seq 0 c.if-row-eq0.true) i && moves_in touched items commits row.write)
