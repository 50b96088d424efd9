use Rattle.std.proofs.Common.{◌∙◌, ap, subst, ℕ, ◌<◌, set}
use Rattle.mr_model.specs.Tables.{VectorRow}
use Rattle.mr_tables.specs.Tallied.{row_tally}
use Rattle.mr_tables.proofs.Tallying.{note_one, server_small}
use Rattle.mr_tables.proofs.vector.note_tallies.Goals as goal

pub loop-row-preserved : goal.loop-row-preserved
loop-row-preserved c = λ f e.
    let row = c.row-item.result in
    let server = c.number.ensures.value ∙ ap (λ (r : VectorRow). r.server) c.row.view_is in
    let small = subst (λ (n : ℕ). n < 100) server (server_small c.number.result c.number.ensures.in_range) in
    (λ i. set c.loop-row.tallies (server i) (row_tally (c.row.view_is i)))
    ∙ note_one c.args.rows.now c.loop-row.row-index row f c.loop-row.tallies c.loop-row-test.true c.row-item.is (c.loop-row.invariant f e) small
