use Rattle.std.proofs.Common.{◌∙◌, Ok, arith}
use Rattle.sqlite.specs.Held.{state}
use Rattle.mr_rows.specs.TableSteps.{rows_taken}
use Rattle.mr_rows.proofs.StepLemmas.{goes_on_at, none_commits, all_made, makes_taken, taken_more, taken_none}
use Rattle.mr_rows.proofs.changes.take_all.Goals as goal

pub gone-preserved : goal.gone-preserved
gone-preserved g c =
    let first = state g.S.Store c.args.tx.now.conn.now in
    let now = state g.S.Store c.gone.tx.conn.now in
    let next = state g.S.Store c.take_by_id.new.tx.conn.now in (
      c.take_by_id.ensures.same_reference ∙ c.gone.invariant.0,
      none_commits first now next c.gone.invariant.1 c.take_by_id.ensures.survives,
      goes_on_at first now next (rows_taken g.R.RequestRow.id_of g.R.OurRow.rows_of g.R.OurRow.with_rows) c.args.gone.now c.gone.id-index c.id-item.result _
          (taken_more g.R.StoredRow.form g.R.OurRow.rows_of g.R.OurRow.with_rows g.met.R.OurRow.is_ours g.R.RequestRow.id_of) c.gone-test.true c.id-item.is c.gone.invariant.2
          (makes_taken g.R.StoredRow.form g.R.OurRow.rows_of g.R.OurRow.with_rows g.met.R.OurRow.is_ours g.R.RequestRow.id_of now next c.id-item.result
          (Ok (tt {0})) c.in_ok-take_by_id.ensures.taken) c.take_by_id.ensures.survives,
    )

pub returns-clause-made : goal.returns-clause-made
returns-clause-made g c =
    all_made (state g.S.Store c.args.tx.now.conn.now) (state g.S.Store c.gone.tx.conn.now) (rows_taken g.R.RequestRow.id_of g.R.OurRow.rows_of g.R.OurRow.with_rows) c.args.gone.now c.gone.id-index
    (taken_none g.R.StoredRow.form g.R.OurRow.rows_of g.R.OurRow.with_rows g.met.R.OurRow.is_ours g.R.RequestRow.id_of) (omega (arith, c.gone-test.false)) c.gone.invariant.2
