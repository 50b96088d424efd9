use Rattle.std.proofs.Common.{◌∙◌, Ok, arith}
use Rattle.sqlite.specs.Held.{state}
use Rattle.mr_rows.proofs.StepLemmas.{none_commits, put_more}
use Rattle.mr_rows.specs.TableSteps.{rows_put}
use Rattle.mr_first.proofs.FirstSteps.{goes_on_at, all_made, makes_put}
use Rattle.mr_first.proofs.puts.put_all.Goals as goal

pub rows-preserved : goal.rows-preserved
rows-preserved g c =
    let first = state g.S.Store c.args.tx.now.conn.now in
    let now = state g.S.Store c.rows.tx.conn.now in
    let next = state g.S.Store c.put_row.new.tx.conn.now in (
      c.put_row.ensures.same_reference ∙ c.rows.invariant.0,
      none_commits first now next c.rows.invariant.1 c.put_row.ensures.survives,
      goes_on_at first now next (rows_put g.R.StoredRow.form g.R.FirstRow.rows_of g.R.FirstRow.with_rows) c.args.rows.now c.rows.row-index c.row-item.result _
          (put_more g.R.StoredRow.form g.R.FirstRow.rows_of g.R.FirstRow.with_rows g.met.R.FirstRow.is_first) c.rows-test.true c.row-item.is c.rows.invariant.2
          (makes_put g.R.StoredRow.form g.R.FirstRow.rows_of g.R.FirstRow.with_rows g.met.R.FirstRow.is_first g.R.StoredRow.stands_in
          g.met.R.FirstRow.stands now next c.row-item.result (Ok (tt {0})) c.in_ok-put_row.ensures.put) c.put_row.ensures.survives,
    )

pub returns-clause-made : goal.returns-clause-made
returns-clause-made g c =
    all_made (state g.S.Store c.args.tx.now.conn.now) (state g.S.Store c.rows.tx.conn.now) (rows_put g.R.StoredRow.form g.R.FirstRow.rows_of g.R.FirstRow.with_rows)
    c.args.rows.now c.rows.row-index g.met.R.FirstRow.is_first.same (omega (arith, c.rows-test.false)) c.rows.invariant.2
