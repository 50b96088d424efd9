use Rattle.std.proofs.Common.{arith}
use Rattle.mr_rows.specs.TableSteps.{rows_put}
use Rattle.mr_rows.proofs.StepLemmas.{put_more}
use Rattle.mr_changes.proofs.StepLemmas.{step_none, step_then, begins, goes_on_at, all_made}
use Rattle.mr_changes.proofs.making.put_all.Goals as goal

pub rows-init : goal.rows-init
rows-init g c = (step_none g.S.Store c.args.store.now, λ clean. begins (g.S.Store.view c.args.store.now) _ (c.requires.fit clean))

pub put_row-requires : goal.put_row-requires
put_row-requires g c = record { fit = λ clean. (c.rows.invariant.1 clean).fit }

pub returns-in_err-put_row-clause-step : goal.returns-in_err-put_row-clause-step
returns-in_err-put_row-clause-step g c = step_then g.S.Store c.args.store.now c.rows.store c.put_row.new.store c.rows.invariant.0 c.put_row.ensures.step

pub rows-preserved : goal.rows-preserved
rows-preserved g c = (
  step_then g.S.Store c.args.store.now c.rows.store c.put_row.new.store c.rows.invariant.0 c.put_row.ensures.step,
  λ clean.
      goes_on_at (g.S.Store.view c.args.store.now) (g.S.Store.view c.rows.store) (g.S.Store.view c.put_row.new.store)
      (rows_put g.R.StoredRow.form g.R.OurRow.rows_of g.R.OurRow.with_rows) c.args.rows.now c.rows.row-index c.row-item.result _
      (put_more g.R.StoredRow.form g.R.OurRow.rows_of g.R.OurRow.with_rows g.met.R.OurRow.is_ours) c.rows-test.true c.row-item.is
      (c.rows.invariant.1 (c.put_row.ensures.step.clean clean)) (c.in_ok-put_row.ensures.put clean),
)

pub returns-clause-made : goal.returns-clause-made
returns-clause-made g c clean =
    all_made (g.S.Store.view c.args.store.now) (g.S.Store.view c.rows.store) (rows_put g.R.StoredRow.form g.R.OurRow.rows_of g.R.OurRow.with_rows)
    c.args.rows.now c.rows.row-index g.met.R.OurRow.is_ours.same (omega (arith, c.rows-test.false)) (c.rows.invariant.1 clean)
