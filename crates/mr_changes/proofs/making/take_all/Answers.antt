use Rattle.std.proofs.Common.{arith}
use Rattle.mr_rows.specs.TableSteps.{rows_taken}
use Rattle.mr_rows.proofs.StepLemmas.{taken_more, taken_none}
use Rattle.mr_changes.proofs.StepLemmas.{step_none, step_then, begins, goes_on_at, all_made}
use Rattle.mr_changes.proofs.making.take_all.Goals as goal

pub gone-init : goal.gone-init
gone-init g c = (step_none g.S.Store c.args.store.now, λ clean. begins (g.S.Store.view c.args.store.now) _ (c.requires.fit clean))

pub take_row-requires : goal.take_row-requires
take_row-requires g c = record { fit = λ clean. (c.gone.invariant.1 clean).fit }

pub returns-in_err-take_row-clause-step : goal.returns-in_err-take_row-clause-step
returns-in_err-take_row-clause-step g c = step_then g.S.Store c.args.store.now c.gone.store c.take_row.new.store c.gone.invariant.0 c.take_row.ensures.step

pub gone-preserved : goal.gone-preserved
gone-preserved g c = (
  step_then g.S.Store c.args.store.now c.gone.store c.take_row.new.store c.gone.invariant.0 c.take_row.ensures.step,
  λ clean.
      goes_on_at (g.S.Store.view c.args.store.now) (g.S.Store.view c.gone.store) (g.S.Store.view c.take_row.new.store)
      (rows_taken g.R.IdRow.id_of g.R.OurRow.rows_of g.R.OurRow.with_rows) c.args.gone.now c.gone.id-index c.id-item.result _
      (taken_more g.R.StoredRow.form g.R.OurRow.rows_of g.R.OurRow.with_rows g.met.R.OurRow.is_ours g.R.IdRow.id_of) c.gone-test.true c.id-item.is
      (c.gone.invariant.1 (c.take_row.ensures.step.clean clean)) (c.in_ok-take_row.ensures.taken clean),
)

pub returns-clause-made : goal.returns-clause-made
returns-clause-made g c clean =
    all_made (g.S.Store.view c.args.store.now) (g.S.Store.view c.gone.store) (rows_taken g.R.IdRow.id_of g.R.OurRow.rows_of g.R.OurRow.with_rows) c.args.gone.now c.gone.id-index
    (taken_none g.R.StoredRow.form g.R.OurRow.rows_of g.R.OurRow.with_rows g.met.R.OurRow.is_ours g.R.IdRow.id_of) (omega (arith, c.gone-test.false)) (c.gone.invariant.1 clean)
