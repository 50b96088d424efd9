use Rattle.std.proofs.lemmas.Result.{on_ok_weaker}
use Rattle.mr_rows.specs.ChangeParts.{change_put}
use Rattle.mr_changes.proofs.StepLemmas.{makes_then, step_then}
use Rattle.mr_changes.proofs.making.make_rows.Goals as goal

pub returns-clause-made : goal.returns-clause-made
returns-clause-made g c =
    on_ok_weaker c.put_rows.result
    (λ made clean.
    makes_then (g.S.Store.view c.args.store.now) (g.S.Store.view c.take_rows.new.store) (g.S.Store.view c.put_rows.new.store) _
    (change_put c.args.change.now) (c.in_ok-take_rows.ensures.made (c.put_rows.ensures.step.clean clean)) (made clean)) c.put_rows.ensures.made

pub returns-clause-step : goal.returns-clause-step
returns-clause-step g c = step_then g.S.Store c.args.store.now c.take_rows.new.store c.put_rows.new.store c.take_rows.ensures.step c.put_rows.ensures.step
