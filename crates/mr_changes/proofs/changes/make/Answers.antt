use Rattle.std.proofs.lemmas.Result.{on_ok_weaker}
use Rattle.mr_rows.specs.ChangeParts.{heads_put}
use Rattle.mr_changes.proofs.StepLemmas.{makes_then, step_then}
use Rattle.mr_changes.proofs.changes.make.Goals as goal

pub returns-clause-made : goal.returns-clause-made
returns-clause-made g c =
    on_ok_weaker c.put_heads.result
    (λ made clean.
    makes_then (g.S.Store.view c.args.store.now) (g.S.Store.view c.make_rows.new.store) (g.S.Store.view c.put_heads.new.store) _
    (heads_put c.args.change.now) (c.in_ok-make_rows.ensures.made (c.put_heads.ensures.step.clean clean)) (made clean)) c.put_heads.ensures.made

pub returns-clause-step : goal.returns-clause-step
returns-clause-step g c = step_then g.S.Store c.args.store.now c.make_rows.new.store c.put_heads.new.store c.make_rows.ensures.step c.put_heads.ensures.step
