use Rattle.mr_tasks.proofs.asking.ask.Goals as goal

pub returns : goal.returns
returns g c = (c.ask.ensures.served, c.ask.ensures.replied)
