use Rattle.mr_sql.proofs.load.part_of.Goals as goal

pub returns-in-Ok-clause-part : goal.returns-in-Ok-clause-part
returns-in-Ok-clause-part c a sound same = c.in-Ok.ensures.part a sound same

pub returns-in-Err-clause-only : goal.returns-in-Err-clause-only
returns-in-Err-clause-only c a sound same = c.error_for.ensures (c.in-Err.ensures.only a sound same)
