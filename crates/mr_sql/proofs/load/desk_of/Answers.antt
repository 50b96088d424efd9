use Rattle.mr_sql.proofs.load.desk_of.Goals as goal

pub returns-in-Ok-clause-stands : goal.returns-in-Ok-clause-stands
returns-in-Ok-clause-stands c a stands = c.in-Ok.ensures.desk a stands.sound stands.are

pub returns-in-Err-clause-only : goal.returns-in-Err-clause-only
returns-in-Err-clause-only c a stands = c.error_for.ensures (c.in-Err.ensures.only a stands.sound stands.are)
