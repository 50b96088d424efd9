use Rattle.mr_convergence.proofs.Meeting.{given_unless, given_with_primary, made_with_primary, convergence_possible, settlement_possible}
use Rattle.mr_convergence.proofs.offices.meeting_law.Goals as goal

pub returns-clause-given : goal.returns-clause-given
returns-clause-given c = given_unless

pub returns-clause-primary : goal.returns-clause-primary
returns-clause-primary c = given_with_primary

pub returns-clause-converging : goal.returns-clause-converging
returns-clause-converging c = convergence_possible

pub returns-clause-settling : goal.returns-clause-settling
returns-clause-settling c = settlement_possible

pub returns-clause-made : goal.returns-clause-made
returns-clause-made c = made_with_primary
