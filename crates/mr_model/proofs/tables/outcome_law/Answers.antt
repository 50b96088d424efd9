use Rattle.mr_model.proofs.RowsTell.{outcome_is_row, booked_tell, erred_tell, cancelled_tell, cancel_tell, replies_tell}
use Rattle.mr_model.proofs.Orders.{submission_next, cancel_next}
use Rattle.mr_model.proofs.tables.outcome_law.Goals as goal

pub returns-clause-outcome : goal.returns-clause-outcome
returns-clause-outcome c = outcome_is_row

pub returns-clause-booked : goal.returns-clause-booked
returns-clause-booked c = booked_tell

pub returns-clause-logged : goal.returns-clause-logged
returns-clause-logged c = erred_tell

pub returns-clause-cancelled : goal.returns-clause-cancelled
returns-clause-cancelled c = cancelled_tell

pub returns-clause-cancels : goal.returns-clause-cancels
returns-clause-cancels c = cancel_tell

pub returns-clause-submission : goal.returns-clause-submission
returns-clause-submission c = replies_tell

pub returns-clause-accepted : goal.returns-clause-accepted
returns-clause-accepted c = submission_next

pub returns-clause-accepted_cancel : goal.returns-clause-accepted_cancel
returns-clause-accepted_cancel c = cancel_next
