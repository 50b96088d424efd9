use Rattle.mr_part.proofs.Submitting.{submission_is_request, cancel_is_request, other_cancels_refused}
use Rattle.mr_replica.proofs.submission_law.Goals as goal

pub returns-clause-submission : goal.returns-clause-submission
returns-clause-submission c = submission_is_request

pub returns-clause-cancellation : goal.returns-clause-cancellation
returns-clause-cancellation c = cancel_is_request

pub returns-clause-others : goal.returns-clause-others
returns-clause-others c = other_cancels_refused
