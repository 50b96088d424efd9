use Rattle.mr_wire.proofs.AnswerLaws.{one_batch}
use Rattle.mr_wire.proofs.writing.write_batch.Goals as goal

pub returns-clause-one : goal.returns-clause-one
returns-clause-one c = one_batch c.args.batch.now c.batch_bytes.result c.is_within_limits.ensures c.batch_bytes.ensures
