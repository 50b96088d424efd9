use Rattle.mr_wire.proofs.AnswerLaws.{one_position}
use Rattle.mr_wire.proofs.writing.write_position.Goals as goal

pub returns-clause-one : goal.returns-clause-one
returns-clause-one c = one_position c.args.position.now c.position_bytes.result c.is_within_limits.ensures c.position_bytes.ensures
