use Rattle.std.proofs.Common.{ap, ◌∙◌, subst, ok_or}
use Rattle.mr_model.specs.Refusals.{BadPosition}
use Rattle.mr_model.proofs.PositionsReadBack.{read-position_text}
use Rattle.mr_base.specs.Answers.{Gives}
use Rattle.mr_model.specs.Positions.{read_position}
use Rattle.mr_wire.proofs.AnswerLaws.{ok_position}
use Rattle.mr_wire.proofs.positions.read_position.Goals as goal

pub returns-clause-reads : goal.returns-clause-reads
returns-clause-reads c = ok_position c.args.bytes.now c.position_or_refusal.result c.position_or_refusal.ensures.exact

pub returns-clause-all_read : goal.returns-clause-all_read
returns-clause-all_read c p ok is = subst (λ o. Gives c.position_or_refusal.result (ok_or o BadPosition)) (ap read_position is ∙ read-position_text p ok) c.position_or_refusal.ensures.exact
