use Rattle.std.proofs.Common.{sym, ap, ◌∙◌, subst}
use Rattle.mr_model.specs.Positions.{read_position}
use Rattle.mr_wire.specs.LineAnswers.{GivesRead}
use Rattle.mr_wire.proofs.PositionTexts.{position_is, no_text, no_end}
use Rattle.mr_wire.proofs.positions.position_of.Goals as goal

pub returns-in_default : goal.returns-in_default
returns-in_default c = no_text c.args.bytes.now c.in_default.ensures.cases.0

pub returns-then-ends_in_line : goal.returns-then-ends_in_line
returns-then-ends_in_line c = subst (λ o. GivesRead (λ p. p) c.position_of_lines.result o)
    (position_is c.in-Ok.text.now (sym c.ends_in_line.ensures ∙ c.if-ends_in_line.true) ∙ ap read_position c.in-Ok.ensures.cases.0) c.position_of_lines.ensures

pub returns-else-ends_in_line : goal.returns-else-ends_in_line
returns-else-ends_in_line c = sym (ap read_position c.in-Ok.ensures.cases.0) ∙ no_end c.in-Ok.text.now (sym c.ends_in_line.ensures ∙ c.if-ends_in_line.false)
