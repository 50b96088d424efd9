use Rattle.std.proofs.Common.{ap, ◌∙◌, subst}
use Rattle.mr_base.specs.Versions.{version_of}
use Rattle.mr_wire.proofs.LineLaws.{line_is}
use Rattle.mr_wire.proofs.Ascii.{no_body_line}
use Rattle.mr_wire.specs.Fields.{parse_line}
use Rattle.mr_wire.specs.Lines.{line_seen}
use Rattle.mr_wire.specs.LineAnswers.{GivesRead}
use Rattle.mr_wire.proofs.lines.read_line.Goals as goal

pub returns-in-Ok : goal.returns-in-Ok
returns-in-Ok c = subst (λ o. GivesRead line_seen c.line_of.result o)
    (ap (parse_line (version_of c.args.version)) c.in-Ok.ensures.cases.0 ∙ line_is (version_of c.args.version) c.args.line.now) c.line_of.ensures

pub returns-in-Err : goal.returns-in-Err
returns-in-Err c = no_body_line (version_of c.args.version) c.args.line.now c.in-Err.ensures.cases.0
