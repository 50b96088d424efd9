use Rattle.std.proofs.Common.{sym, ap, ◌∙◌}
use Rattle.mr_wire.proofs.HeaderLaws.{header_is}
use Rattle.mr_wire.proofs.Ascii.{no_header}
use Rattle.mr_wire.specs.Fields.{heading_of}
use Rattle.mr_wire.proofs.lines.read_header.Goals as goal

pub returns-in-Ok : goal.returns-in-Ok
returns-in-Ok c = c.heading_of.ensures ∙ ap heading_of c.in-Ok.ensures.cases.0 ∙ header_is c.args.line.now

pub returns-in-Err : goal.returns-in-Err
returns-in-Err c = sym (no_header c.args.line.now c.in-Err.ensures.cases.0)
