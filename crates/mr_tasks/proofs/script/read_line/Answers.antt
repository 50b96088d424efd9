use Rattle.std.proofs.Common.{◌≡◌, sym, ◌∙◌, true}
use Rattle.mr_tasks.specs.RehearsalScript.{is_printable}
use Rattle.mr_service.specs.Stepping.{step_of}
use Rattle.mr_tasks.proofs.ScriptLines.{reading_stands_at, plain_text}
use Rattle.mr_tasks.proofs.script.read_line.Goals as goal

pub returns-in-Ok : goal.returns-in-Ok
returns-in-Ok c =
    let plain : is_printable c.args.line.now ≡ true = sym c.is_plain.ensures ∙ c.if-not-is_plain.false in
    reading_stands_at c.args.line.now c.in-Ok.text.now step_of c.read_step.result c.in-Ok.ensures.cases.0 plain c.read_step.ensures

pub returns-in-Err : goal.returns-in-Err
returns-in-Err c = λ s h. c.in-Err.ensures.cases.0 (plain_text c.args.line.now h.plain)
