-- What the lines of a script are read as.
use Rattle.std.specs.Prelude.{◌≡◌, true, Err}
use Rattle.std.specs.Bool.{⊤}
use Rattle.mr_model.specs.Texts.{Text}
use Rattle.mr_service.specs.Stepping.{step_of}
use Rattle.mr_tasks.specs.RehearsalScript.{is_passed_over, IsScriptLine, IsBad, ReadsAsScript}
use Rattle.mr_tasks.specs.declared.script.ScriptFault.{ScriptFault}
use Rattle.mr_tasks.specs.declared.script.ScriptFault.TheVariants.{BadLine, OutOfMemory}
use Rattle.mr_tasks.specs.declared.script.ScriptLine.{ScriptLine}
use Rattle.mr_tasks.specs.declared.script.ScriptLine.TheVariants as line

-- what a line is
abbrev pub IsLineAs : Text → ScriptLine → Type 0
IsLineAs text line.PassedOver = is_passed_over text ≡ true
IsLineAs text (line.Step step) = IsScriptLine text (step_of step)
IsLineAs text line.Bad = IsBad text

-- why a script is not run; want of memory may come at any
abbrev pub IsFaultOf : Text → ScriptFault → Type 0
IsFaultOf bytes (BadLine number) = ReadsAsScript bytes (Err number)
IsFaultOf bytes OutOfMemory = ⊤
