use Rattle.std.proofs.Common.{◌≡◌, sym, subst, ◌∙◌, map, Some, None, IfOk}
use Rattle.std.specs.Prelude.{MatchOption}
use Rattle.mr_model.specs.World.{Step}
use Rattle.mr_service.specs.Stepping.{step_of}
use Rattle.mr_words.specs.CommandTable.{server_in}
use Rattle.mr_words.proofs.TableRows.{NoneNamed, behind_rows, rows_behind}
use Rattle.mr_tasks.specs.LineSteps.{at_server, own_rows, script_commands}
use Rattle.mr_tasks.proofs.lines.row_of.Goals as goal

pub returns-in_default : goal.returns-in_default
returns-in_default c =
    let words = map (λ w. w.now) c.args.words.now in
    let at = c.in_default in
    let none : NoneNamed c.args.name.now own_rows = (at.not-replica, (at.not-batch, (at.not-deliver, tt))) in
    subst (λ o. IfOk c.at_server.result (λ found. MatchOption found (o ≡ None) (λ step. o ≡ Some (step_of step))))
    (sym (rows_behind own_rows (map (λ command. (command.0, at_server command.1)) script_commands) c.args.name.now words none
    ∙ behind_rows server_in Step.Do script_commands c.args.name.now words))
    c.at_server.ensures
