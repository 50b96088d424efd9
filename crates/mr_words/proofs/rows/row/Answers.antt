use Rattle.std.proofs.Common.{◌≡◌, sym, subst, ◌∙◌, map, Some, None, IfOk}
use Rattle.std.specs.Prelude.{MatchOption}
use Rattle.mr_words.specs.CommandTable.{Ask, asking, commands, other_rows}
use Rattle.mr_words.specs.InvocationRead.{asked_of}
use Rattle.mr_words.proofs.TableRows.{NoneNamed, behind_rows, rows_behind}
use Rattle.mr_words.proofs.rows.row.Goals as goal

pub returns-in_default : goal.returns-in_default
returns-in_default c =
    let words = map (λ w. w.now) c.args.words.now in
    let at = c.in_default in
    let none : NoneNamed c.args.name.now other_rows = (at.not-init, (at.not-export, (at.not-import, (at.not-rehearse, (at.not-serve, (at.not-exchange, (at.not-bridge, tt))))))) in
    subst (λ o. IfOk c.ask.result (λ found. MatchOption found (o ≡ None) (λ i. o ≡ Some (asked_of i))))
    (sym (rows_behind other_rows (map (λ command. (command.0, asking command.1)) commands) c.args.name.now words none
    ∙ behind_rows Some Ask commands c.args.name.now words))
    c.ask.ensures
