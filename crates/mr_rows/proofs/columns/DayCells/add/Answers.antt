use Rattle.std.proofs.Common.{◌++◌, [], ◌∷◌, ap, ◌∙◌}
use Rattle.std.proofs.lemmas.Result.{on_ok_weaker}
use Rattle.sqlite_value.specs.declared.value.Value.TheVariants.{Text}
use Rattle.mr_model.proofs.WordsReadBack.{date-text}
use Rattle.mr_rows.proofs.ColumnLemmas.{on_ok_any}
use Rattle.mr_rows.proofs.columns.DayCells.add.Goals as goal

pub returns-clause-added : goal.returns-clause-added
returns-clause-added c = on_ok_weaker c.put_cell.result (λ put. put ∙ ap (λ t. c.args.cells.now.items ++ Text t ∷ []) (c.as_str.ensures.value ∙ c.in_ok-text.ensures.0)) c.put_cell.ensures

pub returns-clause-again : goal.returns-clause-again
returns-clause-again c = on_ok_any c.put_cell.result (date-text c.args.self.now c.in_ok-text.ensures.1)
