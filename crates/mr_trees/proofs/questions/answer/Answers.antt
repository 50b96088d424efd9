use Rattle.std.proofs.Common.{sym, subst}
use Rattle.mr_store.specs.Answers.{IsAnswerTo}
use Rattle.mr_replica.specs.declared.questions.Question.{Question}
use Rattle.mr_replica.specs.declared.questions.Answer.TheVariants as told
use Rattle.mr_trees.specs.TreeTables.{tables_shown}
use Rattle.mr_trees.proofs.TableLemmas.{rooms_shown, errors_shown, cancelled_rows_shown, cancels_shown}
use Rattle.mr_trees.proofs.questions.answer.Goals as goal

pub returns-in_ok-scan-in-Rooms-clause-ok : goal.returns-in_ok-scan-in-Rooms-clause-ok
returns-in_ok-scan-in-Rooms-clause-ok g c clean =
    let trees = (g.S.Store.view c.args.store.now).trees in
    subst (λ (q : Question). IsAnswerTo q (tables_shown trees) (told.Rooms c.in_ok-scan-in-Rooms.field-0))
    (sym c.in-Rooms.is) (rooms_shown trees c.in_ok-scan-in-Rooms.field-0.items (c.in_ok-scan-in-Rooms.ensures.ok clean))

pub returns-in_ok-rows_in-in-Errors-clause-ok : goal.returns-in_ok-rows_in-in-Errors-clause-ok
returns-in_ok-rows_in-in-Errors-clause-ok g c clean =
    let trees = (g.S.Store.view c.args.store.now).trees in
    subst (λ (q : Question). IsAnswerTo q (tables_shown trees) (told.Errors c.in_ok-rows_in-in-Errors.field-0)) (sym c.in-Errors.is)
    (errors_shown c.in-Errors.room.now trees c.in_ok-rows_in-in-Errors.field-0.items (c.in_ok-rows_in-in-Errors.ensures.ok clean))

pub returns-in_ok-rows_in-in-Cancelled-clause-ok : goal.returns-in_ok-rows_in-in-Cancelled-clause-ok
returns-in_ok-rows_in-in-Cancelled-clause-ok g c clean =
    let trees = (g.S.Store.view c.args.store.now).trees in
    subst (λ (q : Question). IsAnswerTo q (tables_shown trees) (told.Cancelled c.in_ok-rows_in-in-Cancelled.field-0)) (sym c.in-Cancelled.is)
    (cancelled_rows_shown c.in-Cancelled.room.now trees c.in_ok-rows_in-in-Cancelled.field-0.items (c.in_ok-rows_in-in-Cancelled.ensures.ok clean))

pub returns-in_ok-rows_in-in-Cancels-clause-ok : goal.returns-in_ok-rows_in-in-Cancels-clause-ok
returns-in_ok-rows_in-in-Cancels-clause-ok g c clean =
    let trees = (g.S.Store.view c.args.store.now).trees in
    subst (λ (q : Question). IsAnswerTo q (tables_shown trees) (told.Cancels c.in_ok-rows_in-in-Cancels.field-0)) (sym c.in-Cancels.is)
    (cancels_shown c.in-Cancels.room.now trees c.in_ok-rows_in-in-Cancels.field-0.items (c.in_ok-rows_in-in-Cancels.ensures.ok clean))
