use Rattle.std.proofs.Common.{rules}
use Rattle.std.proofs.lemmas.List.MinMax.{ranks_by}
use Rattle.std.proofs.lemmas.List.Sorted.{answers_always}
use Rattle.std.proofs.lemmas.Result.{on_ok_weaker}
use Rattle.mr_rows.proofs.RowOrder.{rows_total}
use Rattle.mr_rows.proofs.order.sort_rows.Goals as goal

pub returns-clause-sorted : goal.returns-clause-sorted
returns-clause-sorted g c = on_ok_weaker c.sort_by.result
    (λ sorted. sorted _ (ranks_by (rows_total g.R.TableRow.before g.R.TableRow.key g.met.R.TableRow.order) (λ row. row)) (answers_always _ _ _ (λ f a r q k. search rules))) c.sort_by.ensures.sorted
