use Rattle.std.proofs.Common.{rules}
use Rattle.std.proofs.lemmas.List.Sorted.{answers_always}
use Rattle.mr_tables.specs.Change.{id_before}
use Rattle.mr_tables.specs.TableOrders.{id_order}
use Rattle.mr_tables.proofs.Rising.{rise_from, rise_in_order, in_order_rise}
use Rattle.mr_audit.proofs.id_rows.are_rising.Goals as goal

pub returns : goal.returns
returns g c =
    let key = g.R.IdRow.id in
    let rise = rise_from id_before key c.args.rows.now c.is_sorted_by.result (c.is_sorted_by.ensures.cases (λ x y. id_before (key x) (key y)) (answers_always _ _ _ (λ f a r f' k. search rules))) in
    (λ t. rise_in_order id_before key id_order c.args.rows.now (rise.0 t), λ order. rise.1 (in_order_rise id_before key c.args.rows.now order))
