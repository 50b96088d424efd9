use Rattle.std.proofs.Common.{rules}
use Rattle.std.proofs.lemmas.List.Sorted.{answers_always}
use Rattle.mr_tables.proofs.Rising.{rise_from}
use Rattle.mr_tables.proofs.Rising.{rise_in_order, in_order_rise}
use Rattle.mr_tables.proofs.table_row.is_in_order.Goals as goal

pub returns : goal.returns
returns g c =
    let before = g.R.TableRow.before in
    let key = g.R.TableRow.key in
    let rows = c.args.rows.now in
    let rise = rise_from before key rows c.is_sorted_by.result (c.is_sorted_by.ensures.cases (λ x y. before (key x) (key y)) (answers_always _ _ _ (λ f a r f' k. search rules))) in
    (λ yes. rise_in_order before key g.met.R.TableRow.order rows (rise.0 yes), λ order. rise.1 (in_order_rise before key rows order))
