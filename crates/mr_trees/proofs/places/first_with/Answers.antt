use Rattle.std.proofs.Common.{◌≡◌, ◌<◌, length, arith}
use Rattle.mr_model.specs.Writes.{same_id}
use Rattle.mr_trees.proofs.TableLemmas.{first_kept, none_kept}
use Rattle.mr_trees.proofs.places.first_with.Goals as goal

pub returns-then-is_empty : goal.returns-then-is_empty
returns-then-is_empty g c =
    let none : length c.keep_with.new.rows.items ≡ 0 = grind arith in
    none_kept (λ row. same_id (g.R.AskedRow.id_of row) c.args.id) c.args.rows.items c.keep_with.new.rows.items c.keep_with.ensures none

pub returns : goal.returns
returns g c =
    let some : 0 < length c.keep_with.new.rows.items = grind arith in
    first_kept (λ row. same_id (g.R.AskedRow.id_of row) c.args.id) c.args.rows.items c.keep_with.new.rows.items c.swap_remove.result c.keep_with.ensures some c.swap_remove.ensures.value
