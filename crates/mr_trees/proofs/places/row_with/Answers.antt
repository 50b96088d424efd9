use Rattle.std.proofs.Common.{ap, sym, ◌∙◌, map}
use Rattle.std.specs.Prelude.{bytes_eq, find}
use Rattle.mr_model.specs.Writes.{same_id}
use Rattle.mr_trees.proofs.TableLemmas.{find_filtered}
use Rattle.mr_trees.proofs.places.row_with.Goals as goal

pub returns-clause-ok : goal.returns-clause-ok
returns-clause-ok g c clean =
    let all = map g.R.StoredRow.form.row_in ((g.S.Store.view c.args.store.now).trees g.R.StoredRow.form.table.tree) in
    sym (c.first_with.ensures ∙ ap (find (λ row. same_id (g.R.AskedRow.id_of row) c.args.id)) (c.in_ok-rows.ensures.ok clean)
    ∙ find_filtered (λ row. same_id (g.R.AskedRow.id_of row) c.args.id) (λ row. bytes_eq (g.R.AskedRow.room_of row) c.args.room.now) all)
