use Rattle.std.proofs.Common.{ap, ◌∙◌}
use Rattle.std.specs.List.{list_any}
use Rattle.mr_model.specs.Writes.{same_id}
use Rattle.mr_replica.specs.RowKeys.{IndexView}
use Rattle.mr_replica.proofs.RowsById.{any_keyed}
use Rattle.mr_replica.proofs.indexed.Indexed.has.Goals as goal

pub returns : goal.returns
returns g c =
    let id = g.R.IdRow.id in
    c.contains_key.ensures ∙ any_keyed id c.self.inside.rows.entries c.args.id c.self.invariant.keyed ∙ ap (λ v. list_any (λ r. same_id (id r) c.args.id) (IndexView.rows v)) c.self.view_is
