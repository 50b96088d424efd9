use Rattle.std.proofs.Common.{ap, ◌∙◌}
use Rattle.std.specs.List.{find}
use Rattle.mr_model.specs.Writes.{same_id}
use Rattle.mr_replica.specs.RowKeys.{IndexView}
use Rattle.mr_replica.proofs.RowsById.{found}
use Rattle.mr_replica.proofs.indexed.Indexed.get.Goals as goal

pub returns-clause-row : goal.returns-clause-row
returns-clause-row g c =
    let id = g.R.IdRow.id in
    let i = c.args.id in
    c.get.ensures.value ∙ found id c.self.inside.rows.entries i c.self.invariant.keyed ∙ ap (λ v. find (λ r. same_id (id r) i) (IndexView.rows v)) c.self.view_is
