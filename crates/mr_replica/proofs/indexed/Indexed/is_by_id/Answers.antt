use Rattle.std.proofs.Common.{map, subst}
use Rattle.std.specs.Map.{values_of}
use Rattle.mr_replay.specs.Holds.{AreDistinct}
use Rattle.mr_replica.specs.RowKeys.{IndexView}
use Rattle.mr_replica.proofs.RowsById.{distinct_ids}
use Rattle.mr_replica.proofs.indexed.Indexed.is_by_id.Goals as goal

pub returns : goal.returns
returns g c =
    let id = g.R.IdRow.id in
    subst (λ v. AreDistinct (map id (IndexView.rows v))) c.self.view_is (distinct_ids id (values_of c.self.inside.rows.entries) c.self.invariant.index.order)
