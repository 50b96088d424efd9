use Rattle.std.proofs.Common.{◌≡◌, None, sym, ap, ◌∙◌}
use Rattle.std.specs.Map.{values_of}
use Rattle.mr_replica.specs.RowKeys.{row_of_key, IndexView}
use Rattle.mr_replica.proofs.ByKeys.{index_forget, none_copied}
use Rattle.mr_replica.proofs.indexed.Indexed.forget.Goals as goal

pub invariant_of-self : goal.invariant_of-self
invariant_of-self g c =
    let id = g.R.IdRow.id in
    let key = g.R.KeyedRow.second_key in
    let k = c.second_key-key.result in
    let rows = values_of c.self.inside.rows.entries in
    let none : row_of_key id key rows k ≡ None = ap (λ v. row_of_key id key (IndexView.rows v) k) c.self.view_is
    ∙ sym c.row_at.ensures ∙ none_copied (λ x. x.now) c.row_at.result c.is_none.result c.is_none.ensures c.if-is_none.true in
    record {
      keyed = c.self.invariant.keyed;
      index = index_forget id key g.met.R.KeyedRow.has_id k rows c.self.inside.keys c.remove.new.self c.self.invariant.index none c.remove.ensures.updates.0;
    }
