use Rattle.std.proofs.Common.{◌∷◌, [], sym, ap, subst, ◌∙◌}
use Rattle.std.specs.Map.{values_of}
use Rattle.mr_tables.specs.Change.{rows_without}
use Rattle.mr_replica.specs.Keyed.{IsKeyed}
use Rattle.mr_replica.specs.RowKeys.{IndexView, AreRowsIndexed}
use Rattle.mr_replica.proofs.ByKeys.{index_without}
use Rattle.mr_replica.proofs.RowsById.{rows_taken, IsKeyed-taken}
use Rattle.mr_replica.proofs.indexed.Indexed.take.Goals as goal

pub invariant_of-self : goal.invariant_of-self
invariant_of-self g c =
    let id = g.R.IdRow.id in
    let old = c.self.inside.rows.entries in
    let i = c.args.id in
    record {
      keyed = subst (IsKeyed id) (sym c.remove.ensures.entries) (IsKeyed-taken id old i c.self.invariant.keyed);
      index = subst (λ rows. AreRowsIndexed id g.R.KeyedRow.second_key rows c.self.inside.keys) (sym (ap values_of c.remove.ensures.entries ∙ rows_taken id old i c.self.invariant.keyed))
          (index_without id g.R.KeyedRow.second_key g.met.R.KeyedRow.has_id i (values_of old) c.self.inside.keys c.self.invariant.index);
    }

pub returns-clause-rows : goal.returns-clause-rows
returns-clause-rows g c =
    let id = g.R.IdRow.id in
    ap values_of c.remove.ensures.entries ∙ rows_taken id c.self.inside.rows.entries c.args.id c.self.invariant.keyed ∙ ap (λ v. rows_without id (c.args.id ∷ []) (IndexView.rows v)) c.self.view_is
