use Rattle.std.proofs.Common.{◌≡◌, sym, ap, subst, ◌∙◌, rules}
use Rattle.std.specs.BTreeSet.{keys_between}
use Rattle.std.specs.List.{filter_map}
use Rattle.std.specs.Range.{range_inclusive_start, range_inclusive_end}
use Rattle.std.specs.declared.ops.Bound.TheVariants.{Included}
use Rattle.mr_tables.specs.Change.{id_before}
use Rattle.mr_tables.specs.TableOrders.{InOrder}
use Rattle.mr_replica.specs.RowKeys.{row_key_cmp, row_of_key, AreBetween, AreRowsIndexed}
use Rattle.mr_replica.proofs.ByKeys.{between}
use Rattle.mr_replica.proofs.indexed.Indexed.between.Goals as goal

pub returns-clause-found : goal.returns-clause-found
returns-clause-found g c =
    let id = g.R.IdRow.id in
    let key = g.R.KeyedRow.second_key in
    let rows = c.args.self.now.rows in
    let keys = c.self.inside.keys in
    let first = c.args.first.now in
    let last = c.args.last.now in
    let start : range_inclusive_start c.new.result ≡ first = search rules in
    let end : range_inclusive_end c.new.result ≡ last = search rules in
    let there : c.into_iter-key-iterator.result ≡ keys_between row_key_cmp (Included (range_inclusive_start c.new.result)) (Included (range_inclusive_end c.new.result)) keys = search rules in
    let picked : c.loop-key.rows.items ≡ filter_map (row_of_key id key rows) c.into_iter-key-iterator.result = search rules in
    subst (AreBetween key first last rows)
    (sym (picked ∙ ap (filter_map (row_of_key id key rows)) (there ∙ (λ t. keys_between row_key_cmp (Included (start t)) (Included (end t)) keys))))
    (between id key g.met.R.KeyedRow.has_id rows first last keys (subst (λ v. AreRowsIndexed id key v.rows keys) c.self.view_is c.self.invariant.index) c.range-key-items.ensures.ordered)

pub returns-clause-order : goal.returns-clause-order
returns-clause-order g c = subst (λ v. InOrder id_before g.R.IdRow.id v.rows) c.self.view_is c.self.invariant.index.order
