use Rattle.std.proofs.Common.{map, subst, rules}
use Rattle.std.specs.Prelude.{IfOk}
use Rattle.std.specs.BTreeMap.{IsFromIterResult}
use Rattle.std.specs.BTreeSet.{IsFromIterResult as IsSetFromIterResult}
use Rattle.std.proofs.lemmas.Iterator.{YieldsList-from_map, YieldsList-from_slice}
use Rattle.std.proofs.lemmas.Iterator.Adapters.{fact_from_collect, YieldsList-from_vec}
use Rattle.std.proofs.lemmas.Iterator.Consumers.{YieldsList-at}
use Rattle.mr_base.specs.Ids.{id_cmp}
use Rattle.mr_replica.specs.RowKeys.{row_key_cmp}
use Rattle.mr_replica.proofs.MadeRows.{made_rows, made_table, paired}
use Rattle.mr_replica.proofs.indexed.Indexed.of.Goals as goal

pub invariant_of-result : goal.invariant_of-result
invariant_of-result g c =
    let id = g.R.IdRow.id in
    let key = g.R.KeyedRow.second_key in
    let rows = c.args.rows.items in
    made_table id key rows c.in_ok-rows.rows c.in_ok-keys.keys (g.met.R.IdRow.by_id rows c.requires)
    (subst (λ r. IfOk r (IsFromIterResult id_cmp (map (paired id) rows))) c.in_ok-rows.was
    (fact_from_collect (IsFromIterResult id_cmp) c.collect-2.result c.collect-2.ensures.ran (YieldsList-from_map _ (paired id)
    (YieldsList-at c.map-pairs.ensures.source (YieldsList-from_vec rows c.into_iter.ensures.rest (search rules))) c.map-pairs.ensures.closure (λ x r q k. search rules))))
    (subst (λ r. IfOk r (IsSetFromIterResult row_key_cmp (map key rows))) c.in_ok-keys.was
    (fact_from_collect (IsSetFromIterResult row_key_cmp) c.collect.result c.collect.ensures.ran
    (YieldsList-from_map _ key (YieldsList-at c.map.ensures.source (YieldsList-from_slice rows (search rules))) c.map.ensures.closure (λ x r q k. search rules))))

pub returns : goal.returns
returns g c =
    let id = g.R.IdRow.id in
    let rows = c.args.rows.items in
    made_rows id rows c.in_ok-rows.rows (g.met.R.IdRow.by_id rows c.requires)
    (subst (λ r. IfOk r (IsFromIterResult id_cmp (map (paired id) rows))) c.in_ok-rows.was
    (fact_from_collect (IsFromIterResult id_cmp) c.collect-2.result c.collect-2.ensures.ran (YieldsList-from_map _ (paired id)
    (YieldsList-at c.map-pairs.ensures.source (YieldsList-from_vec rows c.into_iter.ensures.rest (search rules))) c.map-pairs.ensures.closure (λ x r q k. search rules))))
