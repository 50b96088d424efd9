use Rattle.std.proofs.Common.{rules}
use Rattle.std.proofs.lemmas.List.Sorted.{answers_always}
use Rattle.mr_replica.proofs.LogEnds.{sorted_between}
use Rattle.mr_replica.proofs.indexed.Indexed.ranged.Goals as goal

pub returns : goal.returns
returns g c =
    sorted_between g.R.IdRow.id g.R.KeyedRow.second_key c.args.first.now c.args.last.now c.args.self.now.rows c.in_ok-rows.rows.items
    c.sort_by_cached_key.new.self.items c.between.ensures.order c.in_ok-rows.ensures.found c.sort_by_cached_key.ensures.permutation
    (c.in_ok-sort_by_cached_key.ensures.sorted g.R.IdRow.id (answers_always _ _ _ (λ f a r q k. search rules)))
