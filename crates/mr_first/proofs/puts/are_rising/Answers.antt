use Rattle.std.proofs.Common.{rules}
use Rattle.std.proofs.lemmas.List.Sorted.{answers_always}
use Rattle.mr_tables.proofs.Rising.{rise_from}
use Rattle.mr_first.proofs.puts.are_rising.Goals as goal

pub returns : goal.returns
returns g c =
    rise_from g.R.TableRow.before g.R.TableRow.key c.args.rows.now c.is_sorted_by.result
    (c.is_sorted_by.ensures.cases (λ x y. g.R.TableRow.before (g.R.TableRow.key x) (g.R.TableRow.key y)) (answers_always _ _ _ (λ f a r f' k. search rules)))
