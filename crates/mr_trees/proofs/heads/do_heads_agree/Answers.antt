use Rattle.std.proofs.Common.{◌≡◌, ◌&&◌, ◌∙◌, map, ap, sym, arith}
use Rattle.sqlite_trees.specs.View.{View, IsClean}
use Rattle.mr_agree.specs.Agreeing.{does_meta_agree, do_counts_agree}
use Rattle.mr_model.specs.Tables.{Tables}
use Rattle.mr_rows.specs.Database.{first_meta}
use Rattle.mr_rows.specs.RowCells.{vector_row_from}
use Rattle.mr_trees.specs.Heads.{heads_in}
use Rattle.mr_trees.proofs.TableLemmas.{all_picked}
use Rattle.mr_trees.proofs.heads.do_heads_agree.Goals as goal

-- only the rows of `meta` and `vector` count
agree_by : (s t : Tables) → s.meta ≡ t.meta → s.vector ≡ t.vector → (does_meta_agree s && do_counts_agree s) ≡ (does_meta_agree t && do_counts_agree t)
agree_by s t m v = λ i. does_meta_agree (record t { meta = m i; vector = v i }) && do_counts_agree (record t { meta = m i; vector = v i })

pub returns-clause-agree : goal.returns-clause-agree
returns-clause-agree g c clean =
    let once : IsClean (g.S.Store.view c.only_meta.new.store) = omega (arith, c.scan.ensures.quiet.clean, clean) in
    let trees = (g.S.Store.view c.args.store.now).trees in
    let same = ap (λ (v : View). map vector_row_from (v.trees 4)) (c.in_ok-meta.ensures.same once) in
    let meta = c.bare_tables.ensures.meta ∙ ap first_meta (sym (c.in_ok-meta.ensures.ok once)) in
    let vector = c.bare_tables.ensures.vector ∙ c.in_ok-vector.ensures.ok clean ∙ ap (map vector_row_from) (all_picked _) ∙ same in
    c.do_numbers_agree-2.ensures ∙ agree_by c.bare_tables.result (heads_in trees) meta vector
