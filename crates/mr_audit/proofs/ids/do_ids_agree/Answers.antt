use Rattle.std.proofs.Common.{◌∙◌, ◌&&◌, ap, eqb, List}
use Rattle.std.specs.List.{sum_by}
use Rattle.mr_model.specs.Tables.{Tables, VectorRow}
use Rattle.mr_audit.proofs.IdsApart.{tables_apart}
use Rattle.mr_audit.proofs.ids.do_ids_agree.Goals as goal

pub returns : goal.returns
returns c =
    let apart = c.are_tables_apart-apart.ensures ∙ tables_apart c.args.tables.now c.requires in
    let count = c.write_count.ensures ∙ ap (λ (rows : List VectorRow). sum_by (λ (r : VectorRow). r.count) rows) (c.deref.ensures.value ∙ ap (λ (t : Tables). t.vector) c.tables.view_is) in
    λ i. (c.are_all_counted-counted.ensures i && apart i) && eqb (c.row_count.ensures i) (count i)
