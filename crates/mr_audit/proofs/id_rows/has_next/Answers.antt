use Rattle.std.proofs.Common.{not, sym, ap, ◌∙◌, ◌<◌, length, arith, rules}
use Rattle.std.proofs.lemmas.List.Sorted.{IsPartitionPoint-from_clause}
use Rattle.mr_model.specs.Writes.{Id, same_id}
use Rattle.mr_agree.specs.Agreeing.{next_id}
use Rattle.mr_tables.specs.Change.{id_before}
use Rattle.mr_audit.proofs.SortedIds.{absent, there_alike, parted_behind, next_point}
use Rattle.mr_audit.proofs.id_rows.has_next.Goals as goal

pub returns-then-at-rows : goal.returns-then-at-rows
returns-then-at-rows g c =
    let key = g.R.IdRow.id in
    let id = c.args.id in
    let rows = c.args.rows.now in
    let at = c.partition_point-at.result in
    let point = IsPartitionPoint-from_clause (λ r. not (id_before id (key r))) _ _ c.partition_point-at.ensures.partitioned (parted_behind key id rows c.requires) (λ a r q k. search rules) in
    sym (absent key (next_id id) rows at c.requires (next_point key id rows at point) (search rules))

pub returns : goal.returns
returns g c =
    let key = g.R.IdRow.id in
    let id = c.args.id in
    let rows = c.args.rows.now in
    let at = c.partition_point-at.result in
    let within : at < length rows = omega arith in
    let point = IsPartitionPoint-from_clause (λ r. not (id_before id (key r))) _ _ c.partition_point-at.ensures.partitioned (parted_behind key id rows c.requires) (λ a r q k. search rules) in
    c.is_next_id.ensures ∙ ap (λ (i : Id). same_id i (next_id id)) (c.write_id.ensures ∙ ap key c.index-rows-at.is)
    ∙ there_alike key (next_id id) rows at c.requires (next_point key id rows at point) c.index-rows-at.result within
