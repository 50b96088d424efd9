use Rattle.std.proofs.Common.{sym, ap, ◌∙◌, subst, ◌<◌, length, arith, rules}
use Rattle.std.proofs.lemmas.List.Sorted.{IsPartitionPoint-from_clause}
use Rattle.mr_model.specs.Dropped.{Has}
use Rattle.mr_model.specs.Writes.{Id, same_id}
use Rattle.mr_model.proofs.Members.{same_id-true}
use Rattle.mr_tables.specs.Change.{id_before}
use Rattle.mr_audit.proofs.SortedIds.{parted, absent, other_there, index_has}
use Rattle.mr_audit.proofs.id_rows.find.Goals as goal

pub returns-then-at-rows : goal.returns-then-at-rows
returns-then-at-rows g c =
    let key = g.R.IdRow.id in
    let id = c.args.id in
    let point = IsPartitionPoint-from_clause (λ r. id_before (key r) id) _ _ c.partition_point-at.ensures.partitioned (parted key id c.args.rows.now c.requires) (λ a r q k. search rules) in
    absent key id c.args.rows.now c.partition_point-at.result c.requires point (search rules)

pub returns-then-eq : goal.returns-then-eq
returns-then-eq g c =
    let rows = c.args.rows.now in
    let row = c.index-rows-at.result in
    let within : c.partition_point-at.result < length rows = omega arith in (
      subst (λ r. Has r rows) (sym c.index-rows-at.is) (index_has rows c.partition_point-at.result row within),
      sym c.write_id.ensures ∙ same_id-true c.write_id.result c.args.id (sym c.eq.ensures ∙ c.if-eq.true),
    )

pub returns-else-eq : goal.returns-else-eq
returns-else-eq g c =
    let key = g.R.IdRow.id in
    let id = c.args.id in
    let row = c.index-rows-at.result in
    let within : c.partition_point-at.result < length c.args.rows.now = omega arith in
    let point = IsPartitionPoint-from_clause (λ r. id_before (key r) id) _ _ c.partition_point-at.ensures.partitioned (parted key id c.args.rows.now c.requires) (λ a r q k. search rules) in
    other_there key id c.args.rows.now c.partition_point-at.result c.requires point row within
    (ap (λ r. same_id (key r) id) (sym c.index-rows-at.is) ∙ ap (λ (i : Id). same_id i id) (sym c.write_id.ensures) ∙ sym c.eq.ensures ∙ c.if-eq.false)
