use Rattle.std.proofs.Common.{rules}
use Rattle.std.proofs.lemmas.List.Sorted.{IsPartitionPoint-from_clause}
use Rattle.mr_tables.specs.Change.{id_before}
use Rattle.mr_audit.proofs.SortedIds.{parted}
use Rattle.mr_audit.proofs.NotesInTurn.{fitting, ids_in_order}
use Rattle.mr_audit.proofs.turns.is_fitting.Goals as goal

pub returns : goal.returns
returns g c =
    let note = g.R.NoteRow.note in
    let rows = c.args.rows.now in
    let a = c.args.note in
    let point = IsPartitionPoint-from_clause (λ r. id_before (note r).id a.id) _ _ c.partition_point-at.ensures.partitioned
    (parted (λ r. (note r).id) a.id rows (ids_in_order note rows c.requires)) (λ x r q k. search rules) in
    fitting note rows a c.partition_point-at.result c.requires c.partition_point-at.ensures.bound point c.is_front_fitting-front.result
    c.is_behind_fitting-behind.result c.is_front_fitting-front.ensures c.is_behind_fitting-behind.ensures
