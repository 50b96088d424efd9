use Rattle.std.proofs.Common.{◌∙◌, length, ap, sym}
use Rattle.mr_part.specs.declared.kept_rows.KeptRow.{KeptRow}
use Rattle.mr_part.specs.Moves.{is_anew}
use Rattle.mr_part.proofs.ChangedRows.{as_many-more}
use Rattle.mr_part.proofs.Moves.{passed_more}
use Rattle.mr_part.proofs.batch.movable.again_in.Goals as goal

pub loop-row-preserved : goal.loop-row-preserved
loop-row-preserved c =
    let row = c.in-Some.row in
    let old = c.loop-row.anew in
    let e = c.in_ok-push_if.ensures in
    record {
      as_many = ap length e.writes ∙ as_many-more c.is_anew-is_its.result old.writes.items old.undo.items row.write row.undo c.loop-row.invariant.as_many ∙ sym (ap length e.undo);
      anew = λ touched items moving.
          let p = is_anew touched items c.args.commits in
          let is = c.is_anew-is_its.ensures touched items moving in
          let had = c.loop-row.invariant.anew touched items moving in (
            passed_more (λ (x : KeptRow). x.write) p c.loop-row.yielded row c.is_anew-is_its.result old.writes.items c.push_if.new.self.writes.items is e.writes had.0,
            passed_more (λ (x : KeptRow). x.undo) p c.loop-row.yielded row c.is_anew-is_its.result old.undo.items c.push_if.new.self.undo.items is e.undo had.1,
          );
    }
