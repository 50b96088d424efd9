use Rattle.std.proofs.Common.{ap, ◌∙◌}
use Rattle.sqlite.specs.Held.{state}
use Rattle.mr_rows.specs.ChangeParts.{put_meta, put_logs}
use Rattle.mr_rows.proofs.StepLemmas.{clean_before}
use Rattle.mr_first.proofs.moving.fill.Goals as goal

pub returns-clause-made : goal.returns-clause-made
returns-clause-made g c clean within first =
    let a = state g.S.Store c.args.tx.now.conn.now in
    let b = state g.S.Store c.lay_out.new.tx.conn.now in
    let d = state g.S.Store c.put_all.new.tx.conn.now in
    let e = state g.S.Store c.put_meta.new.tx.conn.now in
    let clean_d = clean_before d e c.put_meta.ensures.survives clean in
    let laid = c.in_ok-lay_out.ensures.made (clean_before b d c.put_all.ensures.survives clean_d) within first in
    let log = c.in_ok-put_all.ensures.made.0 (clean_d, laid.within, laid.ours) in
    let meta = c.in_ok-put_meta.ensures.put.0 (clean, log.within, log.ours) in
    record {
      ours = meta.ours;
      tables_are = meta.tables_are ∙ ap (put_meta c.args.meta.now) (log.tables_are ∙ ap (put_logs c.args.log.now) laid.tables_are);
      committed = meta.committed ∙ log.committed ∙ laid.committed;
      within = meta.within;
    }
