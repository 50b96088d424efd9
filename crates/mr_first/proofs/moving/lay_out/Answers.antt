use Rattle.std.proofs.lemmas.Result.{on_ok_weaker}
use Rattle.sqlite.specs.Held.{state}
use Rattle.mr_rows.proofs.StepLemmas.{clean_before}
use Rattle.mr_first.proofs.MakeLemmas.{lays_out}
use Rattle.mr_first.proofs.moving.lay_out.Goals as goal

pub returns-clause-made : goal.returns-clause-made
returns-clause-made g c clean within first =
    let a = state g.S.Store c.args.tx.now.conn.now in
    let b = state g.S.Store c.clear_old.new.tx.conn.now in
    let d = state g.S.Store c.create_second_rows.new.tx.conn.now in
    let emptied = c.in_ok-clear_old.ensures.emptied (clean_before b d c.create_second_rows.ensures.survives clean) within first in
    on_ok_weaker c.create_second_rows.result (λ widened. lays_out a b d first emptied widened) (c.create_second_rows.ensures.widened clean emptied.within emptied.schema)
