use Rattle.sqlite.specs.Held.{state}
use Rattle.mr_first.proofs.ClearLemmas.{empties}
use Rattle.mr_first.proofs.clearing.clear_old.Goals as goal

pub returns-clause-emptied : goal.returns-clause-emptied
returns-clause-emptied g c =
    let a = state g.S.Store c.args.tx.now.conn.now in
    let b = state g.S.Store c.clear_meta.new.tx.conn.now in
    let d = state g.S.Store c.clear_writes.new.tx.conn.now in
    let e = state g.S.Store c.clear_undo.new.tx.conn.now in
    empties a b d e c.clear_writes.ensures.survives c.clear_undo.ensures.survives c.in_ok-clear_meta.ensures.cleared c.in_ok-clear_writes.ensures.cleared c.in_ok-clear_undo.ensures.cleared
