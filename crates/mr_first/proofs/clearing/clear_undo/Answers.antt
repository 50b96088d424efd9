use Rattle.std.proofs.Common.{[]}
use Rattle.sqlite.specs.Held.{state}
use Rattle.mr_rows.proofs.StatementLemmas.{keeps_any}
use Rattle.mr_first.proofs.FirstStatementMeaning.{clear_undo_text}
use Rattle.mr_first.proofs.ClearLemmas.{clears_undo}
use Rattle.mr_first.proofs.clearing.clear_undo.Goals as goal

pub returns-clause-cleared : goal.returns-clause-cleared
returns-clause-cleared g c clean within schema shelf =
    clears_undo (state g.S.Store c.args.tx.now.conn.now) (state g.S.Store c.execute.new.self.conn.now) c.execute.result schema shelf (c.execute.ensures.runs clean within)

pub returns-clause-kept : goal.returns-clause-kept
returns-clause-kept g c clean =
    keeps_any g.S.Store c.args.tx.now.conn.now c.execute.new.self.conn.now clear_undo_text [] c.execute.result (c.execute.ensures.runs clean) (λ outside. (c.execute.ensures.ended outside).1)
