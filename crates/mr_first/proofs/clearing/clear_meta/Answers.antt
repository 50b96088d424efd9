use Rattle.std.proofs.Common.{[]}
use Rattle.sqlite.specs.Held.{state}
use Rattle.mr_rows.proofs.StatementLemmas.{keeps_any}
use Rattle.mr_first.proofs.FirstStatementMeaning.{clear_meta_text}
use Rattle.mr_first.proofs.ClearLemmas.{clears_meta}
use Rattle.mr_first.proofs.clearing.clear_meta.Goals as goal

pub returns-clause-cleared : goal.returns-clause-cleared
returns-clause-cleared g c clean within schema shelf =
    clears_meta (state g.S.Store c.args.tx.now.conn.now) (state g.S.Store c.execute.new.self.conn.now) c.execute.result schema shelf (c.execute.ensures.runs clean within)

pub returns-clause-kept : goal.returns-clause-kept
returns-clause-kept g c clean =
    keeps_any g.S.Store c.args.tx.now.conn.now c.execute.new.self.conn.now clear_meta_text [] c.execute.result (c.execute.ensures.runs clean) (λ outside. (c.execute.ensures.ended outside).1)
