use Rattle.sqlite.specs.Held.{state}
use Rattle.mr_rows.proofs.StepLemmas.{makes_meta}
use Rattle.mr_rows.proofs.puts.put_meta.Goals as goal

pub returns-clause-put : goal.returns-clause-put
returns-clause-put g c = makes_meta (state g.S.Store c.args.tx.now.conn.now) (state g.S.Store c.put_meta_of.new.tx.conn.now) c.args.row.now c.put_meta_of.result c.put_meta_of.ensures.put
