use Rattle.sqlite.specs.Held.{state}
use Rattle.mr_sql.proofs.CreateLemmas.{fills_first}
use Rattle.mr_sql.proofs.create_first.fill.Goals as goal

pub returns-clause-filled : goal.returns-clause-filled
returns-clause-filled g c =
    fills_first (state g.S.Store c.args.tx.now.conn.now) (state g.S.Store c.create_first_tables.new.tx.conn.now) (state g.S.Store c.put_tables.new.tx.conn.now) c.args.tables.now c.put_tables.result
    c.put_tables.ensures.survives c.in_ok-create_first_tables.ensures.extended c.put_tables.ensures.made.0
