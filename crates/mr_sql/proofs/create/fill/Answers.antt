use Rattle.sqlite.specs.Held.{state}
use Rattle.mr_sql.proofs.CreateLemmas.{fills}
use Rattle.mr_sql.proofs.create.fill.Goals as goal

pub returns-clause-filled : goal.returns-clause-filled
returns-clause-filled g c =
    let start = state g.S.Store c.args.tx.now.conn.now in
    let first = state g.S.Store c.create_first_tables.new.tx.conn.now in
    let rows = state g.S.Store c.create_second_rows.new.tx.conn.now in
    let last = state g.S.Store c.put_meta.new.tx.conn.now in
    fills start first rows last c.args.row.now c.create_second_rows.ensures.survives c.put_meta.ensures.survives
    c.in_ok-create_first_tables.ensures.extended c.in_ok-create_second_rows.ensures.widened c.in_ok-put_meta.ensures.put.0
