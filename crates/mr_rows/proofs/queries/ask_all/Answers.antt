use Rattle.std.proofs.Common.{[]}
use Rattle.sqlite.specs.State.{Shown}
use Rattle.sqlite.specs.Held.{state}
use Rattle.mr_rows.proofs.QueryLemmas.{looked_in, looks_so}
use Rattle.mr_rows.proofs.CauseLemmas.{asked_fails_in, shows_all}
use Rattle.mr_rows.proofs.queries.ask_all.Goals as goal

pub returns-clause-looks : goal.returns-clause-looks
returns-clause-looks g c under tree n asks =
    let old = state g.S.Store c.args.conn.now in
    let new = state g.S.Store c.query_all.new.self in
    looks_so old new c.query_all.result (λ rows. Shown c.args.sql.now [] old new rows.items) _ (λ here rows shown. shows_all tree n c.args.sql.now asks old new rows.items here.schema shown)
    (looked_in c.args.sql.now [] old new asks.plain (λ rows. rows.items) c.query_all.result (rw c.conn.view_is at c.query_all.ensures.ok)
    (rw c.conn.view_is at c.query_all.ensures.err) (rw c.conn.view_is at c.query_all.ensures.survives))

pub returns-clause-cause : goal.returns-clause-cause
returns-clause-cause g c under tree n asks =
    asked_fails_in under c.args.sql.now [] (state g.S.Store c.args.conn.now)
    (state g.S.Store c.query_all.new.self) c.query_all.result asks.plain (rw c.conn.view_is at c.query_all.ensures.err) asks.sure
