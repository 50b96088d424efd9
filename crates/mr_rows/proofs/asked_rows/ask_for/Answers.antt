use Rattle.sqlite.specs.Values.{bound}
use Rattle.sqlite.specs.State.{Shown}
use Rattle.sqlite.specs.Held.{state}
use Rattle.mr_rows.specs.Schema.{our_schema}
use Rattle.mr_rows.proofs.QueryLemmas.{looked_in, looks_so}
use Rattle.mr_rows.proofs.CauseLemmas.{asked_fails_in}
use Rattle.mr_rows.proofs.AskedTexts.{shows_chosen}
use Rattle.mr_rows.proofs.asked_rows.ask_for.Goals as goal

pub returns-clause-looks : goal.returns-clause-looks
returns-clause-looks g c = λ chosen asks.
    let old = state g.S.Store c.args.conn.now in
    let new = state g.S.Store c.query_all.new.self in
    let params = bound c.args.params.now in
    looks_so old new c.query_all.result (λ rows. Shown c.args.sql.now params old new rows.items) _
    (λ here rows shown. shows_chosen g.R.StoredRow.form c.args.sql.now params chosen asks old new rows.items here.schema shown)
    (looked_in c.args.sql.now params old new asks.plain (λ rows. rows.items) c.query_all.result (rw c.conn.view_is at c.query_all.ensures.ok)
    (rw c.conn.view_is at c.query_all.ensures.err) (rw c.conn.view_is at c.query_all.ensures.survives))

pub returns-clause-cause : goal.returns-clause-cause
returns-clause-cause g c = λ chosen asks.
    asked_fails_in our_schema c.args.sql.now (bound c.args.params.now) (state g.S.Store c.args.conn.now)
    (state g.S.Store c.query_all.new.self) c.query_all.result asks.plain (rw c.conn.view_is at c.query_all.ensures.err) asks.sure
