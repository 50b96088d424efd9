use Rattle.std.proofs.Common.{IsTrue, subst, sym}
use Rattle.sqlite_value.specs.Order.{Row}
use Rattle.sqlite.specs.State.{HasCleanDisk, ExecutesInside}
use Rattle.sqlite.specs.Held.{state}
use Rattle.mr_model.specs.Writes.{Id}
use Rattle.mr_rows.specs.Schema.{our_schema}
use Rattle.mr_rows.specs.TableSteps.{TakesRow}
use Rattle.mr_rows.proofs.StatementLemmas.{takes_id}
use Rattle.mr_rows.proofs.stored_rows.take_by_id.Goals as goal

pub returns-clause-taken : goal.returns-clause-taken
returns-clause-taken g c =
    let old = c.args.tx.now.conn.now in
    let new = c.execute.new.self.conn.now in
    let f = g.R.StoredRow.form in
    let id_of = g.R.RequestRow.id_of in
    let takes = c.taking.ensures in
    let id : Id = record { server = c.id.inside.server; n = c.id.inside.n } in
    let ran = λ (clean : HasCleanDisk (state g.S.Store new)) (within : IsTrue old.in_transaction).
    subst (λ (cells : Row). ExecutesInside 0 c.taking.result.now cells (state g.S.Store old) (state g.S.Store new) c.execute.result) (sym (takes.cells id))
    (rw (c.params-to_sql.ensures, c.params-to_sql-2.ensures, c.number.ensures.value) at (c.execute.ensures.runs clean within)) in
    subst (λ (id : Id). TakesRow our_schema f id_of id (state g.S.Store old) (state g.S.Store new) c.execute.result) c.id.view_is
    (takes_id g.S.Store f old new c.taking.result.now c.execute.result id_of takes id ran (λ outside. (c.execute.ensures.ended outside).1))
