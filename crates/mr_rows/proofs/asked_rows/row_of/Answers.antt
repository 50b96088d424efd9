use Rattle.std.proofs.Common.{◌≡◌, ◌∙◌, ◌∷◌, [], rules, ap, Err}
use Rattle.std.proofs.lemmas.Result.{err_from_is_err_and}
use Rattle.mr_model.specs.Writes.{Id}
use Rattle.mr_model.specs.Replica.{is_among}
use Rattle.sqlite.specs.Held.{state}
use Rattle.mr_rows.specs.RowsAsked.{AreChosen}
use Rattle.mr_rows.proofs.FirstLemmas.{the_row}
use Rattle.mr_rows.proofs.QueryLemmas.{looks_made, told_so}
use Rattle.mr_rows.proofs.CauseLemmas.{chosen_fails}
use Rattle.mr_rows.proofs.CauseLemmas.{same_reads, same_error}
use Rattle.mr_rows.specs.Reads.{IsPlacedIn}
use Rattle.mr_rows.specs.Schema.{our_schema}
use Rattle.mr_rows.proofs.asked_rows.row_of.Goals as goal

pub returns-in_err-rows-clause-looks : goal.returns-in_err-rows-clause-looks
returns-in_err-rows-clause-looks g c =
    let id : Id = record { server = c.id.inside.server; n = c.id.inside.n } in
    let looks = (rw (c.params-to_sql.ensures, c.params-to_sql-2.ensures, c.number.ensures.value) at c.ask_for.ensures.looks)
    (λ row. is_among (g.R.AskedRow.id_of row) (id ∷ [])) (c.asked.ensures.id id) in
    let p = err_from_is_err_and c.from_residual.result c.from_residual.ensures.1 in
    same_reads (IsPlacedIn our_schema) (state g.S.Store c.args.conn.now)
    (state g.S.Store c.ask_for.new.conn) c.ask_for.result _ c.from_residual.result _ c.in_err-rows.field-0.0 (p.1 ∙ ap Err p.2) looks

pub returns-clause-looks : goal.returns-clause-looks
returns-clause-looks g c =
    let id : Id = record { server = c.id.inside.server; n = c.id.inside.n } in
    let old = state g.S.Store c.args.conn.now in
    let same : c.deref.result.now ≡ c.in_ok-rows.rows.items = search rules in
    rw (← c.id.view_is) (looks_made old (state g.S.Store c.ask_for.new.conn) c.in_ok-rows.rows
    (λ rows. AreChosen g.R.StoredRow.form (λ row. is_among (g.R.AskedRow.id_of row) (id ∷ [])) old.now.trees rows.items) c.first_row.result _
    (λ here chosen. told_so c.first_row.result _ _ (λ out is held. is
    ∙ the_row g.R.StoredRow.form g.R.AskedRow.id_of g.met.R.AskedRow.by_id id (old.now.trees g.R.StoredRow.form.table.tree) _ (chosen.0 held)) (rw same at c.first_row.ensures.first))
    ((rw (c.params-to_sql.ensures, c.params-to_sql-2.ensures, c.number.ensures.value) at c.in_ok-rows.ensures.looks) (λ row. is_among (g.R.AskedRow.id_of row) (id ∷ [])) (c.asked.ensures.id id)))

pub returns-in_err-rows-clause-cause : goal.returns-in_err-rows-clause-cause
returns-in_err-rows-clause-cause g c = λ clean here rows.
    let id : Id = record { server = c.id.inside.server; n = c.id.inside.n } in
    let p = err_from_is_err_and c.from_residual.result c.from_residual.ensures.1 in
    same_error c.ask_for.result c.from_residual.result c.in_err-rows.field-0.0 _ c.in_err-rows.was (p.1 ∙ ap Err p.2)
    ((rw (c.params-to_sql.ensures, c.params-to_sql-2.ensures, c.number.ensures.value) at c.ask_for.ensures.cause)
    (λ row. is_among (g.R.AskedRow.id_of row) (id ∷ [])) (c.asked.ensures.id id) clean here tt)

pub returns-clause-cause : goal.returns-clause-cause
returns-clause-cause g c =
    let id : Id = record { server = c.id.inside.server; n = c.id.inside.n } in
    let same : c.deref.result.now ≡ c.in_ok-rows.rows.items = search rules in
    chosen_fails g.R.StoredRow.form (λ row. is_among (g.R.AskedRow.id_of row) (id ∷ [])) (state g.S.Store c.args.conn.now) (state g.S.Store c.ask_for.new.conn) c.in_ok-rows.rows c.first_row.result
    ((rw (c.params-to_sql.ensures, c.params-to_sql-2.ensures, c.number.ensures.value) at c.in_ok-rows.ensures.looks) (λ row. is_among (g.R.AskedRow.id_of row) (id ∷ [])) (c.asked.ensures.id id))
    (rw same at c.first_row.ensures.refused)
