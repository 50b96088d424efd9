use Rattle.std.proofs.Common.{◌≡◌, subst, sym, rules, ◌∙◌, ap, Err}
use Rattle.std.proofs.lemmas.Result.{err_from_is_err_and}
use Rattle.std.specs.Prelude.{bytes_eq}
use Rattle.std.specs.List.Sorted.{IsPermutation}
use Rattle.sqlite.specs.Held.{state}
use Rattle.mr_rows.specs.RowsAsked.{AreChosen}
use Rattle.mr_rows.proofs.QueryLemmas.{looks_made, told_so}
use Rattle.mr_rows.proofs.CauseLemmas.{chosen_fails}
use Rattle.mr_rows.proofs.CauseLemmas.{same_reads, same_error}
use Rattle.mr_rows.specs.Reads.{IsPlacedIn}
use Rattle.mr_rows.specs.Schema.{our_schema}
use Rattle.mr_rows.proofs.asked_rows.rows_in.Goals as goal

pub returns-in_err-rows-clause-looks : goal.returns-in_err-rows-clause-looks
returns-in_err-rows-clause-looks g c =
    let looks = (rw (c.params-to_sql.ensures, c.as_str.ensures.text) at c.ask_for.ensures.looks) (λ row. bytes_eq (g.R.AskedRow.room_of row) c.args.room.now) (c.asked.ensures.room c.args.room.now) in
    let p = err_from_is_err_and c.from_residual.result c.from_residual.ensures.1 in
    same_reads (IsPlacedIn our_schema) (state g.S.Store c.args.conn.now)
    (state g.S.Store c.ask_for.new.conn) c.ask_for.result _ c.from_residual.result _ c.in_err-rows.field-0.0 (p.1 ∙ ap Err p.2) looks

pub returns-clause-looks : goal.returns-clause-looks
returns-clause-looks g c =
    let old = state g.S.Store c.args.conn.now in
    let same : c.deref.result.now ≡ c.in_ok-rows.rows.items = search rules in
    looks_made old (state g.S.Store c.ask_for.new.conn) c.in_ok-rows.rows
    (λ rows. AreChosen g.R.StoredRow.form (λ row. bytes_eq (g.R.AskedRow.room_of row) c.args.room.now) old.now.trees rows.items) c.read_all.result _
    (λ here chosen. told_so c.read_all.result _ _ (λ out is held. subst (IsPermutation _) (sym is) (chosen.0 held)) (rw same at c.read_all.ensures.same))
    ((rw (c.params-to_sql.ensures, c.as_str.ensures.text) at c.in_ok-rows.ensures.looks) (λ row. bytes_eq (g.R.AskedRow.room_of row) c.args.room.now) (c.asked.ensures.room c.args.room.now))

pub returns-in_err-rows-clause-cause : goal.returns-in_err-rows-clause-cause
returns-in_err-rows-clause-cause g c = λ clean here rows.
    let p = err_from_is_err_and c.from_residual.result c.from_residual.ensures.1 in
    same_error c.ask_for.result c.from_residual.result c.in_err-rows.field-0.0 _ c.in_err-rows.was (p.1 ∙ ap Err p.2) ((rw (c.params-to_sql.ensures, c.as_str.ensures.text) at c.ask_for.ensures.cause)
    (λ row. bytes_eq (g.R.AskedRow.room_of row) c.args.room.now) (c.asked.ensures.room c.args.room.now) clean here tt)

pub returns-clause-cause : goal.returns-clause-cause
returns-clause-cause g c =
    let same : c.deref.result.now ≡ c.in_ok-rows.rows.items = search rules in
    chosen_fails g.R.StoredRow.form (λ row. bytes_eq (g.R.AskedRow.room_of row) c.args.room.now)
    (state g.S.Store c.args.conn.now) (state g.S.Store c.ask_for.new.conn) c.in_ok-rows.rows c.read_all.result
    ((rw (c.params-to_sql.ensures, c.as_str.ensures.text) at c.in_ok-rows.ensures.looks) (λ row. bytes_eq (g.R.AskedRow.room_of row) c.args.room.now) (c.asked.ensures.room c.args.room.now))
    (rw same at c.read_all.ensures.refused)
