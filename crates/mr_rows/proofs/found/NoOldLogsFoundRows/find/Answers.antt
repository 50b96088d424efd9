use Rattle.std.proofs.Common.{◌≡◌, [], Ok, ◌∙◌, ap, Err}
use Rattle.std.proofs.lemmas.Result.{err_from_is_err_and}
use Rattle.sqlite.specs.Held.{state}
use Rattle.mr_rows.proofs.QueryLemmas.{looks_then}
use Rattle.mr_rows.proofs.CauseLemmas.{looks_fail}
use Rattle.mr_rows.proofs.SureTexts.{asks_write_log, asks_undo}
use Rattle.mr_rows.specs.Reads.{IsPlacedIn}
use Rattle.mr_rows.proofs.CauseLemmas.{same_reads, same_error}
use Rattle.mr_rows.proofs.found.NoOldLogsFoundRows.find.Goals as goal

pub returns-in_err-find_none-clause-looks : goal.returns-in_err-find_none-clause-looks
returns-in_err-find_none-clause-looks g c under is =
    let p = err_from_is_err_and c.from_residual.result c.from_residual.ensures.1 in
    same_reads (IsPlacedIn under) (state g.S.Store c.args.conn.now) (state g.S.Store c.find_none.new.conn) c.find_none.result _ c.from_residual.result _ c.in_err-find_none.field-0.0
    (p.1 ∙ ap Err p.2) (c.find_none.ensures.looks under 6 1 (asks_write_log under is))

pub returns-in_err-find_none-2-clause-looks : goal.returns-in_err-find_none-2-clause-looks
returns-in_err-find_none-2-clause-looks g c under is =
    let a = state g.S.Store c.args.conn.now in
    let b = state g.S.Store c.find_none.new.conn in
    let d = state g.S.Store c.find_none-2.new.conn in
    let read = looks_then a b d c.in_ok-find_none.field-0 (λ _. a.now.trees 6 ≡ []) c.find_none-2.result (λ db _. db.trees 8 ≡ []) (λ _. Unit {0})
    (λ here y p q. tt) (c.in_ok-find_none.ensures.looks under 6 1 (asks_write_log under is)) (c.find_none-2.ensures.looks under 8 1 (asks_undo under is)) in
    let p = err_from_is_err_and c.from_residual-in_err-find_none-2.result c.from_residual-in_err-find_none-2.ensures.1 in
    same_reads (IsPlacedIn under) (state g.S.Store c.args.conn.now)
    (state g.S.Store c.find_none-2.new.conn) c.find_none-2.result _ c.from_residual-in_err-find_none-2.result _ c.in_err-find_none-2.field-0.0 (p.1 ∙ ap Err p.2) read

pub returns-clause-looks : goal.returns-clause-looks
returns-clause-looks g c under is =
    let a = state g.S.Store c.args.conn.now in
    let b = state g.S.Store c.find_none.new.conn in
    let d = state g.S.Store c.find_none-2.new.conn in
    let read = looks_then a b d c.in_ok-find_none.field-0 (λ _. a.now.trees 6 ≡ []) (Ok c.in_ok-find_none-2.field-0) (λ db _. db.trees 8 ≡ []) (λ _. (a.now.trees 6 ≡ []) × (a.now.trees 8 ≡ []))
    (λ here y p q. (p, q)) (c.in_ok-find_none.ensures.looks under 6 1 (asks_write_log under is)) (c.in_ok-find_none-2.ensures.looks under 8 1 (asks_undo under is)) in
    (read.0, read.1, λ clean here. let told = read.2 clean here in (told.0, (told.1, λ kept. tt)))

pub returns-in_err-find_none-clause-cause : goal.returns-in_err-find_none-clause-cause
returns-in_err-find_none-clause-cause g c under is = λ clean here none.
    let p = err_from_is_err_and c.from_residual.result c.from_residual.ensures.1 in
    same_error c.find_none.result c.from_residual.result c.in_err-find_none.field-0.0 _ c.in_err-find_none.was
    (p.1 ∙ ap Err p.2) (c.find_none.ensures.cause under 6 1 (asks_write_log under is) clean here none.0)

pub returns-in_err-find_none-2-clause-cause : goal.returns-in_err-find_none-2-clause-cause
returns-in_err-find_none-2-clause-cause g c under is = λ clean here none.
    let a = state g.S.Store c.args.conn.now in
    let b = state g.S.Store c.find_none.new.conn in
    let d = state g.S.Store c.find_none-2.new.conn in
    let p = err_from_is_err_and c.from_residual-in_err-find_none-2.result c.from_residual-in_err-find_none-2.ensures.1 in
    same_error c.find_none-2.result c.from_residual-in_err-find_none-2.result c.in_err-find_none-2.field-0.0 _ c.in_err-find_none-2.was (p.1 ∙ ap Err p.2)
    (looks_fail a b d c.in_ok-find_none.field-0 (λ _. a.now.trees 6 ≡ []) c.find_none-2.result (λ _. b.now.trees 8 ≡ []) (λ t. (t 6 ≡ []) × (t 8 ≡ []))
    (λ t. t 8 ≡ []) (c.in_ok-find_none.ensures.looks under 6 1 (asks_write_log under is)) (c.find_none-2.ensures.looks under 8 1 (asks_undo under is))
    (λ t both. both.1) (c.find_none-2.ensures.cause under 8 1 (asks_undo under is)) clean here none)
