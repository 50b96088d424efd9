use Rattle.std.proofs.Common.{Ok, IsTrue, ◌∙◌, ap, Err}
use Rattle.std.proofs.lemmas.Result.{err_from_is_err_and}
use Rattle.sqlite.specs.Held.{state}
use Rattle.mr_rows.proofs.QueryLemmas.{looks_then}
use Rattle.mr_rows.proofs.CauseLemmas.{looks_fail}
use Rattle.mr_rows.specs.Reads.{IsPlacedIn}
use Rattle.mr_rows.proofs.CauseLemmas.{same_reads, same_error}
use Rattle.mr_rows.proofs.found.Tuple2FoundRows.find.Goals as goal

pub returns-in_err-first-clause-looks : goal.returns-in_err-first-clause-looks
returns-in_err-first-clause-looks g c under stands =
    let p = err_from_is_err_and c.from_residual.result c.from_residual.ensures.1 in
    same_reads (IsPlacedIn under) (state g.S.Store c.args.conn.now)
    (state g.S.Store c.find.new.conn) c.find.result _ c.from_residual.result _ c.in_err-first.field-0.0 (p.1 ∙ ap Err p.2) (c.find.ensures.looks under stands.0)

pub returns-in_err-second-clause-looks : goal.returns-in_err-second-clause-looks
returns-in_err-second-clause-looks g c under stands =
    let a = state g.S.Store c.args.conn.now in
    let b = state g.S.Store c.find.new.conn in
    let d = state g.S.Store c.find-2.new.conn in
    let read = looks_then a b d c.in_ok-first.first (λ x. g.A.FoundRows.are_stored a.now.trees × (IsTrue c.args.keep → g.A.FoundRows.are_all a.now.trees x)) c.find-2.result
    (λ db y. g.B.FoundRows.are_stored db.trees × (IsTrue c.args.keep → g.B.FoundRows.are_all db.trees y)) (λ _. Unit {0})
    (λ here y p q. tt) (c.in_ok-first.ensures.looks under stands.0) (c.find-2.ensures.looks under stands.1) in
    let p = err_from_is_err_and c.from_residual-in_err-second.result c.from_residual-in_err-second.ensures.1 in
    same_reads (IsPlacedIn under) (state g.S.Store c.args.conn.now)
    (state g.S.Store c.find-2.new.conn) c.find-2.result _ c.from_residual-in_err-second.result _ c.in_err-second.field-0.0 (p.1 ∙ ap Err p.2) read

pub returns-clause-looks : goal.returns-clause-looks
returns-clause-looks g c under stands =
    let a = state g.S.Store c.args.conn.now in
    let b = state g.S.Store c.find.new.conn in
    let d = state g.S.Store c.find-2.new.conn in
    let first = c.in_ok-first.first in
    looks_then a b d first (λ x. g.A.FoundRows.are_stored a.now.trees × (IsTrue c.args.keep → g.A.FoundRows.are_all a.now.trees x))
    (Ok c.in_ok-second.second) (λ db y. g.B.FoundRows.are_stored db.trees × (IsTrue c.args.keep → g.B.FoundRows.are_all db.trees y))
    (λ y. (g.A.FoundRows.are_stored a.now.trees × g.B.FoundRows.are_stored a.now.trees) × (IsTrue c.args.keep → g.A.FoundRows.are_all a.now.trees first × g.B.FoundRows.are_all a.now.trees y))
    (λ here y p q. ((p.0, q.0), λ kept. (p.1 kept, q.1 kept)))
    (c.in_ok-first.ensures.looks under stands.0) (c.in_ok-second.ensures.looks under stands.1)

pub returns-in_err-first-clause-cause : goal.returns-in_err-first-clause-cause
returns-in_err-first-clause-cause g c under stands = λ clean here rows.
    let p = err_from_is_err_and c.from_residual.result c.from_residual.ensures.1 in
    same_error c.find.result c.from_residual.result c.in_err-first.field-0.0 _ c.in_err-first.was (p.1 ∙ ap Err p.2) (c.find.ensures.cause under stands.0 clean here rows.0)

pub returns-in_err-second-clause-cause : goal.returns-in_err-second-clause-cause
returns-in_err-second-clause-cause g c under stands = λ clean here rows.
    let a = state g.S.Store c.args.conn.now in
    let b = state g.S.Store c.find.new.conn in
    let d = state g.S.Store c.find-2.new.conn in
    let A = g.A.FoundRows.are_stored in
    let B = g.B.FoundRows.are_stored in
    let p = err_from_is_err_and c.from_residual-in_err-second.result c.from_residual-in_err-second.ensures.1 in
    same_error c.find-2.result c.from_residual-in_err-second.result c.in_err-second.field-0.0 _ c.in_err-second.was (p.1 ∙ ap Err p.2)
    (looks_fail a b d c.in_ok-first.first (λ x. A a.now.trees × (IsTrue c.args.keep → g.A.FoundRows.are_all a.now.trees x)) c.find-2.result
    (λ y. B b.now.trees × (IsTrue c.args.keep → g.B.FoundRows.are_all b.now.trees y)) (λ t. A t × B t) B (c.in_ok-first.ensures.looks under stands.0)
    (c.find-2.ensures.looks under stands.1) (λ t both. both.1) (c.find-2.ensures.cause under stands.1) clean here rows)
