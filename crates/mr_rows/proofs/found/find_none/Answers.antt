use Rattle.std.proofs.Common.{◌≡◌, [], map, rules, ◌∙◌, ap, Err}
use Rattle.std.proofs.lemmas.Result.{err_from_is_err_and}
use Rattle.std.specs.List.Sorted.{IsPermutation}
use Rattle.sqlite.specs.Held.{state}
use Rattle.mr_rows.specs.Shown.{columns_from}
use Rattle.mr_rows.proofs.QueryLemmas.{looks_made}
use Rattle.mr_rows.proofs.FoundLemmas.{none_found}
use Rattle.mr_rows.proofs.CauseLemmas.{made_fails, not_none}
use Rattle.mr_rows.specs.Reads.{IsPlacedIn}
use Rattle.mr_rows.proofs.CauseLemmas.{same_reads, same_error}
use Rattle.mr_rows.proofs.found.find_none.Goals as goal

pub returns-in_err-rows-clause-looks : goal.returns-in_err-rows-clause-looks
returns-in_err-rows-clause-looks g c under tree n asks =
    let p = err_from_is_err_and c.from_residual.result c.from_residual.ensures.1 in
    same_reads (IsPlacedIn under) (state g.S.Store c.args.conn.now) (state g.S.Store c.ask_all.new.conn) c.ask_all.result _ c.from_residual.result _ c.in_err-rows.field-0.0
    (p.1 ∙ ap Err p.2) (c.ask_all.ensures.looks under tree n asks)

pub returns-clause-looks : goal.returns-clause-looks
returns-clause-looks g c under tree n asks =
    let old = state g.S.Store c.args.conn.now in
    let shown = c.in_ok-rows.rows.items in
    let same : c.deref.result.now ≡ shown = search rules in
    looks_made old (state g.S.Store c.ask_all.new.conn) c.in_ok-rows.rows
    (λ rows. IsPermutation (map (columns_from 1 n) (old.now.trees tree)) rows.items) c.are_none.result (λ _. old.now.trees tree ≡ [])
    (λ here read. none_found (columns_from 1 n) (old.now.trees tree) shown c.are_none.result read (rw same at c.are_none.ensures.none)) (c.in_ok-rows.ensures.looks under tree n asks)

pub returns-in_err-rows-clause-cause : goal.returns-in_err-rows-clause-cause
returns-in_err-rows-clause-cause g c under tree n asks = λ clean here rows.
    let p = err_from_is_err_and c.from_residual.result c.from_residual.ensures.1 in
    same_error c.ask_all.result c.from_residual.result c.in_err-rows.field-0.0 _ c.in_err-rows.was (p.1 ∙ ap Err p.2) (c.ask_all.ensures.cause under tree n asks clean here tt)

pub returns-clause-cause : goal.returns-clause-cause
returns-clause-cause g c under tree n asks =
    let old = state g.S.Store c.args.conn.now in
    let shown = c.in_ok-rows.rows.items in
    let same : c.deref.result.now ≡ shown = search rules in
    made_fails old (state g.S.Store c.ask_all.new.conn) c.in_ok-rows.rows (λ rows. IsPermutation (map (columns_from 1 n) (old.now.trees tree)) rows.items)
    (λ trees. trees tree ≡ []) c.are_none.result (c.in_ok-rows.ensures.looks under tree n asks)
    (λ none read. not_none (columns_from 1 n) (old.now.trees tree) shown c.are_none.result read (rw same at c.are_none.ensures.refused) none)
