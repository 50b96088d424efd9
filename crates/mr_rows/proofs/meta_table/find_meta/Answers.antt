use Rattle.std.proofs.Common.{◌≡◌, ◌≤◌, map, rules, length, ◌∙◌, ap, Err}
use Rattle.std.proofs.lemmas.Result.{err_from_is_err_and}
use Rattle.std.specs.List.Sorted.{IsPermutation}
use Rattle.sqlite.specs.Held.{state}
use Rattle.mr_rows.specs.Form.{meta_form_of}
use Rattle.mr_rows.specs.Shown.{columns_from, AreStoredAs}
use Rattle.mr_rows.proofs.QueryLemmas.{looks_made}
use Rattle.mr_rows.proofs.FoundLemmas.{meta_found}
use Rattle.mr_rows.proofs.CauseLemmas.{made_fails, not_one}
use Rattle.mr_rows.specs.Reads.{IsPlacedIn}
use Rattle.mr_rows.proofs.CauseLemmas.{same_reads, same_error}
use Rattle.mr_rows.proofs.meta_table.find_meta.Goals as goal

pub returns-in_err-rows-clause-looks : goal.returns-in_err-rows-clause-looks
returns-in_err-rows-clause-looks g c under two =
    let p = err_from_is_err_and c.from_residual.result c.from_residual.ensures.1 in
    same_reads (IsPlacedIn under) (state g.S.Store c.args.conn.now) (state g.S.Store c.select_all_meta.new.conn) c.select_all_meta.result
    _ c.from_residual.result _ c.in_err-rows.field-0.0 (p.1 ∙ ap Err p.2) (c.select_all_meta.ensures.looks under two)

pub returns-clause-looks : goal.returns-clause-looks
returns-clause-looks g c under two =
    let old = state g.S.Store c.args.conn.now in
    let shown = c.in_ok-rows.rows.items in
    let same : c.deref.result.now ≡ shown = search rules in
    looks_made old (state g.S.Store c.select_all_meta.new.conn) c.in_ok-rows.rows (λ rows. IsPermutation (map (columns_from 1 7) (old.now.trees 0)) rows.items) c.only_meta.result _
    (λ here read. meta_found c.args.number old.now.trees shown c.only_meta.result read (rw same at c.only_meta.ensures.whole) (rw same at c.only_meta.ensures.row))
    (c.in_ok-rows.ensures.looks under two)

pub returns-in_err-rows-clause-cause : goal.returns-in_err-rows-clause-cause
returns-in_err-rows-clause-cause g c under two = λ clean here rows.
    let p = err_from_is_err_and c.from_residual.result c.from_residual.ensures.1 in
    same_error c.select_all_meta.result c.from_residual.result c.in_err-rows.field-0.0 _ c.in_err-rows.was (p.1 ∙ ap Err p.2) (c.select_all_meta.ensures.cause under two clean here tt)

pub returns-clause-cause : goal.returns-clause-cause
returns-clause-cause g c under two =
    let old = state g.S.Store c.args.conn.now in
    let form = meta_form_of c.args.number in
    let shown = c.in_ok-rows.rows.items in
    let same : c.deref.result.now ≡ shown = search rules in
    made_fails old (state g.S.Store c.select_all_meta.new.conn) c.in_ok-rows.rows (λ rows. IsPermutation (map (columns_from 1 7) (old.now.trees 0)) rows.items)
    (λ trees. AreStoredAs form trees × (length (trees 0) ≤ 1)) c.only_meta.result
    (c.in_ok-rows.ensures.looks under two) (λ rows read. not_one form old.now.trees shown c.only_meta.result (λ row is. is) read (rw same at c.only_meta.ensures.refused) rows)
