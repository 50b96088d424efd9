use Rattle.std.proofs.Common.{◌≡◌, map, rules, ◌∙◌, ap, Err}
use Rattle.std.proofs.lemmas.Result.{err_from_is_err_and}
use Rattle.std.specs.Prelude.{⊤}
use Rattle.std.specs.List.Sorted.{IsPermutation}
use Rattle.sqlite.specs.Held.{state}
use Rattle.mr_rows.specs.Shown.{columns_from}
use Rattle.mr_rows.specs.Reads.{IsPlacedIn}
use Rattle.mr_rows.proofs.QueryLemmas.{made_where, told_so}
use Rattle.mr_sql.proofs.FailedLemmas.{only_memory}
use Rattle.mr_sql.proofs.NumberLemmas.{other_number}
use Rattle.mr_rows.proofs.CauseLemmas.{same_reads, same_fails}
use Rattle.mr_sql.proofs.schema_number.has_other_number.Goals as goal

pub returns-in_err-rows-clause-looks : goal.returns-in_err-rows-clause-looks
returns-in_err-rows-clause-looks g c under two =
    let p = err_from_is_err_and c.from_residual.result c.from_residual.ensures.1 in
    same_reads (IsPlacedIn under) (state g.S.Store c.args.conn.now) (state g.S.Store c.select_all_meta.new.conn) c.select_all_meta.result
    _ c.from_residual.result _ c.in_err-rows.field-0.0 (p.1 ∙ ap Err p.2) (c.select_all_meta.ensures.looks under two)

pub returns-clause-looks : goal.returns-clause-looks
returns-clause-looks g c under two =
    let old = state g.S.Store c.args.conn.now in
    let shown = c.in_ok-rows.rows.items in
    let same : c.deref.result.now ≡ shown = search rules in
    made_where (IsPlacedIn under) old (state g.S.Store c.select_all_meta.new.conn) c.in_ok-rows.rows
    (λ rows. IsPermutation (map (columns_from 1 7) (old.now.trees 0)) rows.items) c.is_other_alone.result _
    (λ here read. told_so c.is_other_alone.result _ _ (λ other alone is. other_number c.args.number old.now.trees shown read (alone is)) (rw same at c.is_other_alone.ensures.other))
    (c.in_ok-rows.ensures.looks under two)

pub returns-in_err-rows-clause-cause : goal.returns-in_err-rows-clause-cause
returns-in_err-rows-clause-cause g c under two =
    let p = err_from_is_err_and c.from_residual.result c.from_residual.ensures.1 in
    same_fails (IsPlacedIn under) (λ _. ⊤) (state g.S.Store c.args.conn.now) (state g.S.Store c.select_all_meta.new.conn) c.select_all_meta.result
    c.from_residual.result c.in_err-rows.field-0.0 c.in_err-rows.was (p.1 ∙ ap Err p.2) (c.select_all_meta.ensures.cause under two)

pub returns-clause-cause : goal.returns-clause-cause
returns-clause-cause g c under two = only_memory under (λ _. ⊤) (state g.S.Store c.args.conn.now) (state g.S.Store c.select_all_meta.new.conn) c.is_other_alone.result c.is_other_alone.ensures.memory
