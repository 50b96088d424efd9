use Rattle.std.proofs.Common.{◌≡◌, [], true, None, Some, Ok, map, refl, arith, ◌∙◌, ap, Err}
use Rattle.std.proofs.lemmas.Result.{err_from_is_err_and}
use Rattle.sqlite.specs.Held.{state}
use Rattle.mr_rows.specs.Database.{tables_in}
use Rattle.mr_rows.specs.Kept.{AreAllFound}
use Rattle.std.proofs.lemmas.List.{length-map}
use Rattle.std.proofs.lemmas.List.Sorted.{length_permutation}
use Rattle.mr_rows.specs.RowCells.{meta_in}
use Rattle.mr_rows.specs.Reads.{Looks}
use Rattle.mr_rows.proofs.QueryLemmas.{reads_made}
use Rattle.mr_rows.proofs.StreamedRows.{kept_looks}
use Rattle.mr_rows.specs.Database.{IsKept}
use Rattle.mr_rows.proofs.CauseLemmas.{same_reads, same_error}
use Rattle.mr_rows.proofs.all_tables.read_tables.Goals as goal

pub returns-in_err-tables-clause-reads : goal.returns-in_err-tables-clause-reads
returns-in_err-tables-clause-reads g c =
    let read = kept_looks (state g.S.Store c.args.conn.now) (state g.S.Store c.find_all.new.conn) c.find_all.result _ c.find_all.ensures.looks in
    let p = err_from_is_err_and c.from_residual.result c.from_residual.ensures.1 in
    same_reads IsKept (state g.S.Store c.args.conn.now) (state g.S.Store c.find_all.new.conn) c.find_all.result _ c.from_residual.result _ c.in_err-tables.field-0.0 (p.1 ∙ ap Err p.2) read

pub returns-in-Some-clause-reads : goal.returns-in-Some-clause-reads
returns-in-Some-clause-reads g c =
    let old = state g.S.Store c.args.conn.now in
    let new = state g.S.Store c.find_all.new.conn in
    reads_made old new (Some c.in-Some.tables) (AreAllFound true old.now.trees) (Ok c.in-Some.tables) (λ t. t ≡ tables_in old.now.trees) (λ kept found. found.2 refl kept.ours.held)
    (kept_looks old new (Ok (Some c.in-Some.tables)) (AreAllFound true old.now.trees) (rw c.in-Some.is at c.in_ok-tables.ensures.looks))

pub returns-in-None-clause-reads : goal.returns-in-None-clause-reads
returns-in-None-clause-reads g c =
    let read = kept_looks (state g.S.Store c.args.conn.now) (state g.S.Store c.find_all.new.conn) c.find_all.result _ c.find_all.ensures.looks in
    (read.0, read.1, λ clean kept. (tt, tt))

pub returns-in_err-tables-clause-cause : goal.returns-in_err-tables-clause-cause
returns-in_err-tables-clause-cause g c = λ clean here rows.
    let one = rows.1 in
    let p = err_from_is_err_and c.from_residual.result c.from_residual.ensures.1 in
    same_error c.find_all.result c.from_residual.result c.in_err-tables.field-0.0 _ c.in_err-tables.was (p.1 ∙ ap Err p.2) (c.find_all.ensures.cause clean here (rows.0, omega (arith, one)))

pub returns-in-None-clause-cause : goal.returns-in-None-clause-cause
returns-in-None-clause-cause g c = λ clean here rows other.
    let old = state g.S.Store c.args.conn.now in
    let looks : Looks old (state g.S.Store c.find_all.new.conn) (Ok None) (AreAllFound true old.now.trees) = rw c.in-None.is at c.in_ok-tables.ensures.looks in
    let none = length_permutation (map meta_in (old.now.trees 0)) [] (looks.2 clean here).1.1 in
    let stored = length-map (old.now.trees 0) meta_in in
    let one = rows.1 in
    absurd (omega (arith, none, stored, one))
