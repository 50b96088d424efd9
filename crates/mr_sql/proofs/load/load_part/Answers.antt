use Rattle.std.proofs.Common.{sym, ap, ◌∙◌, Err}
use Rattle.std.proofs.lemmas.Result.{err_from_is_err_and}
use Rattle.sqlite.specs.Held.{state}
use Rattle.mr_model.specs.Scopes.{in_scope}
use Rattle.mr_part.specs.ScopeOf.{scope_of}
use Rattle.mr_rows.specs.Database.{tables_in}
use Rattle.mr_rows.proofs.QueryLemmas.{uses_made, told_two}
use Rattle.mr_sql.specs.Enough.{AreEnough}
use Rattle.mr_tables.specs.Summary.{summary_of}
use Rattle.mr_replica.proofs.NextIds.{given_free}
use Rattle.mr_sql.proofs.FailedReads.{alone_used, memory_alone, same_alone}
use Rattle.mr_rows.proofs.CauseLemmas.{same_reads}
use Rattle.mr_rows.specs.Reads.{IsInUse}
use Rattle.mr_sql.proofs.load.load_part.Goals as goal

pub returns-in_err-tables-clause-reads : goal.returns-in_err-tables-clause-reads
returns-in_err-tables-clause-reads g c =
    let p = err_from_is_err_and c.from_residual.result c.from_residual.ensures.1 in
    same_reads IsInUse (state g.S.Store c.args.conn.now)
    (state g.S.Store c.enough_for.new.conn) c.enough_for.result _ c.from_residual.result _ c.in_err-tables.field-0.0 (p.1 ∙ ap Err p.2) c.enough_for.ensures.reads

pub returns-clause-reads : goal.returns-clause-reads
returns-clause-reads g c =
    let old = state g.S.Store c.args.conn.now in
    let scope = scope_of c.args.scope.now in
    uses_made old (state g.S.Store c.enough_for.new.conn) c.in_ok-tables.tables (AreEnough scope (tables_in old.now.trees)) c.free_part.result _
    (λ held enough. told_two c.free_part.result _ _ _
    (λ part tells free. (λ a stands. tells a stands.sound (enough.0 ∙ ap (in_scope scope) stands.are), sym (enough.1 part.summary) ∙ free))
    c.free_part.ensures.part c.free_part.ensures.free)
    c.in_ok-tables.ensures.reads

pub returns-in_err-tables-clause-failed : goal.returns-in_err-tables-clause-failed
returns-in_err-tables-clause-failed g c =
    let p = err_from_is_err_and c.from_residual.result c.from_residual.ensures.1 in
    same_alone (state g.S.Store c.args.conn.now) (state g.S.Store c.enough_for.new.conn) c.enough_for.result c.from_residual.result c.in_err-tables.field-0.0 c.in_err-tables.was
    (p.1 ∙ ap Err p.2) c.enough_for.ensures.failed

pub returns-clause-failed : goal.returns-clause-failed
returns-clause-failed g c =
    let old = state g.S.Store c.args.conn.now in
    let t = tables_in old.now.trees in
    let scope = scope_of c.args.scope.now in
    alone_used old (state g.S.Store c.enough_for.new.conn) c.in_ok-tables.tables (AreEnough scope t) c.free_part.result c.in_ok-tables.ensures.reads
    (λ r stands enough. memory_alone c.free_part.result
    (c.free_part.ensures.only r stands.sound (enough.0 ∙ ap (in_scope scope) stands.are) (enough.1 (summary_of r) ∙ given_free scope t r stands)))
