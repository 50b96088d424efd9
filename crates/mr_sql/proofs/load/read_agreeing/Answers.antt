use Rattle.std.proofs.Common.{◌≡◌, true, ◌∙◌, sym, subst, ap, Err}
use Rattle.std.proofs.lemmas.Result.{err_from_is_err_and}
use Rattle.sqlite.specs.Held.{state}
use Rattle.mr_rows.specs.Database.{tables_in}
use Rattle.mr_rows.proofs.QueryLemmas.{uses_made, told_so}
use Rattle.mr_model.specs.Changes.{AreInKeyOrder}
use Rattle.mr_model.specs.Tables.{Stands}
use Rattle.mr_model.proofs.KeyOrder.{tables_in_order}
use Rattle.mr_agree.specs.Agreeing.{agree}
use Rattle.mr_agree.proofs.TablesAgree.{standing_tables_agree}
use Rattle.mr_sql.proofs.FailedReads.{alone_used, refused_alone, same_alone}
use Rattle.mr_rows.proofs.CauseLemmas.{same_reads}
use Rattle.mr_rows.specs.Reads.{IsInUse}
use Rattle.mr_sql.proofs.load.read_agreeing.Goals as goal

pub returns-in_err-tables-clause-reads : goal.returns-in_err-tables-clause-reads
returns-in_err-tables-clause-reads g c =
    let p = err_from_is_err_and c.from_residual.result c.from_residual.ensures.1 in
    same_reads IsInUse (state g.S.Store c.args.conn.now)
    (state g.S.Store c.all_tables.new.conn) c.all_tables.result _ c.from_residual.result _ c.in_err-tables.field-0.0 (p.1 ∙ ap Err p.2) c.all_tables.ensures.reads

pub returns-clause-reads : goal.returns-clause-reads
returns-clause-reads g c =
    let old = state g.S.Store c.args.conn.now in
    uses_made old (state g.S.Store c.all_tables.new.conn) c.in_ok-tables.tables (λ t. t ≡ tables_in old.now.trees) c.agreeing.result _
    (λ held is. told_so c.agreeing.result _ _ (λ t same. same ∙ is) c.agreeing.ensures.same)
    c.in_ok-tables.ensures.reads

pub returns-in_err-tables-clause-failed : goal.returns-in_err-tables-clause-failed
returns-in_err-tables-clause-failed g c =
    let p = err_from_is_err_and c.from_residual.result c.from_residual.ensures.1 in
    same_alone (state g.S.Store c.args.conn.now) (state g.S.Store c.all_tables.new.conn) c.all_tables.result c.from_residual.result c.in_err-tables.field-0.0 c.in_err-tables.was
    (p.1 ∙ ap Err p.2) c.all_tables.ensures.failed

pub returns-clause-failed : goal.returns-clause-failed
returns-clause-failed g c =
    let old = state g.S.Store c.args.conn.now in
    let t = c.in_ok-tables.tables in
    alone_used old (state g.S.Store c.all_tables.new.conn) t (λ t. t ≡ tables_in old.now.trees) c.agreeing.result c.in_ok-tables.ensures.reads
    (λ r stands is.
    let here = subst (λ t. Stands t r) (sym is) stands in
    refused_alone c.agreeing.result ((agree t ≡ true) × AreInKeyOrder t) (standing_tables_agree t r here, subst AreInKeyOrder (sym here.are) (tables_in_order r here.sound)) c.agreeing.ensures.refused)
