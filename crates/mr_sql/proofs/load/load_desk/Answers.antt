use Rattle.std.proofs.Common.{◌≡◌, subst, sym, ◌∙◌, ap, Err}
use Rattle.std.proofs.lemmas.Result.{err_from_is_err_and}
use Rattle.sqlite.specs.Held.{state}
use Rattle.mr_model.specs.Tables.{Stands}
use Rattle.mr_rows.specs.Database.{tables_in}
use Rattle.mr_rows.proofs.QueryLemmas.{reads_made, told_so}
use Rattle.mr_sql.proofs.FailedReads.{alone, alone_made, memory_alone, same_alone}
use Rattle.mr_rows.proofs.CauseLemmas.{same_reads}
use Rattle.mr_rows.specs.Database.{IsKept}
use Rattle.mr_sql.proofs.load.load_desk.Goals as goal

pub returns-in_err-tables-clause-reads : goal.returns-in_err-tables-clause-reads
returns-in_err-tables-clause-reads g c =
    let p = err_from_is_err_and c.from_residual.result c.from_residual.ensures.1 in
    same_reads IsKept (state g.S.Store c.args.conn.now)
    (state g.S.Store c.read_tables.new.conn) c.read_tables.result _ c.from_residual.result _ c.in_err-tables.field-0.0 (p.1 ∙ ap Err p.2) c.read_tables.ensures.reads

pub returns-clause-reads : goal.returns-clause-reads
returns-clause-reads g c =
    let old = state g.S.Store c.args.conn.now in
    reads_made old (state g.S.Store c.read_tables.new.conn) c.in_ok-tables.tables (λ t. t ≡ tables_in old.now.trees) c.desk_of.result _
    (λ kept is. told_so c.desk_of.result _ _ (λ desk stands a of_tables. stands a (subst (λ t. Stands t a) (sym is) of_tables)) c.desk_of.ensures.stands)
    c.in_ok-tables.ensures.reads

pub returns-in_err-tables-clause-failed : goal.returns-in_err-tables-clause-failed
returns-in_err-tables-clause-failed g c =
    let p = err_from_is_err_and c.from_residual.result c.from_residual.ensures.1 in
    same_alone (state g.S.Store c.args.conn.now) (state g.S.Store c.read_tables.new.conn) c.read_tables.result c.from_residual.result c.in_err-tables.field-0.0 c.in_err-tables.was
    (p.1 ∙ ap Err p.2) (alone (state g.S.Store c.args.conn.now) (state g.S.Store c.read_tables.new.conn) c.read_tables.result c.read_tables.ensures.cause)

pub returns-clause-failed : goal.returns-clause-failed
returns-clause-failed g c =
    let old = state g.S.Store c.args.conn.now in
    alone_made old (state g.S.Store c.read_tables.new.conn) c.in_ok-tables.tables (λ t. t ≡ tables_in old.now.trees) c.desk_of.result c.in_ok-tables.ensures.reads
    (λ r stands is. memory_alone c.desk_of.result (c.desk_of.ensures.only r (subst (λ t. Stands t r) (sym is) stands)))
