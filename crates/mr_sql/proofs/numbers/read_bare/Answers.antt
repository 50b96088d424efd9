use Rattle.std.proofs.Common.{◌≡◌, Ok, [], ◌∙◌, ap, Err}
use Rattle.std.proofs.lemmas.Result.{err_from_is_err_and}
use Rattle.sqlite.specs.Held.{state}
use Rattle.mr_model.specs.Scopes.{Nothing, in_scope}
use Rattle.mr_rows.specs.Database.{tables_in}
use Rattle.mr_rows.proofs.QueryLemmas.{reads_made}
use Rattle.mr_sql.proofs.FailedReads.{alone, same_alone}
use Rattle.mr_rows.proofs.CauseLemmas.{same_reads}
use Rattle.mr_rows.specs.Database.{IsKept}
use Rattle.mr_sql.proofs.numbers.read_bare.Goals as goal

pub returns-in_err-heads-clause-reads : goal.returns-in_err-heads-clause-reads
returns-in_err-heads-clause-reads g c =
    let p = err_from_is_err_and c.from_residual.result c.from_residual.ensures.1 in
    same_reads IsKept (state g.S.Store c.args.conn.now)
    (state g.S.Store c.read_heads.new.conn) c.read_heads.result _ c.from_residual.result _ c.in_err-heads.field-0.0 (p.1 ∙ ap Err p.2) c.read_heads.ensures.reads

pub returns-clause-reads : goal.returns-clause-reads
returns-clause-reads g c =
    let old = state g.S.Store c.args.conn.now in
    let t = tables_in old.now.trees in
    let bare = c.bare_tables in
    reads_made old (state g.S.Store c.read_heads.new.conn) c.in_ok-heads.heads (λ r. (r.0 ≡ t.meta) × (r.1.items ≡ t.room) × (r.2.items ≡ t.vector))
    (Ok bare.result) (λ tables. in_scope Nothing tables ≡ in_scope Nothing t)
    (λ kept is i. record {
      meta = (bare.ensures.meta ∙ is.0) i;
      room = (bare.ensures.room ∙ is.1) i;
      vector = (bare.ensures.vector ∙ is.2) i;
      log = [];
      booking = [];
      errorlog = [];
      cancelled = [];
      cancels = [];
    })
    c.in_ok-heads.ensures.reads

pub returns-in_err-heads-clause-failed : goal.returns-in_err-heads-clause-failed
returns-in_err-heads-clause-failed g c =
    let p = err_from_is_err_and c.from_residual.result c.from_residual.ensures.1 in
    same_alone (state g.S.Store c.args.conn.now) (state g.S.Store c.read_heads.new.conn) c.read_heads.result c.from_residual.result c.in_err-heads.field-0.0 c.in_err-heads.was
    (p.1 ∙ ap Err p.2) (alone (state g.S.Store c.args.conn.now) (state g.S.Store c.read_heads.new.conn) c.read_heads.result
    (λ clean here rows. c.read_heads.ensures.cause clean here (rows.0.meta, rows.1, rows.0.room, rows.0.vector)))
