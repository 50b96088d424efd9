use Rattle.std.proofs.Common.{inl, inr, sym, ap, subst, ◌∙◌}
use Rattle.sqlite.specs.Effect.{Database}
use Rattle.sqlite.specs.Held.{state}
use Rattle.mr_rows.specs.Database.{tables_in}
use Rattle.mr_rows.proofs.QueryLemmas.{clean_before}
use Rattle.mr_sql.specs.Opening.{IsLeftOpen}
use Rattle.mr_sql.proofs.sql_keeper.SqlKeeper.agreeing.Goals as goal

pub returns-in-Ok-clause-same : goal.returns-in-Ok-clause-same
returns-in-Ok-clause-same g c =
    let old = state g.S.Store c.self.inside.conn in
    let new = state g.S.Store c.read_agreeing.new.conn in
    let read = c.in-Ok.ensures.reads in
    let whole : IsLeftOpen old new = record {
      clean = λ clean. clean_before read.0 clean;
      was_open = λ clean now. (read.1 clean now).0;
      lasts = λ clean was. (read.2 clean (c.self.invariant.0 (clean_before read.0 clean) was, was)).0;
      same = λ clean now. let before = read.1 clean now in (before.1 (c.self.invariant.0 (clean_before read.0 clean) before.0, before.0)).0;
      settled = λ clean now settled u left.
          let before = read.1 clean now in
          let kept = c.self.invariant.0 (clean_before read.0 clean) before.0 in
          let same = before.1 (kept, before.0) in
          elim (read.0.crash clean left.0 left.1)
          [ inl earlier ↦ settled u (left.0, earlier, left.2) ∙ ap (λ (d : Database). tables_in d.trees) (sym same.0) | inr none ↦ absurd (none (kept, before.0)) ];
    } in
    subst (λ k. IsLeftOpen (state g.S.Store k.0) new) c.self.view_is whole
