use Rattle.std.proofs.Common.{◌+◌, rules, refl, ap, subst, ◌∙◌, map, drop, []}
use Rattle.std.proofs.lemmas.List.{drop_more}
use Rattle.sqlite.specs.Held.{state}
use Rattle.mr_rows.proofs.StatementLemmas.{keeps_any}
use Rattle.mr_rows.proofs.StepLemmas.{none_commits, keeps_then, clean_before}
use Rattle.mr_first.proofs.MakeLemmas.{IsUnderWay, begins, goes_on}
use Rattle.mr_first.proofs.creating.create_tables.Goals as goal

pub texts-init : goal.texts-init
texts-init g c = (refl, search rules, λ clean. record { was_open = λ now. now; committed = λ _. refl }, begins (state g.S.Store c.args.tx.now.conn.now) (map (λ text. text.now) c.args.texts.now))

pub texts-preserved : goal.texts-preserved
texts-preserved g c =
    let first = state g.S.Store c.args.tx.now.conn.now in
    let now = state g.S.Store c.texts.tx.conn.now in
    let next = state g.S.Store c.execute.new.self.conn.now in (
      c.execute.ensures.same_reference ∙ c.texts.invariant.0,
      none_commits first now next c.texts.invariant.1 c.execute.ensures.survives,
      λ clean. keeps_then first now next (c.texts.invariant.2 (clean_before now next c.execute.ensures.survives clean))
          (keeps_any g.S.Store c.texts.tx.conn.now c.execute.new.self.conn.now _ [] c.execute.result (c.execute.ensures.runs clean) (λ outside. (c.execute.ensures.ended outside).1)),
      goes_on first now next (map (λ text. text.now) c.args.texts.now) (map (λ text. text.now) (drop (c.texts.text-index + 1) c.args.texts.now)) _ c.in_ok-execute.field-0
          (subst (IsUnderWay first now (map (λ text. text.now) c.args.texts.now)) (ap (map (λ text. text.now)) (drop_more c.args.texts.now c.texts.text-index _ c.texts-test.true)) c.texts.invariant.3)
          c.execute.ensures.survives c.in_ok-execute.ensures.runs,
    )
