use Rattle.std.proofs.Common.{◌⊎◌, ℕ, IsTrue, inl, inr, refl, subst, sym}
use Rattle.sqlite_trees.specs.Tree.{Trees}
use Rattle.sqlite.specs.State.{HasCleanDisk}
use Rattle.sqlite.specs.Held.{Held, state}
use Rattle.mr_rows.proofs.QueryLemmas.{clean_before}
use Rattle.mr_sql.specs.Found.{IsRaised}
use Rattle.mr_sql.specs.Opened.{IsNewKeeper}
use Rattle.mr_sql.proofs.FirstTaken.{raised_to}
use Rattle.mr_sql.proofs.TakenLemmas.{alone}
use Rattle.mr_sql.proofs.first_keeper.FirstKeeper.move_up.Goals as goal

pub returns-in-Ok-clause-raised : goal.returns-in-Ok-clause-raised
returns-in-Ok-clause-raised g c =
    let old = state g.S.Store c.self.inside.conn in
    let new = state g.S.Store c.move_up.new.conn in
    let moves = λ (clean : HasCleanDisk new).
    let moves = c.in-Ok.ensures.moved clean (c.in-Ok.ensures.lasts clean) in
    (moves.1 (c.self.invariant (clean_before c.in-Ok.ensures.survives clean) moves.0)).0 in
    let whole : IsNewKeeper (IsRaised old.now.trees) new 0 = record {
      opens = c.in-Ok.ensures.lasts;
      opened = λ clean. raised_to old.now.trees new.now.trees (moves clean).tables_are;
      settled = λ clean. alone new (moves clean).kept (λ db left. g.met.S.Store.settled c.move_up.new.conn.store db (c.in-Ok.ensures.lasts clean) left);
      uncounted = refl;
    } in
    subst (λ (k : Held g.row.S.Denot × ℕ). IsNewKeeper (IsRaised (state g.S.Store c.args.self).now.trees) (state g.S.Store k.0) k.1) (sym c.opened.ensures)
    (subst (λ (h : Held g.row.S.Denot). IsNewKeeper (IsRaised (state g.S.Store h).now.trees) new 0) c.self.view_is whole)

pub returns-in-Err-clause-crash : goal.returns-in-Err-clause-crash
returns-in-Err-clause-crash g c =
    let old = state g.S.Store c.self.inside.conn in
    let new = state g.S.Store c.move_up.new.conn in
    let whole : HasCleanDisk new → IsTrue old.is_open → (trees : Trees) → new.may_leave trees → old.may_leave trees ⊎ IsRaised old.now.trees trees = λ clean was_open trees left.
    elim (c.in-Err.ensures.survives.crash clean trees left) [
      | inl before ↦ inl before
      | inr moves ↦ inr (raised_to old.now.trees trees (moves (c.self.invariant (clean_before c.in-Err.ensures.survives clean) was_open)))
    ] in
    subst (λ (h : Held g.row.S.Denot). HasCleanDisk new → IsTrue (state g.S.Store h).is_open → (trees : Trees) → new.may_leave trees
    → (state g.S.Store h).may_leave trees ⊎ IsRaised (state g.S.Store h).now.trees trees) c.self.view_is whole
