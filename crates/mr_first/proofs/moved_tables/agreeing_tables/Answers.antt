use Rattle.std.proofs.Common.{◌≡◌, ◌∙◌, true, sym, ap, subst, Err}
use Rattle.std.proofs.lemmas.Result.{err_from_is_err_and}
use Rattle.mr_rows.proofs.CauseLemmas.{same_error}
use Rattle.sqlite_trees.specs.Tree.{Trees}
use Rattle.mr_model.specs.First.{FirstTables, moved}
use Rattle.mr_model.specs.Changes.{AreInKeyOrder}
use Rattle.mr_agree.specs.Agreeing.{agree}
use Rattle.mr_rows.proofs.QueryLemmas.{told_two}
use Rattle.mr_first.specs.FirstDatabase.{first_in}
use Rattle.mr_first.specs.MovedUp.{ArePaired, CanMoveUp}
use Rattle.mr_first.proofs.ReadLemmas.{err_so}
use Rattle.mr_first.proofs.moved_tables.agreeing_tables.Goals as goal

pub returns-clause-moved : goal.returns-clause-moved
returns-clause-moved c = told_two c.agreeing.result _ _ _ (λ t same agrees trees is. let all = c.in_ok-tables.ensures.moved trees is in
    (same ∙ all, ap agree (sym all) ∙ agrees)) c.agreeing.ensures.same c.agreeing.ensures.agree

pub returns-in_err-tables-clause-refused : goal.returns-in_err-tables-clause-refused
returns-in_err-tables-clause-refused c =
    let first = c.args.first in
    let p = err_from_is_err_and c.from_residual.result c.from_residual.ensures.1 in
    same_error c.moved_tables.result c.from_residual.result c.in_err-tables.field-0.0 _ c.in_err-tables.was
    (p.1 ∙ ap Err p.2) (err_so {Q = (trees : Trees) × (first ≡ first_in trees) × CanMoveUp trees} c.moved_tables.result
    (λ (trees, is, can). subst (λ (x : FirstTables). ArePaired x.write_log x.undo) (sym is) can.paired) c.moved_tables.ensures.refused)

pub returns-clause-refused : goal.returns-clause-refused
returns-clause-refused c =
    let first = c.args.first in
    err_so {Q = (trees : Trees) × (first ≡ first_in trees) × CanMoveUp trees} c.agreeing.result (λ (trees, is, can). let all = c.in_ok-tables.ensures.moved trees is in
    subst (λ t. (agree t ≡ true) × AreInKeyOrder t) (sym (all ∙ ap moved is)) (can.agrees, can.in_order)) c.agreeing.ensures.refused
