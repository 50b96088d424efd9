use Rattle.std.proofs.Common.{◌≡◌, None, ap, subst, ◌∙◌, arith}
use Rattle.std.proofs.lemmas.Result.{IfOk-weaker}
use Rattle.sqlite_trees.specs.Tree.{Trees}
use Rattle.sqlite_trees.specs.View.{View, IsClean}
use Rattle.mr_store.specs.Picked.{find_booking, find_error, IsPlaceOf}
use Rattle.mr_trees.specs.TreeTables.{tables_shown}
use Rattle.mr_trees.proofs.TableLemmas.{error_shown}
use Rattle.mr_trees.proofs.places.logged_at.Goals as goal

pub returns-in-Some-clause-ok : goal.returns-in-Some-clause-ok
returns-in-Some-clause-ok g c clean unbooked =
    (unbooked, error_shown c.args.room.now c.args.id (g.S.Store.view c.args.store.now).trees ∙ c.in_ok-row.ensures.ok clean ∙ c.in-Some.is)

pub returns-in-None-clause-ok : goal.returns-in-None-clause-ok
returns-in-None-clause-ok g c =
    IfOk-weaker c.cancelled_at.result _ _
    (λ row told clean unbooked.
    let once : IsClean (g.S.Store.view c.row_with.new.store) = omega (arith, c.cancelled_at.ensures.quiet.clean, clean) in
    let none = error_shown c.args.room.now c.args.id (g.S.Store.view c.args.store.now).trees ∙ c.in_ok-row.ensures.ok once ∙ c.in-None.is in
    let same = ap (λ (v : View). v.trees) (c.in_ok-row.ensures.same once) in
    subst (λ (trees : Trees). find_booking c.args.room.now c.args.id (tables_shown trees) ≡ None → find_error c.args.room.now c.args.id (tables_shown trees) ≡ None
    → IsPlaceOf c.args.room.now c.args.id (tables_shown trees) row) same (told clean) unbooked none) c.cancelled_at.ensures.ok
