use Rattle.std.proofs.Common.{◌≡◌, None, ap, subst, ◌∙◌, arith}
use Rattle.std.proofs.lemmas.Result.{IfOk-weaker}
use Rattle.sqlite_trees.specs.Tree.{Trees}
use Rattle.sqlite_trees.specs.View.{View, IsClean}
use Rattle.mr_store.specs.Picked.{find_booking, IsPlaceOf}
use Rattle.mr_trees.specs.TreeTables.{tables_shown}
use Rattle.mr_trees.proofs.TableLemmas.{booking_shown}
use Rattle.mr_trees.proofs.places.place_of.Goals as goal

pub returns-in-Some-clause-ok : goal.returns-in-Some-clause-ok
returns-in-Some-clause-ok g c clean =
    booking_shown c.args.room.now c.args.id (g.S.Store.view c.args.store.now).trees ∙ c.in_ok-row.ensures.ok clean ∙ c.in-Some.is

pub returns-in-None-clause-ok : goal.returns-in-None-clause-ok
returns-in-None-clause-ok g c =
    IfOk-weaker c.logged_at.result _ _
    (λ row told clean.
    let once : IsClean (g.S.Store.view c.row_with.new.store) = omega (arith, c.logged_at.ensures.quiet.clean, clean) in
    let none = booking_shown c.args.room.now c.args.id (g.S.Store.view c.args.store.now).trees ∙ c.in_ok-row.ensures.ok once ∙ c.in-None.is in
    let same = ap (λ (v : View). v.trees) (c.in_ok-row.ensures.same once) in
    subst (λ (trees : Trees). find_booking c.args.room.now c.args.id (tables_shown trees) ≡ None
    → IsPlaceOf c.args.room.now c.args.id (tables_shown trees) row) same (told clean) none) c.logged_at.ensures.ok
