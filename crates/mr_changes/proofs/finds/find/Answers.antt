use Rattle.std.proofs.Common.{◌+◌, subst, arith, rules, w64, SFits}
use Rattle.std.proofs.lemmas.Int.{to_z-of_z}
use Rattle.sqlite_trees.specs.View.{IsClean, IsShaped}
use Rattle.mr_changes.proofs.FindLemmas.{found, missing}
use Rattle.mr_changes.proofs.finds.find.Goals as goal

pub returns-then-not-branch-clause-found : goal.returns-then-not-branch-clause-found
returns-then-not-branch-clause-found g c clean alone r here has =
    let old = g.S.Store.view c.args.store.now in
    let tree = g.R.StoredRow.form.table.tree in
    let was : IsClean old = omega (arith, clean, c.find_entry.ensures.quiet.clean) in
    let fit = c.requires.fit was in
    let up = subst (λ s. IsShaped s (old.trees (tree + 1))) (fit.trees.key tree g.met.R.PlacedRow.ours) (g.met.S.Store.ordered c.args.store.now fit.sound (tree + 1)) in
    let told = rw (c.if-not-branch.true, c.table.ensures) at (c.in_ok-find_entry.ensures.ok clean) in
    missing g.R.PlacedRow.key_at (old.trees tree) (old.trees (tree + 1)) c.args.key.now (g.met.R.PlacedRow.indexed old.trees fit.indexed) up told r here has

pub returns-in-Some-clause-found : goal.returns-in-Some-clause-found
returns-in-Some-clause-found g c clean alone =
    let old = g.S.Store.view c.args.store.now in
    let tree = g.R.StoredRow.form.table.tree in
    let was : IsClean old = omega (arith, clean, c.find_entry.ensures.quiet.clean) in
    let fit = c.requires.fit was in
    let told = rw (c.if-not-branch.false, c.table.ensures) at (c.in_ok-find_entry.ensures.ok clean) in
    let fits : SFits w64 c.in-Some.id = search rules in
    rw (to_z-of_z w64 c.in-Some.id fits) (found g.R.PlacedRow.key_at (old.trees tree) (old.trees (tree + 1)) c.args.key.now (g.met.R.OurRow.is_ours.was old.trees fit.held).shelf.rise
    (g.met.R.PlacedRow.indexed old.trees fit.indexed) alone c.in-Some.id c.find_entry.new.entry told.0.0 told.0.1 told.1 c.in-Some.ensures)
