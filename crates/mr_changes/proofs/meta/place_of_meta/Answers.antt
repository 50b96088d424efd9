use Rattle.std.proofs.Common.{refl, sym, arith, rules, w64, SFits}
use Rattle.std.proofs.lemmas.Int.{to_z-of_z}
use Rattle.sqlite_trees.specs.View.{IsClean}
use Rattle.mr_rows.specs.Form.{meta_form}
use Rattle.mr_changes.proofs.FindLemmas.{last_place, none_has}
use Rattle.mr_changes.proofs.meta.place_of_meta.Goals as goal

pub returns-then-not-branch-clause-place : goal.returns-then-not-branch-clause-place
returns-then-not-branch-clause-place g c clean r here = none_has _ r (rw c.if-not-branch.true at (c.in_ok-last.ensures.ok clean)) here

pub returns-in-Int-clause-place : goal.returns-in-Int-clause-place
returns-in-Int-clause-place g c clean =
    let old = g.S.Store.view c.args.store.now in
    let was : IsClean old = omega (arith, clean, c.last.ensures.quiet.clean) in
    let last = rw c.if-not-branch.false at (c.in_ok-last.ensures.ok clean) in
    let fits : SFits w64 c.in-Int.id = search rules in
    rw (to_z-of_z w64 c.in-Int.id fits) (last_place meta_form 1 (old.trees 0) last.0 c.last.new.row c.in-Int.id (c.requires.fit was).held.meta (λ r. refl) last.1 (sym c.in-Int.ensures))
