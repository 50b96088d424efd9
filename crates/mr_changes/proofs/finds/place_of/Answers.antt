use Rattle.std.proofs.Common.{◌≡◌, ◌++◌, ap, ◌∙◌, arith, rules, w64, SFits}
use Rattle.std.proofs.lemmas.Int.{to_z-of_z}
use Rattle.std.proofs.lemmas.Result.{IfOk-weaker}
use Rattle.sqlite_trees.specs.View.{View, IsClean}
use Rattle.mr_changes.proofs.FindLemmas.{fresh, one_has, own_place, none_of_own}
use Rattle.mr_changes.proofs.finds.place_of.Goals as goal

pub returns-in-Some-clause-place : goal.returns-in-Some-clause-place
returns-in-Some-clause-place g c clean =
    let old = g.S.Store.view c.args.store.now in
    let f = g.R.StoredRow.form in
    let rows = old.trees f.table.tree in
    let was : IsClean old = omega (arith, clean, c.find.ensures.quiet.clean) in
    let held = g.met.R.OurRow.is_ours.was old.trees (c.requires.fit was).held in
    let key : c.put_key.new.key ≡ g.R.PlacedRow.key_of c.args.row.now = c.in_ok-put_key.ensures ∙ ap (λ k. k ++ g.R.PlacedRow.key_of c.args.row.now) c.new-key.ensures in
    let told = rw (key, c.in-Some.is) at (c.in_ok-id.ensures.found clean) in
    let alone = one_has f g.R.PlacedRow.key_of g.R.PlacedRow.key_at g.met.R.PlacedRow.keyed g.met.R.PlacedRow.alike g.met.R.PlacedRow.same rows held c.args.row.now in
    let fits : SFits w64 c.in-Some.id = search rules in
    rw (to_z-of_z w64 c.in-Some.id fits)
    (own_place f g.R.PlacedRow.key_of g.R.PlacedRow.key_at g.met.R.PlacedRow.keyed g.met.R.PlacedRow.alike g.met.R.PlacedRow.same rows held c.args.row.now c.in-Some.id (told alone))

pub returns-clause-place : goal.returns-clause-place
returns-clause-place g c =
    IfOk-weaker c.next_id.result _ _
    (λ id above clean.
    let old = g.S.Store.view c.args.store.now in
    let mid = g.S.Store.view c.find.new.store in
    let f = g.R.StoredRow.form in
    let rows = old.trees f.table.tree in
    let between : IsClean mid = omega (arith, clean, c.next_id.ensures.quiet.clean) in
    let was : IsClean old = omega (arith, between, c.find.ensures.quiet.clean) in
    let held = g.met.R.OurRow.is_ours.was old.trees (c.requires.fit was).held in
    let key : c.put_key.new.key ≡ g.R.PlacedRow.key_of c.args.row.now = c.in_ok-put_key.ensures ∙ ap (λ k. k ++ g.R.PlacedRow.key_of c.args.row.now) c.new-key.ensures in
    let same : mid.trees ≡ old.trees = ap (λ (v : View). v.trees) (c.in_ok-id.ensures.reads between) in
    let told = rw (key, c.in-None.is) at (c.in_ok-id.ensures.found between) in
    let alone = one_has f g.R.PlacedRow.key_of g.R.PlacedRow.key_at g.met.R.PlacedRow.keyed g.met.R.PlacedRow.alike g.met.R.PlacedRow.same rows held c.args.row.now in
    let over = rw (c.table.ensures, same) at (above clean) in
    fresh rows id (over held.shelf.rise)
    (none_of_own f g.R.PlacedRow.key_of g.R.PlacedRow.key_at g.met.R.PlacedRow.keyed g.met.R.PlacedRow.alike g.met.R.PlacedRow.same rows held c.args.row.now (told alone))) c.next_id.ensures.above
