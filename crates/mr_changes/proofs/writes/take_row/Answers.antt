use Rattle.std.proofs.Common.{◌≡◌, [], ◌∷◌, ◌++◌, sym, ap, subst, ◌∙◌, arith, rules, w64, SFits}
use Rattle.std.proofs.lemmas.Int.{to_z-of_z}
use Rattle.std.proofs.lemmas.Result.{on_ok_weaker}
use Rattle.sqlite_trees.specs.View.{View, IsClean}
use Rattle.mr_model.specs.Replica.{is_among}
use Rattle.mr_rows.specs.TableSteps.{rows_taken}
use Rattle.mr_changes.specs.Found.{id_key}
use Rattle.mr_changes.specs.Steps.{Makes}
use Rattle.mr_changes.proofs.FindLemmas.{one_id, gone_at, none_gone}
use Rattle.mr_changes.proofs.StepLemmas.{takes_one, taken_same, makes_same, makes_after_reads, reads_fit, read_step, write_step, step_none, step_then}
use Rattle.mr_changes.proofs.writes.take_row.Goals as goal

pub returns-in_err-put_id-clause-step : goal.returns-in_err-put_id-clause-step
returns-in_err-put_id-clause-step g c = step_none g.S.Store c.args.store.now

pub returns-in_err-rowid-clause-step : goal.returns-in_err-rowid-clause-step
returns-in_err-rowid-clause-step g c = read_step g.S.Store c.args.store.now c.find.new.store c.find.result c.find.ensures.quiet c.find.ensures.reads c.find.ensures.err

pub delete-requires-clause-ready : goal.delete-requires-clause-ready
delete-requires-clause-ready g c clean =
    let old = g.S.Store.view c.args.store.now in
    let mid = g.S.Store.view c.find.new.store in
    let was : IsClean old = omega (arith, clean, c.find.ensures.quiet.clean) in
    let fit = reads_fit old mid (c.in_ok-rowid.ensures.reads clean) (c.requires.fit was) in
    c.indexes.ensures.ready mid fit.trees fit.indexed

pub delete-requires-clause-table : goal.delete-requires-clause-table
delete-requires-clause-table g c clean =
    let old = g.S.Store.view c.args.store.now in
    let mid = g.S.Store.view c.find.new.store in
    let was : IsClean old = omega (arith, clean, c.find.ensures.quiet.clean) in
    let fit = reads_fit old mid (c.in_ok-rowid.ensures.reads clean) (c.requires.fit was) in
    rw c.table.ensures (fit.trees.table g.R.StoredRow.form.table.tree g.met.R.PlacedRow.ours)

pub returns-in-Some-clause-taken : goal.returns-in-Some-clause-taken
returns-in-Some-clause-taken g c =
    on_ok_weaker c.delete.result
    (λ set clean.
    let f = g.R.StoredRow.form in
    let id = c.args.id in
    let old = g.S.Store.view c.args.store.now in
    let mid = g.S.Store.view c.find.new.store in
    let new = g.S.Store.view c.delete.new.store in
    let between : IsClean mid = omega (arith, clean, c.delete.ensures.quiet.clean) in
    let was : IsClean old = omega (arith, between, c.find.ensures.quiet.clean) in
    let reads = c.in_ok-rowid.ensures.reads between in
    let same : mid.trees ≡ old.trees = ap (λ (v : View). v.trees) reads in
    let fit = reads_fit old mid reads (c.requires.fit was) in
    let held = g.met.R.OurRow.is_ours.was mid.trees fit.held in
    let key : c.put_id.new.key ≡ id_key id = c.in_ok-put_id.ensures ∙ ap (λ k. k ++ id_key id) c.new-key.ensures in
    let told = rw (key, c.in-Some.is, sym same) at (c.in_ok-rowid.ensures.found between) in
    let rows = mid.trees f.table.tree in
    let alone = one_id f g.R.PlacedRow.key_of g.R.PlacedRow.key_at g.met.R.PlacedRow.keyed g.met.R.PlacedRow.alike g.R.IdRow.id_of g.met.R.IdRow.by_id rows held id in
    let fits : SFits w64 c.in-Some.rowid = search rules in
    let sets = rw (to_z-of_z w64 c.in-Some.rowid fits) at (set clean) in
    let gone = gone_at f g.R.PlacedRow.key_of g.R.PlacedRow.key_at g.met.R.PlacedRow.keyed g.met.R.PlacedRow.alike g.R.IdRow.id_of g.met.R.IdRow.by_id rows held id c.in-Some.rowid (told alone) in
    makes_after_reads old mid new (rows_taken g.R.IdRow.id_of g.R.OurRow.rows_of g.R.OurRow.with_rows (id ∷ [])) reads
    (takes_one f g.met.R.StoredRow.order g.R.OurRow.rows_of g.R.OurRow.with_rows g.met.R.OurRow.is_ours c.indexes.result.now c.indexes.ensures.indexed mid new c.table.result c.in-Some.rowid
    c.table.ensures fit (λ x. is_among (g.R.IdRow.id_of x) (id ∷ [])) gone sets)) c.delete.ensures.ok

pub returns-in-Some-clause-step : goal.returns-in-Some-clause-step
returns-in-Some-clause-step g c =
    step_then g.S.Store c.args.store.now c.find.new.store c.delete.new.store
    (read_step g.S.Store c.args.store.now c.find.new.store c.find.result c.find.ensures.quiet c.find.ensures.reads c.find.ensures.err)
    (write_step g.S.Store c.find.new.store c.delete.new.store c.delete.result c.delete.ensures.quiet c.delete.ensures.frame c.delete.ensures.err)

pub returns-clause-taken : goal.returns-clause-taken
returns-clause-taken g c clean =
    let f = g.R.StoredRow.form in
    let id = c.args.id in
    let old = g.S.Store.view c.args.store.now in
    let mid = g.S.Store.view c.find.new.store in
    let was : IsClean old = omega (arith, clean, c.find.ensures.quiet.clean) in
    let fit = c.requires.fit was in
    let held = g.met.R.OurRow.is_ours.was old.trees fit.held in
    let key : c.put_id.new.key ≡ id_key id = c.in_ok-put_id.ensures ∙ ap (λ k. k ++ id_key id) c.new-key.ensures in
    let told = rw (key, c.in-None.is) at (c.in_ok-rowid.ensures.found clean) in
    let rows = old.trees f.table.tree in
    let alone = one_id f g.R.PlacedRow.key_of g.R.PlacedRow.key_at g.met.R.PlacedRow.keyed g.met.R.PlacedRow.alike g.R.IdRow.id_of g.met.R.IdRow.by_id rows held id in
    let none = none_gone f g.R.PlacedRow.key_of g.R.PlacedRow.key_at g.met.R.PlacedRow.keyed g.met.R.PlacedRow.alike g.R.IdRow.id_of g.met.R.IdRow.by_id rows held id
    (told alone) g.met.R.StoredRow.order in
    subst (Makes old mid) (sym (taken_same f g.R.OurRow.rows_of g.R.OurRow.with_rows g.met.R.OurRow.is_ours g.R.IdRow.id_of (id ∷ []) old.trees none))
    (makes_same old mid (c.in_ok-rowid.ensures.reads clean) fit)

pub returns-clause-step : goal.returns-clause-step
returns-clause-step g c = read_step g.S.Store c.args.store.now c.find.new.store c.find.result c.find.ensures.quiet c.find.ensures.reads c.find.ensures.err
