use Rattle.std.proofs.Common.{◌≡◌, [], ◌∷◌, sym, ap, arith, rules, w64, SFits}
use Rattle.std.proofs.lemmas.Int.{to_z-of_z}
use Rattle.std.proofs.lemmas.Result.{on_ok_weaker}
use Rattle.sqlite_trees.specs.View.{View, IsClean}
use Rattle.mr_rows.specs.TableSteps.{rows_put}
use Rattle.mr_changes.proofs.StepLemmas.{makes_after_reads, reads_fit, read_step, step_then}
use Rattle.mr_changes.proofs.writes.put_row.Goals as goal

pub returns-in_err-id-clause-step : goal.returns-in_err-id-clause-step
returns-in_err-id-clause-step g c = read_step g.S.Store c.args.store.now c.place_of.new.store c.place_of.result c.place_of.ensures.quiet c.place_of.ensures.reads c.place_of.ensures.err

pub put_at-requires : goal.put_at-requires
put_at-requires g c = record {
  fit = λ clean.
      let was : IsClean (g.S.Store.view c.args.store.now) = omega (arith, clean, c.place_of.ensures.quiet.clean) in
      reads_fit (g.S.Store.view c.args.store.now) (g.S.Store.view c.place_of.new.store) (c.in_ok-id.ensures.reads clean) (c.requires.fit was);
}

pub returns-clause-put : goal.returns-clause-put
returns-clause-put g c =
    on_ok_weaker c.put_at.result
    (λ made clean.
    let f = g.R.StoredRow.form in
    let old = g.S.Store.view c.args.store.now in
    let mid = g.S.Store.view c.place_of.new.store in
    let new = g.S.Store.view c.put_at.new.store in
    let between : IsClean mid = c.put_at.ensures.step.clean clean in
    let reads = c.in_ok-id.ensures.reads between in
    let same : mid.trees ≡ old.trees = ap (λ (v : View). v.trees) reads in
    let fits : SFits w64 c.in_ok-id.id = search rules in
    let set = rw (to_z-of_z w64 c.in_ok-id.id fits) at (made clean) in
    let place = rw (sym same) at (c.in_ok-id.ensures.place between) in
    makes_after_reads old mid new (rows_put f g.R.OurRow.rows_of g.R.OurRow.with_rows (c.args.row.now ∷ [])) reads (set place)) c.put_at.ensures.put

pub returns-clause-step : goal.returns-clause-step
returns-clause-step g c =
    step_then g.S.Store c.args.store.now c.place_of.new.store c.put_at.new.store
    (read_step g.S.Store c.args.store.now c.place_of.new.store c.place_of.result c.place_of.ensures.quiet c.place_of.ensures.reads c.place_of.ensures.err) c.put_at.ensures.step
