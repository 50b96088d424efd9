use Rattle.std.proofs.Common.{inl, inr, sym, ap, subst, ◌∙◌, arith}
use Rattle.std.proofs.lemmas.Result.{on_ok_weaker}
use Rattle.sqlite_trees.specs.Tree.{Trees}
use Rattle.sqlite_trees.specs.Objects.{catalog_tree}
use Rattle.sqlite_trees.specs.View.{IsClean}
use Rattle.mr_rows.specs.Database.{AreHeld, tables_in}
use Rattle.mr_changes.proofs.StepLemmas.{open_if_sound, commits_settle, commit_open, rolled_stays, on_ok_of, on_err_weaker}
use Rattle.mr_changes.proofs.changes.apply.Goals as goal

pub make-requires : goal.make-requires
make-requires g c = record {
  fit = λ clean.
      let opened = open_if_sound (g.S.Store.view c.args.store.now) (g.met.S.Store.broken_if_shut c.args.store.now) (sym (c.is_broken.ensures clean) ∙ c.if-is_broken.false) in
      (c.requires.kept clean opened).fit;
}

-- ---- committed, or not

pub returns-in-Ok-clause-clean : goal.returns-in-Ok-clause-clean
returns-in-Ok-clause-clean g c clean = c.make.ensures.step.clean (omega (arith, clean, c.commit.ensures.clean))

pub returns-in-Ok-clause-opens : goal.returns-in-Ok-clause-opens
returns-in-Ok-clause-opens g c clean _ =
    let was : IsClean (g.S.Store.view c.args.store.now) = c.make.ensures.step.clean (omega (arith, clean, c.commit.ensures.clean)) in
    open_if_sound (g.S.Store.view c.args.store.now) (g.met.S.Store.broken_if_shut c.args.store.now) (sym (c.is_broken.ensures was) ∙ c.if-is_broken.false)

pub returns-in-Ok-clause-answered : goal.returns-in-Ok-clause-answered
returns-in-Ok-clause-answered g c clean =
    let was : IsClean (g.S.Store.view c.args.store.now) = c.make.ensures.step.clean (omega (arith, clean, c.commit.ensures.clean)) in
    on_ok_of c.commit.result (open_if_sound (g.S.Store.view c.args.store.now) (g.met.S.Store.broken_if_shut c.args.store.now) (sym (c.is_broken.ensures was) ∙ c.if-is_broken.false))

pub returns-in-Ok-clause-lasts : goal.returns-in-Ok-clause-lasts
returns-in-Ok-clause-lasts g c clean =
    let old = g.S.Store.view c.args.store.now in
    let mid = g.S.Store.view c.make.new.store in
    let new = g.S.Store.view c.commit.new.self in
    let between : IsClean mid = omega (arith, clean, c.commit.ensures.clean) in
    let was : IsClean old = c.make.ensures.step.clean between in
    let opened = open_if_sound old (g.met.S.Store.broken_if_shut c.args.store.now) (sym (c.is_broken.ensures was) ∙ c.if-is_broken.false) in
    on_ok_weaker c.commit.result (λ commits. commit_open old mid new _ (c.in-Ok.ensures.made between) (commits clean) opened) c.commit.ensures.ok

pub returns-in-Ok-clause-applied : goal.returns-in-Ok-clause-applied
returns-in-Ok-clause-applied g c clean =
    let old = g.S.Store.view c.args.store.now in
    let mid = g.S.Store.view c.make.new.store in
    let new = g.S.Store.view c.commit.new.self in
    let between : IsClean mid = omega (arith, clean, c.commit.ensures.clean) in
    on_ok_weaker c.commit.result (λ commits. commits_settle old mid new _ (c.in-Ok.ensures.made between) (commits clean)) c.commit.ensures.ok

pub returns-in-Ok-clause-refused : goal.returns-in-Ok-clause-refused
returns-in-Ok-clause-refused g c clean open_now =
    let old = g.S.Store.view c.args.store.now in
    let mid = g.S.Store.view c.make.new.store in
    let new = g.S.Store.view c.commit.new.self in
    let between : IsClean mid = omega (arith, clean, c.commit.ensures.clean) in
    let was : IsClean old = c.make.ensures.step.clean between in
    let opened = open_if_sound old (g.met.S.Store.broken_if_shut c.args.store.now) (sym (c.is_broken.ensures was) ∙ c.if-is_broken.false) in
    let kept = c.requires.kept was opened in
    let shapes = (g.met.S.Store.unaltered c.args.store.now kept.fit.sound (ap (λ (trees : Trees). trees catalog_tree) kept.settled)).0 in
    on_err_weaker c.commit.result (λ back. rolled_stays old mid new kept shapes (c.make.ensures.step.kept between) back clean open_now) c.commit.ensures.err

pub returns-in-Ok-clause-crash : goal.returns-in-Ok-clause-crash
returns-in-Ok-clause-crash g c clean db left =
    let old = g.S.Store.view c.args.store.now in
    let mid = g.S.Store.view c.make.new.store in
    let between : IsClean mid = omega (arith, clean, c.commit.ensures.clean) in
    let was : IsClean old = c.make.ensures.step.clean between in
    let opened = open_if_sound old (g.met.S.Store.broken_if_shut c.args.store.now) (sym (c.is_broken.ensures was) ∙ c.if-is_broken.false) in
    let made = c.in-Ok.ensures.made between in
    elim (c.commit.ensures.crash db
    left) [ inl now ↦ inr (opened, subst AreHeld (sym now.1) made.fit.held, ap tables_in now.1 ∙ made.tables_are) | inr before ↦ inl (c.make.ensures.step.outcomes db before) ]

-- ---- rolled back

pub returns-clause-refused : goal.returns-clause-refused
returns-clause-refused g c clean open_now =
    let old = g.S.Store.view c.args.store.now in
    let mid = g.S.Store.view c.make.new.store in
    let new = g.S.Store.view c.rollback.new.self in
    let between : IsClean mid = omega (arith, clean, c.rollback.ensures.quiet.clean) in
    let was : IsClean old = c.make.ensures.step.clean between in
    let opened = open_if_sound old (g.met.S.Store.broken_if_shut c.args.store.now) (sym (c.is_broken.ensures was) ∙ c.if-is_broken.false) in
    let kept = c.requires.kept was opened in
    let shapes = (g.met.S.Store.unaltered c.args.store.now kept.fit.sound (ap (λ (trees : Trees). trees catalog_tree) kept.settled)).0 in
    rolled_stays old mid new kept shapes (c.make.ensures.step.kept between) c.rollback.ensures.undone clean open_now
