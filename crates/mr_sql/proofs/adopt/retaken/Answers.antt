use Rattle.std.proofs.Common.{◌≡◌, true, false, inl, inr, IsTrue, sym, subst, ◌∙◌, arith}
use Rattle.std.proofs.lemmas.Bool.{cases_Bool}
use Rattle.sqlite_trees.specs.View.{IsClean}
use Rattle.sqlite_catalog.specs.Listing.{IsSound}
use Rattle.sqlite.specs.Held.{state}
use Rattle.mr_rows.specs.Schema.{our_schema}
use Rattle.mr_sql.proofs.FailedLemmas.{not_opened}
use Rattle.mr_sql.proofs.TakenLemmas.{has_shelves}
use Rattle.mr_sql.proofs.adopt.retaken.Goals as goal

pub returns-in-Ok-clause-taken : goal.returns-in-Ok-clause-taken
returns-in-Ok-clause-taken g c now =
    let store = c.into_store-store.result in
    let v = g.S.Store.view store in
    let made = c.in-Ok.ensures in
    let first = made.clean in
    let early : IsClean v = omega (arith, first, now) in
    let unbroken : v.is_broken ≡ false = sym (c.is_broken.ensures early) ∙ c.if-is_broken.false in
    let is_open : IsTrue v.is_open =
    elim (cases_Bool v.is_open) [
      | inl opened ↦ opened
      | inr shut ↦ absurd (let broken = g.met.S.Store.broken_if_shut store shut in cc)
    ] in
    let back = (c.into_store-store.ensures.undone).undone is_open in
    let o = made.opens now in
    let sound = (o.1 o.0.is_open).0 in (
      record {
        is_open = o.0.is_open;
        settled = o.0.clean;
        sound = sound;
        shelves = has_shelves v.shape v.reals v.trees (state g.S.Store c.in-Ok.connection).now (g.met.S.Store.ordered store unbroken) (g.met.S.Alter.listed store unbroken) (made.trees now) sound;
        unlimited = made.fresh.unlimited;
      },
      made.trees now ∙ back.0,
    )

-- a store is broken if its rollback failed, or it was shut
pub returns-then-is_broken-clause-refused : goal.returns-then-is_broken-clause-refused
returns-then-is_broken-clause-refused g c =
    let store = c.into_store-store.result in
    let v = g.S.Store.view store in
    let undone = c.into_store-store.ensures.undone in
    record {
      cause = inr (cc);
      back = λ clean now. (undone.undone now).0;
      failed_back = λ clean held is.
          let broken : v.is_broken ≡ true = sym (c.is_broken.ensures clean) ∙ c.if-is_broken.true in
          elim (cases_Bool (state g.S.Store c.args.conn).is_open) [
            | inl opened ↦ elim (c.into_store-store.ensures.quiet.closes clean opened) [
              | inl still ↦ absurd (let never = sym broken ∙ (undone.undone still).1 in cc)
              | inr more ↦ inl more
            ]
            | inr shut ↦ inr shut
          ];
      crash_back = λ trees left. c.into_store-store.ensures.quiet.outcomes trees left;
    }

pub returns-in-Err-clause-refused : goal.returns-in-Err-clause-refused
returns-in-Err-clause-refused g c =
    let store = c.into_store-store.result in
    let v = g.S.Store.view store in
    let faults = g.S.Store.faults in
    let first = c.in-Err.ensures.unharmed.clean in
    let undone : IsClean (g.S.Store.view c.in-Err.left) → v.trees ≡ (state g.S.Store c.args.conn).committed.trees = λ clean.
    let early : IsClean v = omega (arith, first, clean) in
    let unbroken : v.is_broken ≡ false = sym (c.is_broken.ensures early) ∙ c.if-is_broken.false in
    let is_open : IsTrue v.is_open =
    elim (cases_Bool v.is_open) [
      | inl opened ↦ opened
      | inr shut ↦ absurd (let broken = g.met.S.Store.broken_if_shut store shut in cc)
    ] in
    ((c.into_store-store.ensures.undone).undone is_open).0 in
    record {
      cause = c.refusal_of.ensures.cause;
      back = λ clean now. c.in-Err.ensures.rows clean now ∙ undone clean;
      failed_back = λ clean held is.
          inl (not_opened v.trees our_schema (faults c.args.conn.store) (faults store) (faults c.in-Err.left) c.in-Err.error (subst (IsSound our_schema) (sym (undone clean)) held.0)
          c.into_store-store.ensures.quiet.counts (c.in-Err.ensures.err clean) (λ out. let both = sym (c.refusal_of.ensures.memory out) ∙ is in cc));
      crash_back = λ trees left. c.into_store-store.ensures.quiet.outcomes trees (c.in-Err.ensures.unharmed.outcomes trees left);
    }
