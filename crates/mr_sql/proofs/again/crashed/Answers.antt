use Rattle.std.proofs.Common.{sym, subst, ◌∙◌, arith}
use Rattle.sqlite_trees.specs.View.{IsClean}
use Rattle.sqlite.specs.Held.{state}
use Rattle.mr_sql.proofs.TakenLemmas.{has_shelves}
use Rattle.mr_sql.proofs.again.crashed.Goals as goal

pub returns-in-Ok-over-clause-taken : goal.returns-in-Ok-over-clause-taken
returns-in-Ok-over-clause-taken g c now =
    let store = c.crash_and_reopen.new.self in
    let v = g.S.Store.view store in
    let made = c.in-Ok-over.ensures in
    let first = made.clean in
    let early : IsClean v = omega (arith, first, now) in
    let fresh = c.in-Ok.ensures.fresh in
    let unbroken = fresh.sound early in
    let o = made.opens now in
    let sound = (o.1 o.0.is_open).0 in (
      record {
        is_open = o.0.is_open;
        settled = o.0.clean;
        sound = sound;
        shelves = has_shelves v.shape v.reals v.trees (state g.S.Store c.in-Ok-over.connection).now (g.met.S.Store.ordered store unbroken) (g.met.S.Alter.listed store unbroken) (made.trees now) sound;
        unlimited = made.fresh.unlimited;
      },
      c.into_store-store.ensures.quiet.outcomes _ (subst (g.S.Store.recovers c.into_store-store.result) (sym (made.trees now ∙ fresh.clean)) (c.in-Ok.ensures.found early)),
    )
