use Rattle.std.proofs.Common.{inl, inr, IsTrue, sym, subst}
use Rattle.std.proofs.lemmas.Bool.{cases_Bool}
use Rattle.sqlite.specs.Held.{Held, state}
use Rattle.mr_rows.specs.Schema.{our_schema}
use Rattle.mr_sql.specs.Found.{IsResumed}
use Rattle.mr_sql.proofs.AgainLemmas.{resumed_ours}
use Rattle.mr_sql.proofs.OpeningLaws.{keeper_so}
use Rattle.mr_sql.proofs.TakenLemmas.{sound_as}
use Rattle.mr_sql.proofs.sql_keeper.SqlKeeper.found_again.Goals as goal

pub returns-in-Ok-clause-found : goal.returns-in-Ok-clause-found
returns-in-Ok-clause-found g c =
    let s = state g.S.Store c.in_ok-conn.conn in
    let is : IsTrue c.is_ours.result = elim (cases_Bool c.is_ours.result) [ inl yes' ↦ yes' | inr no' ↦ absurd (let other = c.if-not-is_ours.false in cc) ] in
    keeper_so (IsResumed s.now.trees) (g.S.Store.recovers c.args.keeper.0.store) (state g.S.Store c.in-Ok.keeper.0) c.in-Ok.keeper.1
    (λ clean after are.
    let (taken, left) = c.in_ok-conn.ensures.taken (c.in-Ok.ensures.clean clean) in
    subst (g.S.Store.recovers c.args.keeper.0.store) (sym (resumed_ours s.now.trees after (sound_as s our_schema taken (c.is_ours.ensures.same is)) are))
    (subst (λ (h : Held g.row.S.Denot). g.S.Store.recovers h.store s.now.trees) c.release.ensures left))
    c.in-Ok.ensures.opened
