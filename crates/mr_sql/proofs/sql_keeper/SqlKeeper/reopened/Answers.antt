use Rattle.std.proofs.Common.{sym, subst}
use Rattle.sqlite.specs.Held.{Held, state}
use Rattle.sqlite.specs.State.{HasCleanDisk}
use Rattle.sqlite_trees.specs.Tree.{Trees}
use Rattle.mr_sql.specs.Opening.{AreTakenAs, RefusesFor}
use Rattle.mr_sql.proofs.OpeningLaws.{keeper_so}
use Rattle.mr_sql.proofs.sql_keeper.SqlKeeper.reopened.Goals as goal

pub over-requires : goal.over-requires
over-requires g c = record { taken = λ clean. (c.in-Ok.ensures.taken clean).0 }

pub returns-in-Ok-over-clause-opened : goal.returns-in-Ok-over-clause-opened
returns-in-Ok-over-clause-opened g c =
    keeper_so (AreTakenAs c.args.whose (state g.S.Store c.in-Ok.conn).now.trees)
    (AreTakenAs c.args.whose (state g.S.Store c.args.conn).committed.trees) (state g.S.Store c.in-Ok-over.keeper.0) c.in-Ok-over.keeper.1
    (λ clean after are. subst (λ (before : Trees). AreTakenAs c.args.whose before after) (c.in-Ok.ensures.taken (c.in-Ok-over.ensures.clean clean)).1 are) c.in-Ok-over.ensures.opened

pub returns-in-Err-over-clause-refused : goal.returns-in-Err-over-clause-refused
returns-in-Err-over-clause-refused g c =
    let old = state g.S.Store c.args.conn in
    subst (λ (h : Held g.row.S.Denot). HasCleanDisk (state g.S.Store h)
    → HasCleanDisk old × RefusesFor c.args.whose old.committed.trees c.in-Err-over.refusal (state g.S.Store h)) (sym c.conn.view_is) (λ clean.
    let told = c.in-Err-over.ensures.refused clean in
    (c.in-Ok.ensures.clean told.0, subst (λ (before : Trees). RefusesFor c.args.whose before c.in-Err-over.refusal (state g.S.Store c.in-Err-over.conn)) (c.in-Ok.ensures.taken told.0).1 told.1))
