use Rattle.std.proofs.Common.{sym, subst}
use Rattle.sqlite.specs.Held.{state}
use Rattle.mr_sql.specs.Opened.{IsNewKeeper}
use Rattle.mr_sql.specs.Opening.{AreTakenAs}
use Rattle.mr_rows.proofs.QueryLemmas.{clean_before}
use Rattle.mr_sql.proofs.OpeningLaws.{given_back, new_keeper}
use Rattle.mr_sql.proofs.sql_keeper.SqlKeeper.over.Goals as goal

pub returns-in-Ok-clause-opened : goal.returns-in-Ok-clause-opened
returns-in-Ok-clause-opened g c =
    let old = state g.S.Store c.args.conn in
    let new = state g.S.Store c.open_tables.new.conn in
    subst (λ k. IsNewKeeper (AreTakenAs c.args.whose old.now.trees) (state g.S.Store k.0) k.1) (sym c.opened.ensures)
    (new_keeper c.args.whose old new c.in-Ok.fresh c.requires.taken c.in-Ok.ensures.opening (λ db now left. g.met.S.Store.settled c.open_tables.new.conn.store db now left))

pub returns-in-Ok-clause-clean : goal.returns-in-Ok-clause-clean
returns-in-Ok-clause-clean g c = rw c.opened.ensures (λ clean. clean_before c.in-Ok.ensures.opening.survives clean)

pub returns-in-Err-clause-refused : goal.returns-in-Err-clause-refused
returns-in-Err-clause-refused g c clean =
    given_back c.args.whose (state g.S.Store c.args.conn) (state g.S.Store c.open_tables.new.conn) c.in-Err.refusal c.requires.taken c.in-Err.ensures.opening
    (λ db now left. g.met.S.Store.settled c.args.conn.store db now left) clean

pub opened-requires-clause-kept : goal.opened-requires-clause-kept
opened-requires-clause-kept g c clean now = (c.in-Ok.ensures.opening.opened clean (c.requires.taken (clean_before c.in-Ok.ensures.opening.survives clean))).kept

pub opened-requires-clause-fresh : goal.opened-requires-clause-fresh
opened-requires-clause-fresh g c clean now = (c.in-Ok.ensures.opening.opened clean (c.requires.taken (clean_before c.in-Ok.ensures.opening.survives clean))).fresh
