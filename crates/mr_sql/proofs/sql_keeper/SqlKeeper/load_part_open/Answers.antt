use Rattle.std.proofs.Common.{◌≡◌, false, IsTrue, refl, sym, subst}
use Rattle.sqlite.specs.Held.{state}
use Rattle.mr_model.specs.Tables.{Stands}
use Rattle.mr_part.specs.NextId.{id_given}
use Rattle.mr_part.specs.ScopeOf.{scope_of}
use Rattle.mr_store.specs.Taken.{is_id_taken}
use Rattle.mr_rows.specs.Database.{tables_in}
use Rattle.mr_rows.specs.Reads.{IsInUse}
use Rattle.mr_rows.proofs.QueryLemmas.{clean_before}
use Rattle.mr_sql.proofs.CallLemmas.{quiet_ok, quiet_err}
use Rattle.mr_sql.proofs.sql_keeper.SqlKeeper.load_part_open.Goals as goal

pub returns-in-Ok-clause-loaded : goal.returns-in-Ok-clause-loaded
returns-in-Ok-clause-loaded g c clean was_open a stands =
    let before = clean_before c.in-Ok.ensures.reads.0 clean in
    let opened = subst (λ k. IsTrue (state g.S.Store k.0).is_open) (sym c.self.view_is) was_open in
    let kept = c.self.invariant.0 before opened in
    (c.in-Ok.ensures.reads.2 clean (kept, opened)).1.0 a (subst (λ k. Stands (tables_in (state g.S.Store k.0).now.trees) a) (sym c.self.view_is) stands)

pub returns-in-Ok-clause-free : goal.returns-in-Ok-clause-free
returns-in-Ok-clause-free g c clean was_open =
    let before = clean_before c.in-Ok.ensures.reads.0 clean in
    let opened = subst (λ k. IsTrue (state g.S.Store k.0).is_open) (sym c.self.view_is) was_open in
    let kept = c.self.invariant.0 before opened in
    subst (λ k. is_id_taken (id_given (scope_of c.args.scope.now) c.in-Ok.value.summary) (tables_in (state g.S.Store k.0).now.trees) ≡ false) c.self.view_is
    (c.in-Ok.ensures.reads.2 clean (kept, opened)).1.1

pub returns-in-Ok-clause-quiet : goal.returns-in-Ok-clause-quiet
returns-in-Ok-clause-quiet g c =
    quiet_ok g.S.Store IsInUse (c.self.inside.conn, c.self.inside.failures) (c.load_part.new.conn, c.self.inside.failures) (λ clean now. (c.self.invariant.0 clean now, now))
    c.args.self.now c.in-Ok.value c.self.view_is c.requires.open c.in-Ok.ensures.reads.0 c.in-Ok.ensures.reads.1 (λ clean held. (c.in-Ok.ensures.reads.2 clean held).0) refl

pub returns-in-Err-clause-quiet : goal.returns-in-Err-clause-quiet
returns-in-Err-clause-quiet g c =
    quiet_err g.S.Store IsInUse (c.self.inside.conn, c.self.inside.failures) (c.load_part.new.conn, c.fault_of.new.failures) (λ clean now. (c.self.invariant.0 clean now, now))
    c.args.self.now c.fault_of.result c.self.view_is c.requires.open c.in-Err.ensures.reads.0 c.in-Err.ensures.reads.1 c.fault_of.ensures.counted
