use Rattle.std.proofs.Common.{◌≡◌}
use Rattle.sqlite.specs.Held.{state}
use Rattle.mr_sql.proofs.ShutLemmas.{compiled_alone, compiled_lasts, compiled_open, compiled_reads, text}
use Rattle.mr_sql.proofs.shut.check_open.Goals as goal

pub returns-clause-open : goal.returns-clause-open
returns-clause-open g c =
    compiled_open (state g.S.Store c.args.conn.now) (state g.S.Store c.prepare.new.self) c.prepare.result (λ s. s.text ≡ text)
    (rw c.conn.view_is at c.prepare.ensures.ok) (rw c.conn.view_is at c.prepare.ensures.err) (rw c.conn.view_is at c.prepare.ensures.survives)
    c.without_value.result c.without_value.ensures.ok c.without_value.ensures.err

pub returns-clause-lasts : goal.returns-clause-lasts
returns-clause-lasts g c =
    compiled_lasts (state g.S.Store c.args.conn.now) (state g.S.Store c.prepare.new.self) c.prepare.result (λ s. s.text ≡ text)
    (rw c.conn.view_is at c.prepare.ensures.ok) (rw c.conn.view_is at c.prepare.ensures.err) (rw c.conn.view_is at c.prepare.ensures.survives)
    c.without_value.result c.without_value.ensures.ok c.without_value.ensures.err

pub returns-clause-reads : goal.returns-clause-reads
returns-clause-reads g c =
    compiled_reads (state g.S.Store c.args.conn.now) (state g.S.Store c.prepare.new.self) c.prepare.result (λ s. s.text ≡ text)
    (rw c.conn.view_is at c.prepare.ensures.ok) (rw c.conn.view_is at c.prepare.ensures.err) (rw c.conn.view_is at c.prepare.ensures.survives)
    c.without_value.result c.without_value.ensures.ok c.without_value.ensures.err

pub returns-clause-failed : goal.returns-clause-failed
returns-clause-failed g c =
    compiled_alone (state g.S.Store c.args.conn.now) (state g.S.Store c.prepare.new.self) c.prepare.result (λ s. s.text ≡ text)
    (rw c.conn.view_is at c.prepare.ensures.ok) (rw c.conn.view_is at c.prepare.ensures.err) (rw c.conn.view_is at c.prepare.ensures.survives)
    c.without_value.result c.without_value.ensures.ok c.without_value.ensures.err
