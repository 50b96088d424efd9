use Rattle.std.proofs.Common.{◌≡◌, true, IsTrue, OnErr, refl, arith}
use Rattle.sqlite.specs.State.{HasCleanDisk}
use Rattle.sqlite.specs.Held.{Held, state}
use Rattle.mr_rows.specs.Schema.{no_schema}
use Rattle.mr_sql.proofs.CreateLemmas.{commit_fails}
use Rattle.mr_sql.proofs.create.create.Goals as goal
use Rattle.mr_replica.proofs.RowsById.{on_err}

pub returns-in_err-commit-clause-refused : goal.returns-in_err-commit-clause-refused
returns-in_err-commit-clause-refused g c =
    let old = c.args.conn.now in
    let last = c.fill.new.tx.conn.now in
    let P = λ (h : Held g.row.S.Denot). HasCleanDisk (state g.S.Store h) → IsTrue (state g.S.Store h).is_open
    → (state g.S.Store old).now.schema ≡ no_schema → (state g.S.Store old).now ≡ (state g.S.Store old).committed
    → OnErr c.from_residual-in_err-commit.result (((state g.S.Store h).now ≡ (state g.S.Store old).now) × ((state g.S.Store h).committed ≡ (state g.S.Store old).committed)) in
    let filled = rw c.conn.view_is at (rw c.transaction-tx.ensures.begun at c.in_ok-fill.ensures.filled) in
    let whole : P c.commit.new.self.0 = λ clean now blank settled.
    on_err c.from_residual-in_err-commit.result
    (commit_fails (state g.S.Store (record old { in_transaction = true })) (state g.S.Store last) (state g.S.Store c.commit.new.self.0) _ _
    (filled (omega (arith, c.commit.ensures.survives.clean, clean)) refl blank) (c.in_err-commit.ensures.err clean) now settled) in
    whole
