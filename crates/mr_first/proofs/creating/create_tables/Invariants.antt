use Rattle.std.proofs.Common.{◌≡◌, map, drop}
use Rattle.sqlite.specs.State.{HasCleanDisk, KeepsCommit, Survives}
use Rattle.sqlite.specs.Held.{state}
use Rattle.mr_first.proofs.MakeLemmas.{IsUnderWay}
use Rattle.mr_first.proofs.creating.create_tables.Given as goal

abbrev pub invariant-texts : goal.invariant-texts
invariant-texts g l =
    let first = state g.S.Store l.fn.tx.conn.now in
    let now = state g.S.Store l.tx.conn.now in
    (l.tx.conn.ghost_name ≡ l.fn.tx.conn.ghost_name) × Survives first now (λ _. ⊥) × (HasCleanDisk now → KeepsCommit first now)
    × IsUnderWay first now (map (λ text. text.now) l.texts) (map (λ text. text.now) (drop l.text-index l.texts))
