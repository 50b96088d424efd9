use Rattle.std.proofs.Common.{◌≡◌, ℕ, take, map}
use Rattle.mr_model.specs.Texts.{numbers_on}
use Rattle.mr_tables.specs.declared.summary.Tally.{Tally}
use Rattle.mr_tables.specs.Tallied.{tallied}
use Rattle.mr_tables.proofs.vector.note_tallies.Given as goal

-- the rows so far are noted
abbrev pub invariant-loop-row : goal.invariant-loop-row
invariant-loop-row l = (f : ℕ → Tally) → l.fn.tallies ≡ map f (numbers_on 0 100) → l.tallies ≡ map (tallied (take l.row-index l.rows) f) (numbers_on 0 100)
