use Rattle.std.proofs.Common.{◌≡◌, ◌-◌, [], length, drop}
use Rattle.mr_audit.specs.Tallies.{TellTheVector}
use Rattle.mr_audit.proofs.vector.note_tallies.Given as goal

-- the last rows are noted
abbrev pub invariant-loop-k : goal.invariant-loop-k
invariant-loop-k l = length l.fn.tallies ≡ 100 → TellTheVector [] l.fn.tallies → (length l.tallies ≡ 100) × TellTheVector (drop (length l.rows - l.k) l.rows) l.tallies
