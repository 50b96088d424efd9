use Rattle.std.proofs.Common.{◌≡◌, drop}
use Rattle.mr_audit.specs.Turns.{are_fitting}
use Rattle.mr_audit.proofs.turns.are_fitting.Given as goal

-- all fit where the rows that are left do
abbrev pub invariant-loop-row : goal.invariant-loop-row
invariant-loop-row g l = are_fitting g.R.NoteRow.note g.S.NoteRow.note l.rows l.others ≡ are_fitting g.R.NoteRow.note g.S.NoteRow.note (drop l.row-index l.rows) l.others
