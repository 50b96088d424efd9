use Rattle.std.proofs.Common.{◌≡◌, ◌++◌, take, map}
use Rattle.mr_audit.proofs.commit_numbers.push_notes.Given as goal

-- those of the rows so far
abbrev pub invariant-loop-row : goal.invariant-loop-row
invariant-loop-row g l = l.notes.items ≡ l.fn.notes.items ++ map g.R.NoteRow.note (take l.row-index l.rows)
