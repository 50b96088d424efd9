use Rattle.std.proofs.Common.{◌≡◌, drop, map}
use Rattle.std.specs.List.{list_all}
use Rattle.mr_agree.specs.Agreeing.{does_time_agree}
use Rattle.mr_audit.proofs.times.do_row_times_agree.Given as goal

-- all agree where the rows that are left do
abbrev pub invariant-loop-row : goal.invariant-loop-row
invariant-loop-row g l = list_all (does_time_agree l.tables) (map g.R.NoteRow.note l.rows) ≡ list_all (does_time_agree l.tables) (map g.R.NoteRow.note (drop l.row-index l.rows))
