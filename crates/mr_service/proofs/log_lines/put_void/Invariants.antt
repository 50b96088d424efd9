use Rattle.std.proofs.Common.{◌≡◌, ◌++◌, not, map}
use Rattle.std.specs.List.{filter}
use Rattle.mr_model.specs.Queries.{OfVoid}
use Rattle.mr_model.specs.Tables.{CancelRow}
use Rattle.mr_service.specs.Asked.{log_line_seen}
use Rattle.mr_service.proofs.log_lines.put_void.Given as goal

-- those of the rows so far are put
abbrev pub invariant-loop-row : goal.invariant-loop-row
invariant-loop-row l = map log_line_seen l.lines.items ≡ map log_line_seen l.fn.lines.items ++ map (λ row. OfVoid row) (filter (λ (row : CancelRow). not row.done) l.yielded)
