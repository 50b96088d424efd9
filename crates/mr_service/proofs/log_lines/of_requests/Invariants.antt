use Rattle.std.proofs.Common.{◌≡◌, map}
use Rattle.mr_model.specs.Queries.{OfLogged}
use Rattle.mr_service.specs.Asked.{log_line_seen}
use Rattle.mr_service.proofs.log_lines.of_requests.Given as goal

-- those so far
abbrev pub invariant-loop-row : goal.invariant-loop-row
invariant-loop-row l = map log_line_seen l.lines.items ≡ map (λ row. OfLogged row) l.yielded
