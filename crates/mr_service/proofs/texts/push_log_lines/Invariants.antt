use Rattle.std.proofs.Common.{◌≡◌, ◌++◌, map, take}
use Rattle.std.specs.String.{string_bytes}
use Rattle.mr_model.specs.Texts.{lines_text}
use Rattle.mr_model.specs.Queries.{line_logging}
use Rattle.mr_model.specs.Replies.{logging_line}
use Rattle.mr_service.specs.Asked.{log_line_seen}
use Rattle.mr_service.proofs.texts.push_log_lines.Given as goal

-- the lines so far
abbrev pub invariant-loop-line : goal.invariant-loop-line
invariant-loop-line l = string_bytes l.text ≡ string_bytes l.fn.text ++ lines_text (map logging_line (map line_logging (map log_line_seen (take l.line-index l.lines))))
