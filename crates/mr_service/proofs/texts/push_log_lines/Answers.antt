use Rattle.std.specs.String.{string_bytes}
use Rattle.mr_model.specs.Queries.{line_logging}
use Rattle.mr_model.specs.Replies.{logging_line}
use Rattle.mr_service.specs.Asked.{log_line_seen}
use Rattle.mr_service.proofs.LineLists.{lines_more_of}
use Rattle.mr_service.proofs.texts.push_log_lines.Goals as goal

pub loop-line-preserved : goal.loop-line-preserved
loop-line-preserved c =
    lines_more_of logging_line line_logging log_line_seen (string_bytes c.args.text.now) (string_bytes c.loop-line.text) (string_bytes c.push_log_line.new.text)
    c.args.lines.now c.loop-line.line-index c.line-item.result c.loop-line.invariant c.in_ok-push_log_line.ensures c.line-item.is c.loop-line-test.true
