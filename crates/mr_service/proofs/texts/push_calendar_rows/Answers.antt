use Rattle.std.specs.String.{string_bytes}
use Rattle.mr_model.specs.Queries.{row_entry}
use Rattle.mr_model.specs.Replies.{calendar_line}
use Rattle.mr_service.proofs.LineLists.{lines_more}
use Rattle.mr_service.proofs.texts.push_calendar_rows.Goals as goal

pub loop-row-preserved : goal.loop-row-preserved
loop-row-preserved c =
    lines_more calendar_line row_entry (string_bytes c.args.text.now) (string_bytes c.loop-row.text) (string_bytes c.push_calendar_row.new.text)
    c.args.rows.now c.loop-row.row-index c.row-item.result c.loop-row.invariant c.in_ok-push_calendar_row.ensures c.row-item.is c.loop-row-test.true
