use Rattle.std.proofs.Common.{not, map}
use Rattle.mr_model.specs.Queries.{OfVoid}
use Rattle.mr_model.specs.Tables.{CancelRow}
use Rattle.mr_service.specs.Asked.{log_line_seen}
use Rattle.mr_service.proofs.LineLists.{picked_more}
use Rattle.mr_service.proofs.log_lines.put_void.Goals as goal

pub loop-row-preserved : goal.loop-row-preserved
loop-row-preserved c =
    picked_more (λ row. OfVoid row) (λ (row : CancelRow). not row.done) (map log_line_seen c.args.lines.now.items) (map log_line_seen c.loop-row.lines.items)
    (map log_line_seen c.put_if_void.new.lines.items) c.loop-row.yielded c.in-Some.row c.loop-row.invariant c.in_ok-put_if_void.ensures.lines
