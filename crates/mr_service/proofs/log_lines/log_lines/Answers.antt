use Rattle.std.proofs.Common.{not, ap, ◌∙◌, ◌++◌, map, subst}
use Rattle.std.proofs.lemmas.List.Sorted.{IsPermutation-map}
use Rattle.std.specs.List.{filter}
use Rattle.std.specs.List.Sorted.{IsPermutation}
use Rattle.mr_model.specs.Queries.{OfVoid}
use Rattle.mr_model.specs.Tables.{CancelRow}
use Rattle.mr_service.specs.Asked.{log_line_seen}
use Rattle.mr_service.proofs.log_lines.log_lines.Goals as goal

pub returns-clause-same : goal.returns-clause-same
returns-clause-same c =
    subst (λ xs. IsPermutation xs (map log_line_seen c.in_log_order.result.items))
    (c.in_ok-put_void.ensures.lines ∙ ap (λ xs. xs ++ map (λ row. OfVoid row) (filter (λ (row : CancelRow). not row.done) c.args.cancels.items)) c.in_ok-lines.ensures.lines)
    (IsPermutation-map log_line_seen c.put_void.new.lines.items c.in_log_order.result.items c.in_log_order.ensures.same)
