use Rattle.std.proofs.Common.{rules}
use Rattle.std.proofs.lemmas.Fn.{filter_same}
use Rattle.mr_service.proofs.calendars.committed_alone.Goals as goal

pub returns : goal.returns
returns c = filter_same _ (λ row. row.committed) _ (λ x b f' k. search rules) _ _ c.retain.ensures.filtered
