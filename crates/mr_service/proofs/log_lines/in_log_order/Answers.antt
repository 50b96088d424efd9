use Rattle.std.proofs.Common.{◌≡◌, rules}
use Rattle.std.proofs.lemmas.Fn.{always_returns_same}
use Rattle.mr_service.specs.Questions.{line_key}
use Rattle.mr_service.proofs.log_lines.in_log_order.Goals as goal

pub returns-clause-order : goal.returns-clause-order
returns-clause-order c = c.sort_unstable_by_key.ensures.sorted line_key (always_returns_same _ (λ a r. r ≡ line_key a.0.now) _ (λ a r q k. search rules))
