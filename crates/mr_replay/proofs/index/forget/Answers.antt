use Rattle.std.proofs.Common.{Some, ap, ◌∙◌}
use Rattle.mr_replay.proofs.index.forget.Goals as goal

pub returns-in-Some : goal.returns-in-Some
returns-in-Some c = λ k is there. c.take_out.ensures k (λ e. is (c.in-Some.is ∙ ap Some e)) there
