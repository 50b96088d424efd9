use Rattle.std.proofs.Common.{IfOk, sym, subst}
use Rattle.std.proofs.lemmas.Result.{err_from_is_err_and}
use Rattle.std.specs.List.{filter}
use Rattle.mr_model.specs.Kept.{kept_in_order}
use Rattle.mr_part.specs.Answering.{nothing_taken}
use Rattle.mr_part.specs.Taken.{ShowsTaken}
use Rattle.mr_part.proofs.TakingItems.{taken-none}
use Rattle.mr_part.proofs.batch.candidate.Candidate.new.Goals as goal

pub returns-in_err-kept-clause-begins : goal.returns-in_err-kept-clause-begins
returns-in_err-kept-clause-begins c = λ a inside sound summary kept.
    let x = err_from_is_err_and c.from_residual.result c.from_residual.ensures.1 in
    subst (λ r. IfOk r (λ v. ShowsTaken a inside v (nothing_taken a))) (sym x.1) tt

pub returns-clause-begins : goal.returns-clause-begins
returns-clause-begins c = λ a inside sound summary kept.
    taken-none a inside _ sound summary c.new.ensures.empty (c.in_ok-kept.ensures.kept a (filter inside (kept_in_order a)) kept)
