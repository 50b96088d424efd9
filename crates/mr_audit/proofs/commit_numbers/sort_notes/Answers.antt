use Rattle.std.proofs.Common.{rules}
use Rattle.std.proofs.lemmas.List.Sorted.{answers_always}
use Rattle.mr_agree.specs.Agreeing.{Note}
use Rattle.mr_audit.proofs.commit_numbers.sort_notes.Goals as goal

pub returns-clause-sorted : goal.returns-clause-sorted
returns-clause-sorted c = c.sort_unstable_by_key.ensures.sorted (λ (e : Note). e.seq) (answers_always _ _ _ (λ f a r f' k. search rules))
