use Rattle.std.proofs.Common.{rules}
use Rattle.std.proofs.lemmas.List.Sorted.{answers_always}
use Rattle.mr_part.specs.KeptRows.{run_place}
use Rattle.mr_part.proofs.kept_rows.sort_rows.Goals as goal

pub returns-clause-sorted : goal.returns-clause-sorted
returns-clause-sorted c = c.sort_unstable_by_key.ensures.sorted run_place (answers_always _ _ _ (λ f a r f' k. search rules))
