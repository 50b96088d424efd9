use Rattle.std.proofs.Common.{rules}
use Rattle.std.proofs.lemmas.Fn.{filter_same}
use Rattle.mr_store.specs.Picked.{is_day_asked}
use Rattle.mr_sql.proofs.answers.keep_asked.Goals as goal

pub returns : goal.returns
returns c = filter_same _ (λ row. is_day_asked c.args.day row.day) _ (λ x b f h. (search rules, search rules)) _ _ c.retain.ensures.filtered
