use Rattle.std.proofs.Common.{rules}
use Rattle.std.proofs.lemmas.Fn.{filter_same}
use Rattle.mr_model.specs.Writes.{same_id}
use Rattle.mr_trees.proofs.places.keep_with.Goals as goal

pub returns : goal.returns
returns g c = filter_same _ (λ row. same_id (g.R.AskedRow.id_of row) c.args.id) _ (λ x b f h. (search rules, search rules)) _ _ c.retain.ensures.filtered
