use Rattle.mr_trees.proofs.TableLemmas.{shown_held}
use Rattle.mr_trees.proofs.tables_law.Goals as goal

pub returns : goal.returns
returns c = shown_held
