-- Ids whose rows don't count.
use Rattle.std.specs.Prelude.{Bool, not, filter}
use Rattle.std.specs.BTreeSet.{BTreeSet, contains}
use Rattle.mr_model.specs.Writes.{Id}
use Rattle.mr_base.specs.Ids.{id_cmp}
use Rattle.mr_replay.specs.Rows.{Rows}

-- whether the id is one of them
abbrev pub is_hidden : BTreeSet Id → Id → Bool
is_hidden hidden i = contains id_cmp hidden i

-- the rows of the other ids
abbrev pub shown : BTreeSet Id → Rows → Rows
shown hidden b = filter (λ e. not (is_hidden hidden e.0)) b
