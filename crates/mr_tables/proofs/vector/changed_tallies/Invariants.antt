use Rattle.std.proofs.Common.{◌≡◌, ◌-◌}
use Rattle.std.specs.Prelude.{flat_map}
use Rattle.mr_model.specs.Texts.{numbers_on}
use Rattle.mr_tables.specs.Written.{changed_tally}
use Rattle.mr_tables.proofs.vector.changed_tallies.Given as goal

-- the rows of the servers so far
abbrev pub invariant-loop-number : goal.invariant-loop-number
invariant-loop-number l = l.rows.items ≡ flat_map (changed_tally l.old.tallies l.new.tallies) (numbers_on 1 (l.number - 1))
