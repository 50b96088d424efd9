use Rattle.std.proofs.Common.{◌≡◌, ◌-◌}
use Rattle.mr_rows.specs.RowLimits.{are_choices}
use Rattle.mr_rows.proofs.choices.are_choices.Given as goal

-- what is still to be tested stands in the rest
abbrev pub invariant-loop : goal.invariant-loop
invariant-loop l = are_choices 17 l.length l.text ≡ are_choices (17 - l.counter) l.length l.rest
