use Rattle.std.proofs.Common.{◌≡◌, length}
use Rattle.std.specs.Str.{IsUtf8}
use Rattle.mr_model.specs.Texts.{whole_lines}
use Rattle.mr_base.specs.PositionCounts.{counts_of_pairs}
use Rattle.mr_wire.specs.Fields.{counts_until_end, with_counts}
use Rattle.mr_wire.proofs.positions.counts_in.Given as goal

abbrev pub invariant-loop-line : goal.invariant-loop-line
invariant-loop-line l = record {
  total : with_counts (counts_of_pairs l.counts.items) (counts_until_end (whole_lines l.rest)) ≡ counts_until_end (whole_lines l.text);
  utf8 : IsUtf8 l.rest;
}

abbrev pub decreases-loop-line : goal.decreases-loop-line
decreases-loop-line l = length l.rest
