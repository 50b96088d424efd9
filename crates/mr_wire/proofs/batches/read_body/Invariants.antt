use Rattle.std.proofs.Common.{◌≡◌, ◌+◌, ◌≤◌, length, map}
use Rattle.mr_model.specs.Texts.{whole_lines}
use Rattle.mr_model.specs.Exchange.{read_body}
use Rattle.mr_base.specs.Batches.{item_of}
use Rattle.mr_base.specs.Versions.{version_of}
use Rattle.mr_wire.specs.BatchAnswers.{with_front}
use Rattle.mr_wire.proofs.batches.read_body.Given as goal

abbrev pub invariant-loop-line : goal.invariant-loop-line
invariant-loop-line l = record {
  total : with_front (map item_of l.items.items) (read_body (version_of l.version) (l.before + 1) (whole_lines l.rest)) ≡ read_body (version_of l.version) 2 (whole_lines l.bytes);
  place : l.before + length l.rest ≤ length l.bytes + 1;
}

abbrev pub decreases-loop-line : goal.decreases-loop-line
decreases-loop-line l = length l.rest
