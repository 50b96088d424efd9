use Rattle.std.proofs.Common.{◌≡◌, ◌++◌, take, map}
use Rattle.std.specs.String.{string_bytes}
use Rattle.mr_model.specs.Texts.{lines_text}
use Rattle.mr_model.specs.Positions.{count_line}
use Rattle.mr_base.specs.PositionCounts.{counts_of_pairs}
use Rattle.mr_wire.proofs.writing.push_counts.Given as goal

abbrev pub invariant-loop-server : goal.invariant-loop-server
invariant-loop-server l = string_bytes l.text ≡ string_bytes l.fn.text ++ lines_text (map count_line (counts_of_pairs (take l.server-index l.counts)))
