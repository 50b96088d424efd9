use Rattle.std.proofs.Common.{◌≡◌}
use Rattle.std.specs.List.{list_any}
use Rattle.std.specs.Map.{values_of}
use Rattle.mr_replay.specs.Rows.{is_in_the_way}
use Rattle.mr_replay.specs.Index.{is_in_the_way_at}
use Rattle.mr_replay.specs.Hidden.{shown}
use Rattle.mr_replay.proofs.taken.is_taken.Given as goal

-- whether a row is in the way is what the keys of the index that are left say
abbrev pub invariant-loop-key : goal.invariant-loop-key
invariant-loop-key l =
    list_any (is_in_the_way l.room l.slot l.length) (values_of (shown l.hidden l.rows.entries)) ≡ list_any (is_in_the_way_at l.room l.slot l.length (shown l.hidden l.rows.entries)) l.key-iterator
