use Rattle.std.proofs.Common.{◌≡◌, ◌++◌, List, take}
use Rattle.mr_model.specs.Exchange.{Item}
use Rattle.mr_part.specs.KeptRows.{row_writes}
use Rattle.mr_part.specs.Outgoing.{Offers, committed_items}
use Rattle.mr_part.proofs.calls.outgoing.Outgoing.push_commits.Given as goal

-- those of the rows so far
abbrev pub invariant-loop-k : goal.invariant-loop-k
invariant-loop-k l =
    (l.self.limit ≡ l.initial.self.limit)
    × ((items : List Item) → Offers l.initial.self.limit items l.initial.self.items.items l.initial.self.more
    → Offers l.initial.self.limit (items ++ committed_items l.position l.first (row_writes (take l.k l.rows))) l.self.items.items l.self.more)
