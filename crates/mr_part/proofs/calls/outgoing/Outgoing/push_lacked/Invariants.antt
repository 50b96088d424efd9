use Rattle.std.proofs.Common.{◌≡◌, ◌++◌, List, take}
use Rattle.mr_model.specs.Exchange.{Item}
use Rattle.mr_part.specs.KeptRows.{row_writes}
use Rattle.mr_part.specs.Outgoing.{Offers, lacked_items}
use Rattle.mr_part.proofs.calls.outgoing.Outgoing.push_lacked.Given as goal

-- those of the rows so far
abbrev pub invariant-loop-row : goal.invariant-loop-row
invariant-loop-row l =
    (l.self.limit ≡ l.initial.self.limit)
    × ((items : List Item) → Offers l.initial.self.limit items l.initial.self.items.items l.initial.self.more
    → Offers l.initial.self.limit (items ++ lacked_items l.position (row_writes (take l.row-index l.rows))) l.self.items.items l.self.more)
