use Rattle.std.proofs.Common.{Bool, ◌+◌, ◌<◌, ◌^◌, map, length, IsTrue}
use Rattle.std.specs.List.{list_all}
use Rattle.mr_model.specs.Exchange.{Second, is_item}
use Rattle.mr_model.specs.Replica.{Replica, IsReplica}
use Rattle.mr_model.specs.Taking.{Progress}
use Rattle.mr_model.specs.Writes.{Write}
use Rattle.mr_base.specs.Batches.{item_of}
use Rattle.mr_part.specs.Taken.{CoversScope, ShowsTaken}
use Rattle.mr_part.proofs.TakingItems.{IsAtInside}
use Rattle.mr_part.proofs.batch.candidate.Candidate.take_all.Given as goal

-- what is left to take leads from the progress so far to the same
abbrev pub invariant-loop-k : goal.invariant-loop-k
invariant-loop-k l =
    (a : Replica) (inside : Write → Bool) (p : Progress) → IsReplica p.replica → IsTrue (list_all (is_item Second) (map item_of l.items))
    → length l.items + 2 < 2 ^ 64 → CoversScope a (map item_of l.items) inside → ShowsTaken a inside l.initial.self p
    → IsAtInside a inside (map item_of l.items) l.k p l.self
