use Rattle.std.proofs.Common.{◌≡◌, ◌+◌, drop}
use Rattle.mr_service.specs.Worlds.{member_index}
use Rattle.mr_service.proofs.members.place_of.Given as goal

-- the replicas so far have other servers
abbrev pub invariant-loop-k : goal.invariant-loop-k
invariant-loop-k l = member_index l.members l.server ≡ l.k + member_index (drop l.k l.members) l.server
