use Rattle.std.proofs.Common.{◌≡◌, ◌≤◌, length, map, take, vec_len, vec_capacity}
use Rattle.mr_service.specs.Asked.{command_seen, reply_of}
use Rattle.mr_service.specs.Running.{UnderWay}
use Rattle.mr_service.proofs.runs.run.Given as goal

-- the run so far, and room for the replies that are to come
abbrev pub invariant-loop-command : goal.invariant-loop-command
invariant-loop-command g l =
    UnderWay (g.K.Keeper.is_clean l.initial.service) (g.K.Keeper.is_clean l.service)
    (g.K.Keeper.is_open l.initial.service) (g.K.Keeper.is_open l.service) g.K.Keeper.never_fails
    (g.K.Keeper.tables l.initial.service) (g.K.Keeper.tables l.service)
    (g.K.Keeper.failures l.initial.service) (g.K.Keeper.failures l.service)
    (map command_seen (take l.command-index l.commands)) (map reply_of l.replies.items)
    × (vec_len l.replies ≡ l.command-index) × (length l.commands ≤ vec_capacity l.replies)
