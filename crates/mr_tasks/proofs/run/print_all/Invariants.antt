use Rattle.std.proofs.Common.{map, take, flat_map}
use Rattle.std.specs.Io.KnownBytes.{Appends}
use Rattle.mr_service.specs.Stepping.{step_reply_of}
use Rattle.mr_tasks.specs.Rehearsed.{step_reply_text}
use Rattle.mr_tasks.proofs.run.print_all.Given as goal

-- the texts of the replies so far are printed
abbrev pub invariant-loop-reply : goal.invariant-loop-reply
invariant-loop-reply g l =
    Appends (g.W.Write.contents l.initial.out) (g.W.Write.contents l.out) (flat_map step_reply_text (take l.reply-index (map step_reply_of l.replies)))
