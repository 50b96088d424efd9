use Rattle.std.proofs.Common.{inl, inr}
use Rattle.mr_tasks.proofs.EndLaws.{copy_ends, room_reads}
use Rattle.mr_tasks.specs.Tasks.{IsAboutRoom, IsCommandFor, TellsTo, file_for}
use Rattle.mr_tasks.proofs.databases.on_trees.Goals as goal

pub returns-in-Some : goal.returns-in-Some
returns-in-Some g c =
    elim c.on_keeper-copy.ensures [
      | inl answered ↦ inr (copy_ends _ (IsCommandFor c.args.task) IsAboutRoom (TellsTo (file_for c.args.task)) c.in-Some.keeper c.on_keeper-copy.result.0 _ _ _ c.requires.asks
          (record {
            uncounted = c.in-Some.ensures.new.uncounted;
            opens = c.in-Some.ensures.new.opens;
            settled = c.in-Some.ensures.new.settled;
          })
          answered)
      | inr unasked ↦ inl (inl (inr (inr unasked.1)))
    ]

pub on_copy-requires : goal.on_copy-requires
on_copy-requires g c = record { reads = λ command is. room_reads command (c.requires.asks command is) }

pub returns-in-None : goal.returns-in-None
returns-in-None g c = inl c.on_copy.ensures
