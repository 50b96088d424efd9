use Rattle.std.proofs.Common.{inl, inr}
use Rattle.mr_tasks.proofs.EndLaws.{copy_ends, refusal_ends}
use Rattle.mr_tasks.specs.Tasks.{IsCommandFor, OnlyReads, TellsTo, file_for}
use Rattle.mr_tasks.proofs.databases.on_copy.Goals as goal

pub returns-in-Ok : goal.returns-in-Ok
returns-in-Ok g c =
    elim c.on_keeper-copy.ensures [
      | inl answered ↦ inr (copy_ends _ (IsCommandFor c.args.task) OnlyReads (TellsTo (file_for c.args.task)) c.in-Ok.keeper c.on_keeper-copy.result.0 _ _ _ c.requires.reads
          (record {
            uncounted = c.in-Ok.ensures.opened.uncounted;
            opens = c.in-Ok.ensures.opened.opens;
            settled = c.in-Ok.ensures.opened.settled;
          })
          answered)
      | inr unasked ↦ inl (inr (inr unasked.1))
    ]

pub returns-in-Err-Refused : goal.returns-in-Err-Refused
returns-in-Err-Refused g c =
    inl (inr (refusal_ends _ (g.W.Write.contents c.args.out.now) (g.W.Write.contents c.say_refusal.new.out) c.say_refusal.result
    (c.in-Err-Refused.ensures.cause c.in-Err-Refused.refusal c.in-Err-Refused.field-0-is) c.say_refusal.ensures.status c.say_refusal.ensures.told))

pub returns-in-Err-OnlyInFile : goal.returns-in-Err-OnlyInFile
returns-in-Err-OnlyInFile g c = inl c.on_file.ensures
