use Rattle.std.proofs.Common.{inl, inr}
use Rattle.mr_tasks.proofs.EndLaws.{refusal_ends}
use Rattle.mr_tasks.proofs.databases.on_file.Goals as goal

pub returns-in-Ok : goal.returns-in-Ok
returns-in-Ok g c =
    elim c.on_keeper-keeper.ensures [
      | inl answered ↦ inl (
        c.in-Ok.keeper,
        c.on_keeper-keeper.result.0,
        record {
          uncounted = c.in-Ok.ensures.opened.uncounted;
          opens = c.in-Ok.ensures.opened.opens;
          settled = c.in-Ok.ensures.opened.settled;
        },
        answered,
      )
      | inr unasked ↦ inr (inr unasked.1)
    ]

pub returns-in-Err : goal.returns-in-Err
returns-in-Err g c =
    inr (refusal_ends _ (g.W.Write.contents c.args.out.now) (g.W.Write.contents c.say_refusal.new.out) c.say_refusal.result
    c.in-Err.ensures.cause c.say_refusal.ensures.status c.say_refusal.ensures.told)
