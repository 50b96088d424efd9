use Rattle.std.proofs.Common.{inl, inr}
use Rattle.mr_tasks.proofs.DatabaseLaws.{adopted_tables}
use Rattle.mr_tasks.proofs.EndLaws.{refusal_ends}
use Rattle.mr_tasks.proofs.databases.init.Goals as goal

pub returns-in-Ok : goal.returns-in-Ok
returns-in-Ok g c =
    elim c.say_made-keeper.ensures.told [
      | inl told ↦ inl (
        told.0,
        c.in-Ok.keeper,
        record {
          opened = record {
            uncounted = c.in-Ok.ensures.opened.uncounted;
            opens = c.in-Ok.ensures.opened.opens;
            settled = c.in-Ok.ensures.opened.settled;
          };
          tables = λ clean. let adopted = c.in-Ok.ensures.opened.opened clean in adopted_tables _ _ adopted.0 _ adopted.2;
        },
        told.1,
      )
      | inr three ↦ inr (inr (inr three))
    ]

pub returns-in-Err : goal.returns-in-Err
returns-in-Err g c =
    inr (refusal_ends _ (g.W.Write.contents c.args.out.now) (g.W.Write.contents c.say_refusal.new.out) c.say_refusal.result
    c.in-Err.ensures.cause c.say_refusal.ensures.status c.say_refusal.ensures.told)
