use Rattle.std.proofs.Common.{sym, subst, map, IsTrue}
use Rattle.sqlite.specs.Steps.{over_memory}
use Rattle.sqlite.specs.State.{HasCleanDisk}
use Rattle.sqlite.specs.Held.{state}
use Rattle.mr_model.specs.Replica.{opening}
use Rattle.mr_model.specs.Tables.{Stands}
use Rattle.mr_rows.specs.Database.{tables_in}
use Rattle.mr_service.specs.Asked.{command_seen, reply_of}
use Rattle.mr_service.proofs.HeadlineLaws.{headline_kept}
use Rattle.mr_sql_tests.proofs.in_memory.run_in_memory.Goals as goal

pub returns : goal.returns
returns c =
    let back = c.into_keeper.ensures in
    let clean = subst (λ k. HasCleanDisk (state over_memory k.0)) back c.memory_is_honest-2.ensures.clean in
    let opened = subst (λ k. IsTrue (state over_memory k.0).is_open) back c.memory_is_honest-2.ensures.open in
    let stands = subst (λ k. Stands (tables_in (state over_memory k.0).now.trees) (opening c.args.server c.args.primary)) (sym c.new-service.ensures) c.in_ok-keeper.ensures.stands in
    record {
      headline = (
        _,
        headline_kept _ _ (map command_seen c.args.commands.now) (map reply_of c.in_ok-replies.replies.items)
            (opening c.args.server c.args.primary) stands (c.in_ok-replies.ensures.serves clean opened),
      );
      cause = tt;
    }
