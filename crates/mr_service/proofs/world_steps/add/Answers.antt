use Rattle.std.proofs.Common.{IsTrue, subst}
use Rattle.mr_model.specs.Writes.{is_server}
use Rattle.mr_service.proofs.KeeperWorldSteps.{found_in, add_there}
use Rattle.mr_service.proofs.world_steps.add.Goals as goal

pub returns-in-Some : goal.returns-in-Some
returns-in-Some c = λ pool.
    let ms = c.args.members.now.items in
    add_there ms pool c.args.server (subst (λ n. IsTrue (is_server n)) c.number.ensures.value c.number.ensures.in_range)
    (found_in c.as_slice.result.now ms c.args.server c.in-Some.field-0 c.as_slice.ensures.value c.in-Some.ensures.0 c.in-Some.ensures.1).low
