use Rattle.std.proofs.Common.{sym, subst, List}
use Rattle.mr_model.specs.World.{Add}
use Rattle.mr_model.specs.World as model
use Rattle.mr_service.specs.Stepping.{step_reply_of}
use Rattle.mr_service.specs.Worlds.{MemberView, StandsForMember, TakesWorldStep, primary_in}
use Rattle.mr_model.specs.Replica.{opening}
use Rattle.mr_service.proofs.KeeperWorldSteps.{world, wants, add_one}
use Rattle.mr_service.proofs.world_steps.add_member.Goals as goal

pub returns-in-Ok : goal.returns-in-Ok
returns-in-Ok c = λ pool.
    let ms = c.args.members.now.items in
    let s = c.args.server in
    let primary = c.primary_for-primary.ensures in
    let here = subst (λ p. StandsForMember c.new.result (opening s p)) primary c.new.ensures in
    let new = subst (λ (xs : List MemberView). StandsForMember c.new.result (opening s (primary_in xs s))) c.as_slice.ensures.value here in
    subst (λ (xs : List MemberView). TakesWorldStep (world ms pool) (Add s) model.Added (world xs pool)) (sym c.in-Ok.ensures.ok) (add_one ms pool s c.new.result c.requires.server c.requires.none new)

pub returns-in-Err : goal.returns-in-Err
returns-in-Err c = λ pool.
    let ms = c.args.members.now.items in
    let s = c.args.server in
    subst (λ (xs : List MemberView). TakesWorldStep (world ms pool) (Add s) (step_reply_of c.no_memory.result) (world xs pool))
    (sym c.in-Err.ensures.err) (wants (world ms pool) (Add s) (step_reply_of c.no_memory.result) c.requires.server c.no_memory.ensures)
