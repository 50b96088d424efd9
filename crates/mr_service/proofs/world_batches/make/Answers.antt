use Rattle.std.proofs.Common.{map}
use Rattle.mr_service.specs.Stepping.{step_reply_of}
use Rattle.mr_service.proofs.KeeperWorldSteps.{found_in, none_in}
use Rattle.mr_service.proofs.WorldBatches.{make_nobody, make_for_nobody, made_step}
use Rattle.mr_service.proofs.world_batches.make.Goals as goal

pub returns-in-Some-find : goal.returns-in-Some-find
returns-in-Some-find c =
    let ms = c.args.members.now.items in
    let maker = found_in c.as_slice.result.now ms c.args.from c.in-Some.maker c.as_slice.ensures.value c.in-Some.ensures.0 c.in-Some.ensures.1 in
    let taker = found_in c.as_slice-in-Some.result.now ms c.args.to c.in-Some-find.taker c.as_slice-in-Some.ensures.value c.in-Some-find.ensures.0 c.in-Some-find.ensures.1 in
    made_step ms c.make_at.new.members.items (map (λ bytes. bytes.items) c.args.pool.now.items)
    (map (λ bytes. bytes.items) c.make_at.new.pool.items) c.args.from c.args.to c.args.max_lines c.in-Some.maker c.in-Some-find.taker
    (step_reply_of c.make_at.result) maker taker c.make_at.ensures.stays c.make_at.ensures.made

pub returns-in-None-find : goal.returns-in-None-find
returns-in-None-find c =
    let ms = c.args.members.now.items in
    let maker = found_in c.as_slice.result.now ms c.args.from c.in-Some.maker c.as_slice.ensures.value c.in-Some.ensures.0 c.in-Some.ensures.1 in
    make_for_nobody ms (map (λ bytes. bytes.items) c.args.pool.now.items) c.args.from c.args.to c.args.max_lines c.in-Some.maker maker
    (none_in c.as_slice-in-Some.result.now ms c.args.to c.as_slice-in-Some.ensures.value c.in-None-find.ensures)

pub returns-in-None : goal.returns-in-None
returns-in-None c =
    make_nobody c.args.members.now.items (map (λ bytes. bytes.items) c.args.pool.now.items) c.args.from c.args.to c.args.max_lines
    (none_in c.as_slice.result.now c.args.members.now.items c.args.from c.as_slice.ensures.value c.in-None.ensures)
