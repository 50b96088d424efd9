use Rattle.std.proofs.Common.{map}
use Rattle.mr_service.specs.Stepping.{step_reply_of}
use Rattle.mr_service.proofs.WorldMembers.{stand_at, stand_still}
use Rattle.mr_service.proofs.WorldBatches.{asked_at}
use Rattle.mr_service.proofs.world_batches.make_at.Goals as goal

pub returns-in-Ok-clause-stays : goal.returns-in-Ok-clause-stays
returns-in-Ok-clause-stays c = λ rs h.
    c.batch_at.ensures.stays rs (stand_still c.args.members.now.items rs c.args.taker c.index_mut.result.now c.position.new.self c.in-Ok.ensures.stays c.requires.taker c.index_mut.ensures.value h)

pub returns-in-Ok-clause-made : goal.returns-in-Ok-clause-made
returns-in-Ok-clause-made c = λ rs a b h ea eb.
    let ms = c.args.members.now.items in
    let m = c.index_mut.result.now in
    let here = stand_at ms rs c.args.taker m b h c.requires.taker c.index_mut.ensures.value eb in
    let after = stand_still ms rs c.args.taker m c.position.new.self c.in-Ok.ensures.stays c.requires.taker c.index_mut.ensures.value h in
    asked_at a b m c.in-Ok.position.items c.args.max_lines (step_reply_of c.batch_at.result)
    (map (λ bytes. bytes.items) c.args.pool.now.items) (map (λ bytes. bytes.items) c.batch_at.new.pool.items) here
    (c.in-Ok.ensures.text b here) (c.batch_at.ensures.made rs a after ea)

pub returns-in-Err-clause-stays : goal.returns-in-Err-clause-stays
returns-in-Err-clause-stays c =
    λ rs h. stand_still c.args.members.now.items rs c.args.taker c.index_mut.result.now c.position.new.self c.in-Err.ensures.stays c.requires.taker c.index_mut.ensures.value h
