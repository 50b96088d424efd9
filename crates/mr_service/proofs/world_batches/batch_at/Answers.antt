use Rattle.std.proofs.Common.{map}
use Rattle.mr_base.specs.RefusalViews.{refusal_of}
use Rattle.mr_model.specs.Positions.{read_position}
use Rattle.mr_model.specs.Step.{reply_to_position}
use Rattle.mr_service.proofs.WorldMembers.{stand_at, stand_still}
use Rattle.mr_service.proofs.WorldBatches.{refused_made}
use Rattle.mr_service.proofs.world_batches.batch_at.Goals as goal

pub returns-in-Ok-clause-stays : goal.returns-in-Ok-clause-stays
returns-in-Ok-clause-stays c = λ rs h. stand_still c.args.members.now.items rs c.args.maker c.index_mut.result.now c.batch.new.self c.in-Ok.ensures.stays c.requires c.index_mut.ensures.value h

pub returns-in-Ok-clause-made : goal.returns-in-Ok-clause-made
returns-in-Ok-clause-made c = λ rs a h e.
    let here = stand_at c.args.members.now.items rs c.args.maker c.index_mut.result.now a h c.requires c.index_mut.ensures.value e in
    c.add_text.ensures (reply_to_position a (read_position c.args.position.items) c.args.max_lines) (c.in-Ok.ensures.text a here)

pub returns-in-Err-clause-stays : goal.returns-in-Err-clause-stays
returns-in-Err-clause-stays c = λ rs h. stand_still c.args.members.now.items rs c.args.maker c.index_mut.result.now c.batch.new.self c.in-Err.ensures.stays c.requires c.index_mut.ensures.value h

pub returns-in-Err-clause-made : goal.returns-in-Err-clause-made
returns-in-Err-clause-made c = λ rs a h e.
    let here = stand_at c.args.members.now.items rs c.args.maker c.index_mut.result.now a h c.requires c.index_mut.ensures.value e in
    refused_made (reply_to_position a (read_position c.args.position.items) c.args.max_lines)
    (refusal_of c.in-Err.refusal) (map (λ bytes. bytes.items) c.args.pool.now.items) (c.in-Err.ensures.refused a here)
