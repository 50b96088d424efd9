use Rattle.std.proofs.Common.{ap, sym, ◌∙◌, Some}
use Rattle.mr_service.proofs.PoolTexts.{numbered_at}
use Rattle.mr_service.proofs.world_steps.text_of.Goals as goal

pub returns : goal.returns
returns c =
    numbered_at (λ bytes. bytes.items) c.args.pool.now c.args.batch c.index-pool-batch.result c.if-batch-eq0.false c.if-batch-pool.false c.index-pool-batch.is
    ∙ ap (λ t. Some t) (sym c.as_slice.ensures.value)
