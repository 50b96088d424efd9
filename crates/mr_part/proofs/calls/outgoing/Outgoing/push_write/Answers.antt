use Rattle.std.proofs.Common.{sym, ap, ◌<◌, length, arith}
use Rattle.mr_model.specs.Exchange as model
use Rattle.mr_model.proofs.BatchesReadBack.{ok_inj}
use Rattle.mr_base.specs.declared.batches.Item.TheVariants.{W}
use Rattle.mr_part.proofs.Batching.{Offers-more}
use Rattle.mr_part.proofs.calls.outgoing.Outgoing.push_write.Goals as goal

pub returns-clause-items : goal.returns-clause-items
returns-clause-items c = λ items offers.
    let old = c.args.self.now in
    let copy = ok_inj c.args.write.now c.in_ok-copy.copy c.in_ok-copy.ensures in
    let ok = c.args.self.now.items.ok in
    let len = c.len.ensures in
    let limit = c.number.ensures.value in
    let test = c.if-len-number.false in
    let room : length old.items.items < old.limit = omega arith in
    Offers-more old.limit items old.items.items c.push.new.self.items old.more (W c.in_ok-copy.copy) (model.W c.args.write.now) offers room c.in_ok-push.ensures.items (ap (λ w. model.W w) (sym copy))
