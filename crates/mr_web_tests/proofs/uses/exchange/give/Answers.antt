use Rattle.mr_service.specs.Asked.{reply_of}
use Rattle.mr_web_tests.proofs.Giving.{given_to, if_ok}
use Rattle.mr_web_tests.proofs.uses.exchange.give.Goals as goal

pub returns-clause-given : goal.returns-clause-given
returns-clause-given c = λ a b h k.
    let for = c.in_ok-batch.ensures.text a b h k.sound (c.in_ok-position.ensures.text b k) in
    if_ok c.ask.result
    (λ reply takes. given_to c.exchange_law.ensures.own a b c.args.max_lines c.in_ok-batch.batch.items (reply_of reply) c.ask.new.service.tables h.sound for takes)
    (c.ask.ensures.done b (c.position_said.ensures.same b k))
