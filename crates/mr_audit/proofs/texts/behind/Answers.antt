use Rattle.mr_audit.proofs.SlotTexts.{behind_step, behind_end}
use Rattle.mr_audit.proofs.texts.behind.Goals as goal

pub loop-preserved : goal.loop-preserved
loop-preserved c = record {
  total = behind_step c.args.count c.loop.counter c.args.text.now c.loop.rest.now c.next_word.result.1.now c.loop-test.true c.loop.invariant.total c.next_word.ensures.rest;
  utf8 = c.next_word.ensures.utf8.1;
}

pub returns-clause-rest : goal.returns-clause-rest
returns-clause-rest c = behind_end c.args.count c.loop.counter c.args.text.now c.loop.rest.now c.loop-test.false c.loop.invariant.total
