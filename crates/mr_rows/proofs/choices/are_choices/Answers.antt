use Rattle.std.proofs.Common.{arith, sym}
use Rattle.std.proofs.lemmas.Bool.Decides.{nat_tests}
use Rattle.mr_rows.proofs.ChoiceLemmas.{one_more, too_many}
use Rattle.mr_rows.proofs.choices.are_choices.Goals as goal

pub returns-then-not-begins_with_slot : goal.returns-then-not-begins_with_slot
returns-then-not-begins_with_slot c = grind (arith, nat_tests, one_more 17 c.loop.counter c.args.length c.loop.rest.now c.loop-test.true)

pub returns-then-rest-le16 : goal.returns-then-rest-le16
returns-then-rest-le16 c = grind (arith, nat_tests, one_more 17 c.loop.counter c.args.length c.loop.rest.now c.loop-test.true)

pub returns-then-rest-ne32 : goal.returns-then-rest-ne32
returns-then-rest-ne32 c = grind (arith, nat_tests, one_more 17 c.loop.counter c.args.length c.loop.rest.now c.loop-test.true)

pub loop-preserved : goal.loop-preserved
loop-preserved c = grind (arith, nat_tests, one_more 17 c.loop.counter c.args.length c.loop.rest.now c.loop-test.true)

pub returns : goal.returns
returns c = sym (too_many 17 c.loop.counter c.args.length c.args.text.now c.loop.rest.now c.loop-test.false c.loop.invariant)
