use Rattle.mr_base.proofs.Decimals.{parsed}
use Rattle.mr_base.proofs.numbers.number_value.Goals as goal

pub returns : goal.returns
returns c = rw c.ok.ensures.value (parsed c.args.text.now c.parse.result c.parse.ensures.value.0 c.requires)
