use Rattle.std.proofs.Common.{◌∙◌, ap}
use Rattle.mr_base.specs.Readings.{number_from_to}
use Rattle.mr_base.proofs.Decimals.{number_from_to_is, number_from_to-decimal, written, in_range}
use Rattle.mr_base.proofs.numbers.read_number.Goals as goal

pub returns-clause-value : goal.returns-clause-value
returns-clause-value c = c.number_within.ensures ∙ number_from_to_is c.args.low c.args.high c.args.text.now c.ranges.high.fits

pub returns-clause-written : goal.returns-clause-written
returns-clause-written c = written c.args.low c.args.high c.args.text.now _ (c.number_within.ensures ∙ number_from_to_is c.args.low c.args.high c.args.text.now c.ranges.high.fits)

pub returns-clause-in_range : goal.returns-clause-in_range
returns-clause-in_range c = in_range c.args.low c.args.high c.args.text.now _ (c.number_within.ensures ∙ number_from_to_is c.args.low c.args.high c.args.text.now c.ranges.high.fits)

pub returns-clause-read : goal.returns-clause-read
returns-clause-read c n low high t =
    c.number_within.ensures ∙ number_from_to_is c.args.low c.args.high c.args.text.now c.ranges.high.fits
    ∙ ap (number_from_to c.args.low c.args.high) t ∙ number_from_to-decimal c.args.low c.args.high n low high c.ranges.high.fits
