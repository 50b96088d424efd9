use Rattle.std.proofs.Common.{sym}
use Rattle.mr_rows.proofs.ChoiceLemmas.{too_short}
use Rattle.mr_rows.proofs.choices.begins_with_slot.Goals as goal

pub returns-then-text-lt16 : goal.returns-then-text-lt16
returns-then-text-lt16 c = sym (too_short c.args.length c.args.text.now c.if-text-lt16.true)
