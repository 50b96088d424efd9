use Rattle.std.proofs.Common.{◌∙◌, ap}
use Rattle.std.specs.Result.{result_ok}
use Rattle.mr_wire.proofs.FieldLaws.{ok_part}
use Rattle.mr_wire.proofs.fields.day_of.Goals as goal

pub returns : goal.returns
returns c = c.ok.ensures.value ∙ ap result_ok c.read.ensures.value ∙ ok_part _ _
