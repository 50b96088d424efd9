use Rattle.std.proofs.Common.{◌≡◌, take}
use Rattle.mr_model.specs.Texts.{number_in}
use Rattle.mr_http.proofs.fields.number.Given as goal

abbrev pub invariant-loop-digit : goal.invariant-loop-digit
invariant-loop-digit l = l.number ≡ number_in (take l.digit-index l.digits)
