use Rattle.std.proofs.Common.{◌≡◌, take}
use Rattle.mr_model.specs.Texts.{number_in}
use Rattle.mr_audit.specs.Capped.{capped}
use Rattle.mr_audit.proofs.texts.number_of.Given as goal

-- the number of the digits so far
abbrev pub invariant-loop-byte : goal.invariant-loop-byte
invariant-loop-byte l = l.total ≡ capped (number_in (take l.byte-index l.text))
