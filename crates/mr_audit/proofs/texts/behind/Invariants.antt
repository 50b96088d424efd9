use Rattle.std.proofs.Common.{◌≡◌, ◌-◌}
use Rattle.std.specs.Str.{IsUtf8}
use Rattle.mr_model.specs.Texts.{behind}
use Rattle.mr_audit.proofs.texts.behind.Given as goal

-- what is still to be passed stands in the rest
abbrev pub invariant-loop : goal.invariant-loop
invariant-loop l = record {
  total : behind l.count l.text ≡ behind (l.count - l.counter) l.rest;
  utf8 : IsUtf8 l.rest;
}
