use Rattle.std.proofs.Common.{◌≡◌, ◌-◌}
use Rattle.std.specs.Str.{IsUtf8}
use Rattle.mr_wire.specs.Fields.{slots_off}
use Rattle.mr_wire.proofs.LoopLaws.{with_slots}
use Rattle.mr_wire.proofs.fields.slots_off.Given as goal

abbrev pub invariant-loop : goal.invariant-loop
invariant-loop l = record {
  total : with_slots l.slots.items (slots_off (l.count - l.counter) l.rest) ≡ slots_off l.count l.text;
  utf8 : IsUtf8 l.rest;
}
