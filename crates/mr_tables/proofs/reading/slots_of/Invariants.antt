use Rattle.std.proofs.Common.{◌++◌, List}
use Rattle.mr_model.specs.Slots.{Slot}
use Rattle.mr_tables.specs.Choices.{IsRestOf, IsUnderWay, lent}
use Rattle.mr_tables.proofs.FrontWords.{left_length, IsUtf8Rest}
use Rattle.mr_tables.proofs.reading.slots_of.Given as goal

-- of a text of slots the first ones are read, and the text of the others is left
abbrev pub invariant-rest : goal.invariant-rest
invariant-rest l = record {
  under_way : (ss : List Slot) → IsRestOf (lent l.fn.text) ss → IsUnderWay ss l.slots.items (lent l.rest);
  told : (left : List Slot) → IsRestOf (lent l.rest) left → IsRestOf (lent l.fn.text) (l.slots.items ++ left);
  utf8 : IsUtf8Rest l.rest;
}

abbrev pub decreases-rest : goal.decreases-rest
decreases-rest l = left_length l.rest
