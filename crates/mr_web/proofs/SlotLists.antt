-- Slots that are read one after the other.
use Rattle.std.proofs.Common.{List, ◌++◌, Option, option_map}
use Rattle.mr_model.specs.Step.{SlotWords}

-- these slots, and then those
abbrev pub behind : List SlotWords → Option (List SlotWords) → Option (List SlotWords)
behind done more = option_map (λ rest. done ++ rest) more
