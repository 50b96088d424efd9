use Rattle.std.proofs.Common.{◌≡◌, ◌++◌, take, map}
use Rattle.std.specs.String.{string_bytes}
use Rattle.mr_model.specs.Texts.{lines_text}
use Rattle.mr_model.specs.Exchange.{item_line}
use Rattle.mr_base.specs.Batches.{item_of}
use Rattle.mr_wire.proofs.writing.push_items.Given as goal

abbrev pub invariant-loop-item : goal.invariant-loop-item
invariant-loop-item l = string_bytes l.text ≡ string_bytes l.fn.text ++ lines_text (map item_line (map item_of (take l.item-index l.items)))
