-- Batches of the program as those of the definitions.
use Rattle.std.specs.Prelude.{List, map, Option, option_map}
use Rattle.mr_model.specs.Exchange as model
use Rattle.mr_base.specs.Versions.{version_of}
use Rattle.mr_base.specs.declared.versions.Version.{Version}
use Rattle.mr_base.specs.declared.batches.Header.{Header}
use Rattle.mr_base.specs.declared.batches.Item.{Item}
use Rattle.mr_base.specs.declared.batches.Item.TheVariants.{W, C}
use Rattle.mr_base.specs.declared.batches.Ending.{Ending}
use Rattle.mr_base.specs.declared.batches.Ending.TheVariants.{Complete, More, Cut}

abbrev pub item_of : Item → model.Item
item_of (W write) = model.W write
item_of (C seq id) = model.C seq id

abbrev pub ending_seen : Ending → model.Ending
ending_seen Complete = model.Complete
ending_seen More = model.More
ending_seen Cut = model.Cut

abbrev pub header_of : Option Header → Option model.Header
header_of header = option_map (λ h. record { from = h.from; primary = h.primary }) header

abbrev pub batch_seen : Version → Option Header → List Item → Ending → model.Batch
batch_seen version header items ending =
    record { version = version_of version; header = header_of header; items = map item_of items; ending = ending_seen ending }
