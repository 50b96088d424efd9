-- A header and a line below it as the definitions see them.
use Rattle.std.specs.Prelude.{Option, option_map}
use Rattle.mr_model.specs.Exchange as model
use Rattle.mr_base.specs.Batches.{item_of, ending_seen}
use Rattle.mr_base.specs.Versions.{version_of}
use Rattle.mr_base.specs.declared.batches.Header.{Header}
use Rattle.mr_base.specs.declared.versions.Version.{Version}
use Rattle.mr_wire.specs.declared.lines.Line.{Line}
use Rattle.mr_wire.specs.declared.lines.Line.TheVariants.{Item, Last}

abbrev pub heading_seen : Option (Version × Header) → Option model.Heading
heading_seen heading = option_map (λ h. record { version = version_of h.0; header = record { from = h.1.from; primary = h.1.primary } }) heading

abbrev pub line_seen : Line → model.BodyLine
line_seen (Item item) = model.ItemLine (item_of item)
line_seen (Last ending) = model.LastLine (ending_seen ending)
