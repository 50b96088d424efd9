use Rattle.std.proofs.Common.{◌≡◌, map, drop}
use Rattle.std.specs.List.{list_all}
use Rattle.mr_model.specs.Exchange.{is_item}
use Rattle.mr_base.specs.Versions.{version_of}
use Rattle.mr_base.specs.Batches.{item_of}
use Rattle.mr_base.proofs.batches.are_in_version.Given as goal

abbrev pub invariant-loop-item : goal.invariant-loop-item
invariant-loop-item l =
    list_all (is_item (version_of l.version)) (map item_of l.items)
    ≡ list_all (is_item (version_of l.version)) (map item_of (drop l.item-index l.items))
