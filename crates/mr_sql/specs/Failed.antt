-- When a keeper answers that its store failed.
use Rattle.std.specs.Prelude.{◌≡◌, ◌⊎◌, false, IsSome}
use Rattle.sqlite_disk.specs.Disk.{MoreFaults}
use Rattle.sqlite_trees.specs.Tree.{Trees}
use Rattle.sqlite_catalog.specs.Listing.{IsSound}
use Rattle.sqlite.specs.State.{State}
use Rattle.mr_model.specs.Replica.{Replica}
use Rattle.mr_model.specs.Tables.{Stands}
use Rattle.mr_rows.specs.Schema.{our_schema}
use Rattle.mr_rows.specs.Database.{AreHeld, tables_in}

-- the disk failed since then, or the connection had been shut, or its queries have a limit of steps
abbrev pub StoreFailed : State → State → Type 0
StoreFailed old new = MoreFaults old.faults new.faults ⊎ ((old.is_open ≡ false) ⊎ IsSome old.step_limit)

-- these trees hold the tables of a replica, as a keeper writes them
abbrev pub HoldReplica : Trees → Type 0
HoldReplica trees = IsSound our_schema trees × AreHeld trees × ((a : Replica) × Stands (tables_in trees) a)
