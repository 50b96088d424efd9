-- What a `Sparing` shows.
use Rattle.sqlite_disk.specs.declared.Disk.{Ghosts}
use Rattle.mr_disk.specs.declared.sparing.Sparing.{Sparing}

-- the disk below it
abbrev pub inner_of : {D : Type 0} {g : Ghosts D} → Sparing D g → D
inner_of f = f.inner
