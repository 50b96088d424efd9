-- What a `Copied` holds.
use Rattle.sqlite_wal.specs.Recovery.{Image}
use Rattle.mr_disk.specs.declared.copies.Copied.{Copied}

abbrev pub image_copied : Copied → Image
image_copied copied = record { log = copied.log.items; db = copied.db.items }
