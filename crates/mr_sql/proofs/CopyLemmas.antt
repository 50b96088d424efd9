-- Disks of which none can lie, as those in memory: what a store over them shows is always known.
use Rattle.std.proofs.Common.{Bool, true, false, ◌&&◌, IsTrue}
use Rattle.sqlite_disk.specs.declared.Disk.{Ghosts}
use Rattle.sqlite_trees.proofs.Doubt.{no_doubt}
use Rattle.sqlite_pool.specs.Pool as pool
use Rattle.sqlite_store.specs.declared.store.FileStore.{FileStore}
use Rattle.sqlite.specs.State.{HasCleanDisk}
use Rattle.sqlite.specs.Held.{Held}
use Rattle.sqlite.specs.Files.{file_state}

both_true : (a b : Bool) → IsTrue a → IsTrue b → IsTrue (a && b)
both_true true b first second = second
both_true false b first second = absurd (cc)

pub disks_are_clean : {D : Type 0} {g : Ghosts D} → ((disk : D) → IsTrue (g.is_clean disk)) → (c : Held (FileStore D g)) → HasCleanDisk (file_state c)
unfolding pool.state
disks_are_clean honest c = no_doubt _ (both_true _ _ (honest _) (honest _))
