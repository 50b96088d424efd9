use Rattle.mr_disk.specs.Copied.{image_copied}
use Rattle.sqlite.specs.Files.{file_state}
use Rattle.mr_sql.proofs.OpeningLaws.{keepers_so}
use Rattle.mr_sql.proofs.files.SqlKeeper+FileStore+Memory.open_copy.Goals as goal

pub returns-clause-opened : goal.returns-clause-opened
returns-clause-opened c =
    keepers_so _ _ (λ k. file_state k.0) (λ k. k.1) c.open_copied.result (λ k clean after are. (image_copied c.in_ok-copied.copied, are)) c.open_copied.ensures.opened
