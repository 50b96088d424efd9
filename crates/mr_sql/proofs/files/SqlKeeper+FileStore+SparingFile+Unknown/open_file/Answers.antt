use Rattle.sqlite.specs.Files.{file_state}
use Rattle.mr_sql.proofs.OpeningLaws.{causes_of, keepers_left}
use Rattle.mr_sql.proofs.files.SqlKeeper+FileStore+SparingFile+Unknown.open_file.Goals as goal

pub returns-in-Ok-clause-opened : goal.returns-in-Ok-clause-opened
returns-in-Ok-clause-opened c =
    keepers_left _ (file_state c.in-Ok.keeper.0) (λ k. file_state k.0) c.in-Ok.keeper.1 (λ k. k.1) c.agreeing.result c.in-Ok.ensures.opened c.agreeing.ensures.same c.agreeing.ensures.counted

pub returns-in-Ok-clause-cause : goal.returns-in-Ok-clause-cause
returns-in-Ok-clause-cause c = causes_of c.agreeing.result c.agreeing.ensures.cause
