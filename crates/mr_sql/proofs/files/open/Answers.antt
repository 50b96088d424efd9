use Rattle.std.proofs.Common.{subst}
use Rattle.sqlite.specs.Files.{file_state}
use Rattle.mr_sql.specs.Refused.{IsFoundIn}
use Rattle.mr_sql.proofs.files.open.Goals as goal

pub returns-in-Ok-clause-found : goal.returns-in-Ok-clause-found
returns-in-Ok-clause-found g c clean =
    let found = c.in-Ok.ensures.found clean in
    (found.0, subst (λ image. IsFoundIn image (file_state c.in-Ok.conn).now.trees) c.in_ok-files.ensures.held found.1)
