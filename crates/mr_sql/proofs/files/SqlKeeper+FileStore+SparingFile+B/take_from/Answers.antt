use Rattle.std.proofs.Common.{sym, subst}
use Rattle.sqlite.specs.Files.{file_state}
use Rattle.sqlite.specs.WalFiles.{image_at}
use Rattle.mr_sql.specs.Opened.{ComesBackFrom}
use Rattle.mr_sql.specs.Opening.{AreTakenAs, RefusesFor}
use Rattle.mr_sql.proofs.OpeningLaws.{keeper_so}
use Rattle.mr_sql.proofs.files.SqlKeeper+FileStore+SparingFile+B.take_from.Goals as goal

pub over-requires : goal.over-requires
over-requires g c = record { taken = λ clean. (c.in-Ok.ensures.found clean).0 }

pub returns-in-Ok-over-clause-opened : goal.returns-in-Ok-over-clause-opened
returns-in-Ok-over-clause-opened g c =
    let before = (file_state c.in-Ok.conn).now.trees in
    keeper_so (AreTakenAs c.args.whose before) _ (file_state c.in-Ok-over.keeper.0) c.in-Ok-over.keeper.1
    (λ clean after are. (before, (c.in-Ok.ensures.found (c.in-Ok-over.ensures.clean clean)).1, are)) c.in-Ok-over.ensures.opened

pub returns-in-Err-over-clause-refused : goal.returns-in-Err-over-clause-refused
returns-in-Err-over-clause-refused g c =
    subst (λ h. ComesBackFrom (image_at g.B.Start) (RefusesFor c.args.whose) c.in-Err-over.refusal (file_state h)) (sym c.conn.view_is) (λ clean.
    let told = c.in-Err-over.ensures.refused clean in
    ((file_state c.in-Ok.conn).now.trees, (c.in-Ok.ensures.found told.0).1, told.1))
