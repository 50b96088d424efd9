use Rattle.std.proofs.Common.{refl}
use Rattle.mr_rows.specs.Schema.{first_schema}
use Rattle.sqlite.specs.Files.{file_state}
use Rattle.mr_base.specs.declared.refusals.Refusal.TheVariants as refusal
use Rattle.mr_sql.specs.Found.{IsResumed}
use Rattle.mr_sql.proofs.CopyLemmas.{disks_are_clean}
use Rattle.mr_sql.proofs.OpeningLaws.{keeper_so}
use Rattle.mr_sql.proofs.TakenLemmas.{not_strange, sound_as}
use Rattle.mr_sql.proofs.files.SqlKeeper+FileStore+Memory.open_copied.Goals as goal

pub take_copy-requires : goal.take_copy-requires
take_copy-requires c = record { taken = λ clean. (c.in-Ok.ensures.found clean).0 }

pub returns-in-Ok-take_copy-clause-opened : goal.returns-in-Ok-take_copy-clause-opened
returns-in-Ok-take_copy-clause-opened c =
    let before = (file_state c.in-Ok.conn).now.trees in
    keeper_so (IsResumed before) _ (file_state c.in-Ok-take_copy.keeper.0) c.in-Ok-take_copy.keeper.1
    (λ clean after are. (before, (c.in-Ok.ensures.found (c.in-Ok-take_copy.ensures.clean clean)).1, are)) c.in-Ok-take_copy.ensures.opened

pub returns-in-Err-clause-strange : goal.returns-in-Err-clause-strange
returns-in-Err-clause-strange c is = absurd (not_strange c.in-Err.ensures.cause (cc))

pub returns-clause-strange : goal.returns-clause-strange
returns-clause-strange c is =
    let told = c.in-Err-take_copy.ensures.refused refusal.NotAReplica is (disks_are_clean (λ _. refl) c.in-Err-take_copy.field-0-1) in
    ((file_state c.in-Ok.conn).now.trees, (c.in-Ok.ensures.found told.0).1, told.1.refused.strange refl)

pub returns-clause-first : goal.returns-clause-first
returns-clause-first c is =
    let conn = c.in-Ok.conn in
    let found = c.in-Ok.ensures.found (disks_are_clean (λ _. refl) conn) in
    ((file_state conn).now.trees, found.1, sound_as (file_state conn) first_schema found.0 (c.in-Err-take_copy.ensures.first is))
