use Rattle.std.proofs.Common.{sym, subst}
use Rattle.sqlite.specs.Effect.{Database}
use Rattle.sqlite.specs.Files.{image_of}
use Rattle.mr_sql.specs.Refused.{IsFoundIn}
use Rattle.mr_sql.proofs.FileLemmas.{taken_found}
use Rattle.mr_sql.proofs.files.connect.Goals as goal

pub returns-in-Ok : goal.returns-in-Ok
returns-in-Ok g c = record {
  found = λ clean.
      let opened = c.in-Ok.ensures.opened clean in
      let found = c.in-Ok.ensures.found clean in (
        taken_found _ _ opened.0 opened.1 found.reads c.in-Ok.ensures.fresh.unlimited,
        subst (λ (db : Database). IsFoundIn (image_of g.D.Disk c.args.files) db.trees) (sym opened.0.clean) (found.holds, found.reads),
      );
}
