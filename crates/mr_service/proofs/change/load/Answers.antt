use Rattle.std.proofs.lemmas.Result.{err_from_is_err_and}
use Rattle.mr_service.proofs.KeeperReads.{read_ok, read_err}
use Rattle.mr_service.proofs.DeskSteps.{of_fault}
use Rattle.mr_service.proofs.change.load.Goals as goal

pub returns-in_err-part : goal.returns-in_err-part
returns-in_err-part g c =
    let p = err_from_is_err_and c.from_residual.result c.from_residual.ensures.1 in
    rw p.1 (record {
      read = read_err g.K.Keeper c.args.keeper.now c.load_part.new.self c.in_err-part.field-0.0 p.0 p.2 c.in_err-part.ensures.quiet;
      fits = λ u o. tt;
      within = tt;
      failed = of_fault c.in_err-part.field-0.0 p.0 p.2;
    })

pub returns : goal.returns
returns g c =
    record {
      read = read_ok g.K.Keeper c.args.keeper.now c.load_part.new.self _ _ c.in_ok-part.ensures.quiet;
      fits = c.in_ok-part.ensures.loaded;
      within = c.in_ok-part.ensures.within;
      failed = tt;
    }
