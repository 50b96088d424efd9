use Rattle.std.proofs.Common.{refl}
use Rattle.std.proofs.lemmas.Result.{err_from_is_err_and}
use Rattle.mr_model.specs.Scopes.{NextCommits}
use Rattle.mr_model.specs.Step.{Commit, commit}
use Rattle.mr_service.proofs.KeeperChanges.{not_loaded, made_by}
use Rattle.mr_service.proofs.changing.commit.Goals as goal

pub returns-in_err-part : goal.returns-in_err-part
returns-in_err-part g c =
    let p = err_from_is_err_and c.from_residual.result c.from_residual.ensures.1 in
    record { served = rw (p.1, p.2) (not_loaded g.K.Keeper c.args.keeper.now c.load.new.keeper (NextCommits c.args.k) c.in_err-part.field-0.0 (Commit c.args.k) c.in_err-part.ensures) }

pub returns : goal.returns
returns g c =
    record {
      served = made_by g.K.Keeper c.args.keeper.now c.load.new.keeper c.change.new.keeper (NextCommits c.args.k) c.in_ok-part.part _ _
          (Commit c.args.k) (λ a. commit a c.args.k) c.in_ok-part.ensures c.change.ensures (λ a. refl) c.commit.ensures;
    }
