use Rattle.std.proofs.Common.{◌≡◌, ◌∙◌, ap, map, sym, subst}
use Rattle.std.specs.Prelude.{IfErr}
use Rattle.std.proofs.lemmas.Result.{err_from_is_err_and}
use Rattle.mr_base.specs.declared.refusals.Refusal.TheVariants.{OutOfMemory}
use Rattle.mr_part.specs.KeptRows.{kept_row}
use Rattle.mr_part.proofs.SharedLogs.{all_above}
use Rattle.mr_part.proofs.shared_log.log_in_order.Goals as goal

pub returns-clause-rows : goal.returns-clause-rows
returns-clause-rows c = λ a h e. c.in_ok-wanted.ensures.wanted.kept_are a h e ∙ ap (map (kept_row a)) (all_above a)

pub returns-in_err-wanted-clause-only : goal.returns-in_err-wanted-clause-only
returns-in_err-wanted-clause-only c = λ a h e.
    let p = err_from_is_err_and c.from_residual.result c.from_residual.ensures.1 in
    subst (λ r. IfErr r (λ e. e ≡ OutOfMemory)) (sym p.1) (p.2 ∙ c.in_err-wanted.ensures.only a h e)
