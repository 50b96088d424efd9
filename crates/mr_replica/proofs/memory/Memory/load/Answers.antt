use Rattle.std.proofs.Common.{◌≡◌, sym, subst, ◌∙◌}
use Rattle.std.specs.Prelude.{IfErr}
use Rattle.std.proofs.lemmas.Result.{err_from_is_err_and}
use Rattle.mr_base.specs.declared.refusals.Refusal.TheVariants.{OutOfMemory}
use Rattle.mr_replica.proofs.memory.Memory.load.Goals as goal

pub returns-clause-loaded : goal.returns-clause-loaded
returns-clause-loaded c = λ a h. c.from_tables.ensures.desk a h.sound (c.in_ok-tables.ensures ∙ h.are)

pub returns-clause-only : goal.returns-clause-only
returns-clause-only c = λ a h. c.from_tables.ensures.only a h.sound (c.in_ok-tables.ensures ∙ h.are)

pub returns-in_err-tables-clause-only : goal.returns-in_err-tables-clause-only
returns-in_err-tables-clause-only c = λ a h.
    let p = err_from_is_err_and c.from_residual.result c.from_residual.ensures.1 in
    subst (λ r. IfErr r (λ e. e ≡ OutOfMemory)) (sym p.1) p.2
