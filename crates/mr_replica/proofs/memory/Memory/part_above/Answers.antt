use Rattle.std.proofs.Common.{◌≡◌, sym, ap, subst, ◌∙◌, rules}
use Rattle.std.specs.Prelude.{IfErr}
use Rattle.std.proofs.lemmas.Result.{err_from_is_err_and}
use Rattle.mr_base.specs.declared.refusals.Refusal.TheVariants.{OutOfMemory}
use Rattle.mr_model.specs.Scopes.{Nothing, in_scope}
use Rattle.mr_part.specs.Parts.{without_bookings}
use Rattle.mr_replica.proofs.memory.Memory.part_above.Goals as goal

pub returns-clause-loaded : goal.returns-clause-loaded
returns-clause-loaded c = λ a h log.
    let same : c.in_ok-shared.shared.value ≡ c.args.log.now.value = search rules in
    c.over_log.ensures.part a h.sound
    (ap (λ v. without_bookings (in_scope Nothing v)) c.in_ok-tables.ensures ∙ ap (λ v. without_bookings (in_scope Nothing v)) h.are)
    (ap (λ v. v.items) same ∙ log)

pub returns-clause-only : goal.returns-clause-only
returns-clause-only c = λ a h. c.over_log.ensures.only a h.sound (ap (λ v. without_bookings (in_scope Nothing v)) c.in_ok-tables.ensures ∙ ap (λ v. without_bookings (in_scope Nothing v)) h.are)

pub returns-in_err-tables-clause-only : goal.returns-in_err-tables-clause-only
returns-in_err-tables-clause-only c = λ a h.
    let p = err_from_is_err_and c.from_residual.result c.from_residual.ensures.1 in
    subst (λ r. IfErr r (λ e. e ≡ OutOfMemory)) (sym p.1) p.2

pub returns-in_err-shared-clause-only : goal.returns-in_err-shared-clause-only
returns-in_err-shared-clause-only c = λ a h.
    let p = err_from_is_err_and c.from_residual-in_err-shared.result c.from_residual-in_err-shared.ensures.1 in
    subst (λ r. IfErr r (λ e. e ≡ OutOfMemory)) (sym p.1) p.2
