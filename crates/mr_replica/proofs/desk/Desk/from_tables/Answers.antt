use Rattle.std.proofs.Common.{◌∙◌, ap, Err}
use Rattle.mr_model.proofs.FirstBadLine.{err_inj}
use Rattle.mr_base.specs.declared.refusals.Refusal.TheVariants.{Store}
use Rattle.mr_replica.proofs.desk.Desk.from_tables.Goals as goal

pub returns-in-Ok-clause-desk : goal.returns-in-Ok-clause-desk
returns-in-Ok-clause-desk c = λ a h e. record { sound = h; are = c.in-Ok.ensures.copy ∙ e }

pub returns-in-Err-clause-only : goal.returns-in-Err-clause-only
returns-in-Err-clause-only c = λ a h e. c.of_store.ensures.memory (c.in-Err.ensures.only a h e)

pub returns-in-Ok-clause-due : goal.returns-in-Ok-clause-due
returns-in-Ok-clause-due c = λ none. absurd (let never : ⊥ = (let e = c.in-Ok.ensures.due none in cc) in never)

pub returns-in-Err-clause-due : goal.returns-in-Err-clause-due
returns-in-Err-clause-due c = λ none. ap Err (c.of_store.ensures.store (λ memory. (let e = err_inj c.in-Err.refusal Store (c.in-Err.ensures.due none) in cc)))
