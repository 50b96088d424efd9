use Rattle.std.proofs.Common.{◌≡◌, ◌∙◌, ap, sym, subst}
use Rattle.std.proofs.lemmas.Bool.{true≢false}
use Rattle.std.proofs.lemmas.Result.{err_from_is_err_and}
use Rattle.std.specs.Prelude.{IfErr}
use Rattle.mr_base.specs.declared.refusals.Refusal.TheVariants.{OutOfMemory}
use Rattle.mr_model.specs.Tables.{Tables, tables_of}
use Rattle.mr_tables.specs.Summary.{IsWithin}
use Rattle.mr_tables.proofs.CountLimits.{numbers_within}
use Rattle.mr_part.specs.ScopeOf.{scope_of}
use Rattle.mr_part.proofs.PartScopes.{same_meta, same_vector, same_room, scope_agrees}
use Rattle.mr_part.proofs.scope.parts.rows_in_scope.Goals as goal
use Rattle.mr_part.proofs.scope.parts.rows_in_scope.Goals.{then-not-do_numbers_agree-via-then-not-do_numbers_agree, then-not-do_numbers_agree-via-else-not-do_numbers_agree+then-not-is_within}

pub returns-then-not-do_numbers_agree-clause-only : goal.returns-then-not-do_numbers_agree-clause-only
returns-then-not-do_numbers_agree-clause-only c = λ a h e.
    let s = scope_of c.args.scope.now in
    let t = c.args.tables.now in
    let agrees = scope_agrees s a t h e in
    let numbers = c.summary_of-summary.ensures a h (same_meta s t (tables_of a) e) (same_vector s t (tables_of a) e) in
    elim c.then-not-do_numbers_agree.branch [
      | then-not-do_numbers_agree-via-then-not-do_numbers_agree w ↦ absurd (true≢false (sym agrees ∙ sym c.do_numbers_agree.ensures ∙ w.if-not-do_numbers_agree.true))
      | then-not-do_numbers_agree-via-else-not-do_numbers_agree+then-not-is_within w ↦ absurd
          (true≢false (sym (w.is_within.ensures.1 (subst IsWithin (sym numbers) (numbers_within a h))) ∙ w.if-not-is_within.true))
    ]

pub returns-in_err-copies_of-in-Ok-clause-only : goal.returns-in_err-copies_of-in-Ok-clause-only
returns-in_err-copies_of-in-Ok-clause-only c = λ a h e.
    let p = err_from_is_err_and c.from_residual.result c.from_residual.ensures.1 in
    subst (λ r. IfErr r (λ e. e ≡ OutOfMemory)) (sym p.1) (p.2 ∙ c.in_err-copies_of-in-Ok.ensures.only)

pub returns-in_ok-copies_of-in-Ok-clause-rows : goal.returns-in_ok-copies_of-in-Ok-clause-rows
returns-in_ok-copies_of-in-Ok-clause-rows c = λ a h e.
    let s = scope_of c.args.scope.now in
    let t = c.args.tables.now in (
      c.summary_of-summary.ensures a h (same_meta s t (tables_of a) e) (same_vector s t (tables_of a) e),
      c.in_ok-copies_of-in-Ok.ensures.copies ∙ c.deref.ensures.value ∙ ap (λ (t : Tables). t.room) c.tables.view_is ∙ same_room s t (tables_of a) e,
    )

pub returns-in-Err-clause-only : goal.returns-in-Err-clause-only
returns-in-Err-clause-only c = λ a h e. c.of_store.ensures.memory (c.in-Err.ensures.only a h e)
