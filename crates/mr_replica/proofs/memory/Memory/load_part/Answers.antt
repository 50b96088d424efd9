use Rattle.std.proofs.Common.{◌≡◌, false, sym, ap, subst, ◌∙◌}
use Rattle.std.specs.Prelude.{IfErr}
use Rattle.std.proofs.lemmas.Bool.{true≢false}
use Rattle.std.proofs.lemmas.Result.{err_from_is_err_and}
use Rattle.mr_base.specs.declared.refusals.Refusal.TheVariants.{OutOfMemory}
use Rattle.mr_part.specs.NextId.{id_given}
use Rattle.mr_part.specs.Parts.{PartView, IsPartOf}
use Rattle.mr_part.specs.ScopeOf.{scope_of}
use Rattle.mr_replica.specs.Taken.{is_id_taken}
use Rattle.mr_replica.proofs.NextIds.{given_free}
use Rattle.mr_replica.proofs.memory.Memory.load_part.Goals as goal

pub returns-in_err-part-clause-only : goal.returns-in_err-part-clause-only
returns-in_err-part-clause-only c = λ a h.
    let p = err_from_is_err_and c.from_residual.result c.from_residual.ensures.1 in
    subst (λ r. IfErr r (λ e. e ≡ OutOfMemory)) (sym p.1) (p.2 ∙ c.in_err-part.ensures.only a h)

-- a row has the id that the command would give, as in no replica's tables
pub returns-then-is_taken-clause-only : goal.returns-then-is_taken-clause-only
returns-then-is_taken-clause-only c = λ a h.
    let scope = scope_of c.args.scope.now in
    let t = c.args.self.now in
    let part : IsPartOf c.in_ok-part.part scope a = c.in_ok-part.ensures.loaded a h in
    let free : is_id_taken (id_given scope c.in_ok-part.part.summary) t ≡ false =
    subst (λ s. is_id_taken (id_given scope s) t ≡ false) (sym (ap (λ (p : PartView). p.summary) part)) (given_free scope t a h) in
    absurd (true≢false (sym c.if-is_taken.true ∙ c.is_taken.ensures ∙ ap (λ id. is_id_taken id t) c.id_given.ensures ∙ free))
