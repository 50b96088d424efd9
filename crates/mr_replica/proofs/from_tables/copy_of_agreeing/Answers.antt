use Rattle.std.proofs.Common.{◌≡◌, ◌∙◌, sym, subst, true}
use Rattle.std.proofs.lemmas.Bool.{true≢false}
use Rattle.mr_model.specs.Tables.{Tables}
use Rattle.mr_model.specs.Changes.{AreInKeyOrder}
use Rattle.mr_model.proofs.KeyOrder.{tables_in_order}
use Rattle.mr_agree.specs.Agreeing.{agree}
use Rattle.mr_agree.proofs.TablesAgree.{tables_agree}
use Rattle.mr_replica.specs.Desk.{IsWithinLimits}
use Rattle.mr_replica.proofs.Limits.{tables_within}
use Rattle.mr_replica.proofs.from_tables.copy_of_agreeing.Goals as goal

pub returns-then-not-is_within-clause-only : goal.returns-then-not-is_within-clause-only
returns-then-not-is_within-clause-only c = λ a h e.
    absurd (true≢false (sym (c.is_within.ensures.1 (subst IsWithinLimits (sym e) (tables_within a h))) ∙ c.if-not-is_within.true))

pub returns-in-Ok-false-clause-only : goal.returns-in-Ok-false-clause-only
returns-in-Ok-false-clause-only c = λ a h e.
    let both = subst (λ (t : Tables). (agree t ≡ true) × AreInKeyOrder t) (sym e) (tables_agree a h, tables_in_order a h) in
    absurd (true≢false (sym (c.in-Ok-false.ensures.agree.1 both) ∙ c.in-Ok-false.field-0-test))
