use Rattle.std.proofs.Common.{◌≡◌, ◌||◌, ◌∙◌, ◌∷◌, ◌+◌, ap, sym, subst, drop}
use Rattle.std.proofs.Math.Bool.{or-false}
use Rattle.std.proofs.lemmas.List.{drop_more, at_drop_all}
use Rattle.mr_part.specs.Sets.{has_id}
use Rattle.mr_part.proofs.Sets.{added_more}
use Rattle.mr_service.specs.Questions.{is_tentative_cancel, has_tentative}
use Rattle.mr_service.proofs.calendars.tentative_cancels.Goals as goal

pub loop-row-preserved : goal.loop-row-preserved
loop-row-preserved c = λ id.
    let rows = c.args.cancels.now in
    let row = c.row-item.result in
    let k = c.loop-row.row-index in
    let rest = drop (k + 1) rows in
    let old = c.loop-row.ids in
    let new = c.add_if_tentative.new.ids in
    let here = drop_more rows k row c.loop-row-test.true ∙ ap (λ x. x ∷ rest) (sym c.row-item.is) in
    added_more (has_id new id) (has_id old id) (is_tentative_cancel id row) (has_tentative id rest) (has_tentative id rows)
    (c.in_ok-add_if_tentative.ensures.ids id)
    (subst (λ left. (has_id old id || has_tentative id left) ≡ has_tentative id rows) here (c.loop-row.invariant id))

pub returns-clause-ids : goal.returns-clause-ids
returns-clause-ids c = λ id.
    let rows = c.args.cancels.now in
    let had = c.loop-row.ids in
    sym (or-false (has_id had id))
    ∙ subst (λ left. (has_id had id || left) ≡ has_tentative id rows) (at_drop_all (has_tentative id) rows c.loop-row.row-index c.loop-row-test.false) (c.loop-row.invariant id)
