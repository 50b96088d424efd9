use Rattle.std.proofs.Common.{sym, ap, ◌∙◌, refl, ◌||◌, arith}
use Rattle.mr_audit.specs.Turns.{comes_before, is_same_note}
use Rattle.mr_audit.proofs.SortedIds.{at_any}
use Rattle.mr_audit.proofs.turns.is_behind_fitting.Goals as goal

pub returns-then-at-rows : goal.returns-then-at-rows
returns-then-at-rows g c = (λ y d l. absurd (omega (arith, l, c.if-at-rows.true)), λ f. refl)

pub returns : goal.returns
returns g c =
    let note = g.R.NoteRow.note in
    let rows = c.args.rows.now in
    let a = c.args.note in
    let at = c.args.at in
    let row = c.index-rows-at.result in
    let next = c.note-next.ensures ∙ ap note c.index-rows-at.is in
    let same = c.is_same_note-same.ensures ∙ ap (is_same_note a) next in
    let before = c.comes_before.ensures ∙ ap (comes_before a) next in (
      λ t d l. at_any (λ r. is_same_note a (note r) || comes_before a (note r)) rows at at d row refl l ∙ (λ i. sym same i || sym before i) ∙ t,
      λ f. (λ i. same i || before i) ∙ f row (omega arith),
    )
