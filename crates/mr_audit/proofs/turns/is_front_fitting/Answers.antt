use Rattle.std.proofs.Common.{◌≡◌, sym, ap, ◌∙◌, refl, ◌-◌, ◌+◌, ◌<◌, length, arith}
use Rattle.mr_agree.specs.Agreeing.{Note}
use Rattle.mr_audit.specs.Turns.{comes_before}
use Rattle.mr_audit.proofs.SortedIds.{at_any}
use Rattle.mr_audit.proofs.turns.is_front_fitting.Goals as goal

pub returns-then-at-eq0 : goal.returns-then-at-eq0
returns-then-at-eq0 g c = (λ y k d e. absurd (omega (arith, e, c.if-at-eq0.true)), λ f. refl)

pub returns : goal.returns
returns g c =
    let note = g.R.NoteRow.note in
    let rows = c.args.rows.now in
    let a = c.args.note in
    let at = c.args.at in
    let row = c.index-rows-last.result in
    let here = c.comes_before.ensures ∙ ap (λ (x : Note). comes_before x a) (c.note.ensures ∙ ap note c.index-rows-last.is) in
    let some : at ≡ 0 → ⊥ = c.if-at-eq0.false in
    let one : (at - 1) + 1 ≡ at = omega arith in
    let within : at - 1 < length rows = omega arith in
    (λ t k d e. at_any (λ r. comes_before (note r) a) rows k (at - 1) d row (omega (arith, e)) within ∙ sym here ∙ t, λ f. here ∙ f (at - 1) row one)
