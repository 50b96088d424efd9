use Rattle.std.proofs.Common.{◌≡◌, ◌∙◌, ◌-◌, ◌+◌, ◌∷◌, ap, sym, length, take, drop, map, true, false, arith}
use Rattle.std.proofs.lemmas.Bool.{cond-true, cond-false}
use Rattle.std.proofs.lemmas.List.{take-map, drop_more}
use Rattle.std.specs.List.{filter}
use Rattle.mr_model.specs.Scopes.{is_tentative, put_row, by_stamp}
use Rattle.mr_part.proofs.Stamping.{take_put}
use Rattle.mr_part.proofs.scope.commits.first_rows.Goals as goal
use Rattle.mr_part.proofs.scope.commits.first_rows.Goals.{then-is_tentative+in_ok-put_row, else-is_tentative}

pub loop-k-preserved : goal.loop-k-preserved
loop-k-preserved c =
    let rows = c.args.rows.now in
    let k = c.loop-k.k in
    let low = c.loop-k-test.true in
    let row = c.index-rows-rows.result in
    let rest = drop (length rows - k) rows in
    let at : length rows - 1 - k ≡ length rows - (k + 1) = omega arith in
    let next : length rows - (k + 1) + 1 ≡ length rows - k = omega (arith, low) in
    let here : drop (length rows - (k + 1)) rows ≡ row ∷ rest =
    drop_more rows (length rows - (k + 1)) row (omega (arith, low))
    ∙ (λ i. (ap (λ n. Rattle.std.proofs.Common.get_or rows n row) (sym at) ∙ sym c.index-rows-rows.is) i ∷ ap (λ n. drop n rows) next i) in
    let put = λ (e : is_tentative row ≡ true). ap (λ rs. take c.args.count (by_stamp (filter is_tentative rs))) here
    ∙ ap (λ rs. take c.args.count (by_stamp rs)) (cond-true (is_tentative row) (row ∷ filter is_tentative rest) (filter is_tentative rest) e) in
    let left = λ (e : is_tentative row ≡ false). ap (λ rs. take c.args.count (by_stamp (filter is_tentative rs))) here
    ∙ ap (λ rs. take c.args.count (by_stamp rs)) (cond-false (is_tentative row) (row ∷ filter is_tentative rest) (filter is_tentative rest) e) in
    elim c.if-is_tentative.branch [
      | then-is_tentative+in_ok-put_row w ↦
          (ap (λ v. map (λ r. r.now) v.items) w.first-is ∙ ap (map (λ r. r.now)) w.truncate.ensures.items
          ∙ sym (take-map (λ r. r.now) c.args.count w.put_row.new.rows.items)
          ∙ ap (take c.args.count) w.in_ok-put_row.ensures.rows
          ∙ ap (λ rs. take c.args.count (put_row row rs)) c.loop-k.invariant
          ∙ take_put c.args.count row (by_stamp (filter is_tentative rest))
          ∙ sym (put (sym c.is_tentative.ensures ∙ w.if-is_tentative.true)))
      | else-is_tentative w ↦
          (ap (λ v. map (λ r. r.now) v.items) w.first-is ∙ c.loop-k.invariant ∙ sym (left (sym c.is_tentative.ensures ∙ w.if-is_tentative.false)))
    ]
