use Rattle.std.proofs.Common.{◌≡◌, ◌∙◌, ◌++◌, ◌∷◌, ap, sym, take, drop, map}
use Rattle.std.proofs.lemmas.List.{map-append, take-map, drop-map}
use Rattle.mr_part.specs.RowTests.{stamp_place}
use Rattle.mr_part.proofs.Stamping.{put_at}
use Rattle.mr_part.proofs.scope.commits.put_row.Goals as goal

pub returns-clause-rows : goal.returns-clause-rows
returns-clause-rows c =
    let row = c.args.row in
    let refs = c.args.rows.now.items in
    let rows = map (λ r. r.now) refs in
    let place : c.place_in-place.result ≡ stamp_place row.now rows = c.place_in-place.ensures.place ∙ ap (λ rs. stamp_place row.now (map (λ r. r.now) rs)) c.deref.ensures.value in
    let items = c.in_ok-insert.ensures.items ∙ ap (λ k. take k refs ++ row ∷ drop k refs) place in
    ap (map (λ r. r.now)) items
    ∙ map-append (λ r. r.now) (take (stamp_place row.now rows) refs) (row ∷ drop (stamp_place row.now rows) refs)
    ∙ (λ i. sym (take-map (λ r. r.now) (stamp_place row.now rows) refs) i ++ row.now ∷ sym (drop-map (λ r. r.now) (stamp_place row.now rows) refs) i)
    ∙ sym (put_at row.now rows)
