use Rattle.std.proofs.Common.{sym, ap, ◌∙◌, map, [], ◌∷◌}
use Rattle.std.proofs.lemmas.List.{map-append}
use Rattle.mr_tables.specs.Cells.{place_row_of}
use Rattle.mr_tables.specs.Written.{with_place}
use Rattle.mr_part.specs.Placing.{with_places_put}
use Rattle.mr_part.proofs.Placings.{put-more}
use Rattle.mr_part.proofs.calls.placing.put_places.Goals as goal

pub loop-row-preserved : goal.loop-row-preserved
loop-row-preserved c =
    let row = c.in-Some.row in
    c.in_ok-put_row.ensures.rows ∙ ap (λ x. with_place x (place_row_of row)) c.loop-row.invariant
    ∙ sym (put-more _ (map place_row_of c.loop-row.yielded) (place_row_of row))
    ∙ ap (with_places_put _) (sym (map-append place_row_of c.loop-row.yielded (row ∷ [])))
