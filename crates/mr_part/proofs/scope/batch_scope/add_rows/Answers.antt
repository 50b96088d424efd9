use Rattle.std.proofs.Common.{◌≡◌, ◌||◌, ◌&&◌, ◌∙◌, ◌∷◌, ◌+◌, ap, sym, subst, drop}
use Rattle.std.proofs.Math.Bool.{or-false}
use Rattle.std.proofs.lemmas.List.{drop_more, at_drop_all}
use Rattle.std.specs.List.{list_any}
use Rattle.std.specs.Prelude.{bytes_eq}
use Rattle.mr_model.specs.Tables.{LogRow}
use Rattle.mr_model.specs.Queries.{log_id}
use Rattle.mr_part.specs.Sets.{has_id}
use Rattle.mr_replay.specs.Seen.{has_room}
use Rattle.mr_part.proofs.Sets.{added_more}
use Rattle.mr_part.proofs.scope.batch_scope.add_rows.Goals as goal

pub loop-row-preserved : goal.loop-row-preserved
loop-row-preserved c = λ name.
    let rows = c.args.rows.now in
    let row = c.row-item.result in
    let k = c.loop-row.row-index in
    let is_its = λ (row : LogRow). has_id c.args.ids.now (log_id row) && bytes_eq name row.room in
    let all = has_room c.args.rooms.now name || list_any is_its rows in
    let old = has_room c.loop-row.rooms name in
    let new = c.add_if_named.new.rooms in
    let here = drop_more rows k row c.loop-row-test.true ∙ ap (λ x. x ∷ drop (k + 1) rows) (sym c.row-item.is) in
    let added = c.in_ok-add_if_named.ensures.rooms name ∙ (λ t. (has_id c.args.ids.now (c.id.ensures t) && bytes_eq name c.row.inside.room) || old)
    ∙ ap (λ (r : LogRow). (has_id c.args.ids.now (log_id row) && bytes_eq name r.room) || old) c.row.view_is in
    added_more (has_room new name) old (is_its row) (list_any is_its (drop (k + 1) rows)) all added
    (subst (λ left. (old || list_any is_its left) ≡ all) here (c.loop-row.invariant name))

pub returns-clause-rooms : goal.returns-clause-rooms
returns-clause-rooms c = λ name.
    let rows = c.args.rows.now in
    let is_its = λ (row : LogRow). has_id c.args.ids.now (log_id row) && bytes_eq name row.room in
    let had = has_room c.loop-row.rooms name in
    sym (or-false had)
    ∙ subst (λ left. (had || left) ≡ (has_room c.args.rooms.now name || list_any is_its rows))
    (at_drop_all (list_any is_its) rows c.loop-row.row-index c.loop-row-test.false) (c.loop-row.invariant name)
