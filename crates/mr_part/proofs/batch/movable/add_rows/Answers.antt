use Rattle.std.proofs.Common.{◌≡◌, ◌||◌, ◌&&◌, ◌∙◌, ◌∷◌, ◌+◌, ap, sym, subst, drop}
use Rattle.std.proofs.Math.Bool.{or-false}
use Rattle.std.proofs.lemmas.List.{drop_more, at_drop_all}
use Rattle.std.specs.List.{list_any}
use Rattle.std.specs.Prelude.{bytes_eq}
use Rattle.mr_model.specs.Writes.{Write, id_of}
use Rattle.mr_part.specs.declared.kept_rows.KeptRow.{KeptRow}
use Rattle.mr_part.specs.Sets.{has_id}
use Rattle.mr_replay.specs.Seen.{has_room}
use Rattle.mr_part.proofs.Sets.{added_more}
use Rattle.mr_part.proofs.batch.movable.add_rows.Goals as goal

pub loop-row-preserved : goal.loop-row-preserved
loop-row-preserved c = λ name.
    let rows = c.args.kept.now in
    let row = c.row-item.result in
    let k = c.loop-row.row-index in
    let is_its = λ (w : Write). has_id c.args.ids.now (id_of w) && bytes_eq name w.room in
    let its = λ (x : KeptRow). has_id c.args.ids.now (id_of x.write) && bytes_eq name x.write.room in
    let all = has_room c.args.rooms.now name || list_any its rows in
    let old = has_room c.loop-row.rooms name in
    let new = c.add_if_named.new.rooms in
    let here = drop_more rows k row c.loop-row-test.true ∙ ap (λ x. x ∷ drop (k + 1) rows) (sym c.row-item.is) in
    let added = c.in_ok-add_if_named.ensures.rooms name ∙ (λ t. (has_id c.args.ids.now (c.id.ensures t) && bytes_eq name c.write.inside.room) || old)
    ∙ ap (λ (w : Write). (has_id c.args.ids.now (id_of row.write) && bytes_eq name w.room) || old) c.write.view_is in
    added_more (has_room new name) old (is_its row.write) (list_any its (drop (k + 1) rows)) all added
    (subst (λ left. (old || list_any its left) ≡ all) here (c.loop-row.invariant name))

pub returns-clause-rooms : goal.returns-clause-rooms
returns-clause-rooms c = λ name.
    let rows = c.args.kept.now in
    let its = λ (x : KeptRow). has_id c.args.ids.now (id_of x.write) && bytes_eq name x.write.room in
    let had = has_room c.loop-row.rooms name in
    sym (or-false had)
    ∙ subst (λ left. (had || left) ≡ (has_room c.args.rooms.now name || list_any its rows)) (at_drop_all (list_any its) rows c.loop-row.row-index c.loop-row-test.false) (c.loop-row.invariant name)
