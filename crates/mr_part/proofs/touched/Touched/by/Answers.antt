use Rattle.std.proofs.Common.{◌≡◌, ◌||◌, ◌∙◌, ◌∷◌, ◌+◌, ap, sym, subst, drop, map, List, ℕ, Bool}
use Rattle.std.proofs.Math.Bool.{or-false}
use Rattle.std.proofs.lemmas.List.{drop_more, at_drop_all}
use Rattle.std.specs.List.{list_any}
use Rattle.mr_model.specs.Texts.{Text}
use Rattle.mr_model.specs.Writes.{Id}
use Rattle.mr_base.specs.declared.batches.Item.{Item}
use Rattle.mr_base.specs.Batches.{item_of}
use Rattle.mr_part.specs.Sets.{has_id}
use Rattle.mr_replay.specs.Seen.{has_room}
use Rattle.mr_part.specs.Touched.{commits_id, writes_in}
use Rattle.mr_part.proofs.Sets.{added_more}
use Rattle.mr_part.proofs.touched.Touched.by.Goals as goal

abbrev committed : ℕ → Id → List Item → Bool
committed commits id items = list_any (commits_id commits id) (map item_of items)

abbrev written : Text → List Item → Bool
written room items = list_any (writes_in room) (map item_of items)

pub loop-item-preserved : goal.loop-item-preserved
loop-item-preserved c =
    let items = c.args.items.now in
    let commits = c.args.commits in
    let item = c.item-item.result in
    let k = c.loop-item.item-index in
    let rest = drop (k + 1) items in
    let old = c.loop-item.touched in
    let new = c.add.new.self in
    let here = drop_more items k item c.loop-item-test.true ∙ ap (λ x. x ∷ rest) (sym c.item-item.is) in (
      λ id. added_more (has_id new.committed id) (has_id old.committed id) (commits_id commits id (item_of item)) (committed commits id rest) (committed commits id items)
          (c.in_ok-add.ensures.committed id)
          (subst (λ left. (has_id old.committed id || committed commits id left) ≡ committed commits id items) here (c.loop-item.invariant.0 id)),
      λ room. added_more (has_room new.rooms room) (has_room old.rooms room) (writes_in room (item_of item)) (written room rest) (written room items)
          (c.in_ok-add.ensures.rooms room)
          (subst (λ left. (has_room old.rooms room || written room left) ≡ written room items) here (c.loop-item.invariant.1 room)),
    )

pub returns-clause-touched : goal.returns-clause-touched
returns-clause-touched c =
    let items = c.args.items.now in
    let commits = c.args.commits in
    let k = c.loop-item.item-index in
    let done = c.loop-item-test.false in
    let had = c.loop-item.touched in
    record {
      committed = λ id. sym (or-false (has_id had.committed id))
          ∙ subst (λ left. (has_id had.committed id || left) ≡ committed commits id items) (at_drop_all (committed commits id) items k done) (c.loop-item.invariant.0 id);
      rooms = λ room. sym (or-false (has_room had.rooms room))
          ∙ subst (λ left. (has_room had.rooms room || left) ≡ written room items) (at_drop_all (written room) items k done) (c.loop-item.invariant.1 room);
    }
