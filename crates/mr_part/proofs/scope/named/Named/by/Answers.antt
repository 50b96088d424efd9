use Rattle.std.proofs.Common.{◌≡◌, ◌||◌, ◌∙◌, ◌∷◌, ◌+◌, ap, sym, subst, drop, map, List, ℕ, Bool}
use Rattle.std.proofs.Math.Bool.{or-false}
use Rattle.std.proofs.lemmas.List.{drop_more, at_drop_all}
use Rattle.std.specs.List.{list_any}
use Rattle.mr_model.specs.Writes.{Id, same_id}
use Rattle.mr_model.specs.Replica.{is_among}
use Rattle.mr_model.specs.Scopes.{item_id, has_number}
use Rattle.mr_model.proofs.CommittedPlaces.{same_id_comm}
use Rattle.mr_base.specs.declared.batches.Item.{Item}
use Rattle.mr_base.specs.Batches.{item_of}
use Rattle.mr_part.specs.Sets.{has_id}
use Rattle.mr_part.specs.Named.{has_commit}
use Rattle.mr_part.proofs.Sets.{added_more}
use Rattle.mr_part.proofs.scope.named.Named.by.Goals as goal

abbrev among : Id → List Item → Bool
among id items = is_among id (map item_id (map item_of items))

abbrev numbered : ℕ → List Item → Bool
numbered number items = list_any (has_number number) (map item_of items)

pub loop-item-preserved : goal.loop-item-preserved
loop-item-preserved c =
    let items = c.args.items.now in
    let item = c.item-item.result in
    let k = c.loop-item.item-index in
    let rest = drop (k + 1) items in
    let old = c.loop-item.named in
    let new = c.add.new.self in
    let here = drop_more items k item c.loop-item-test.true ∙ ap (λ x. x ∷ rest) (sym c.item-item.is) in (
      λ id. added_more (has_id new.ids id) (has_id old.ids id) (same_id id (item_id (item_of item))) (among id rest) (among id items)
          (c.in_ok-add.ensures.ids id ∙ ap (λ b. b || has_id old.ids id) (same_id_comm (item_id (item_of item)) id))
          (subst (λ left. (has_id old.ids id || among id left) ≡ among id items) here (c.loop-item.invariant.0 id)),
      λ number. added_more (has_commit new.numbers number) (has_commit old.numbers number) (has_number number (item_of item)) (numbered number rest) (numbered number items)
          (c.in_ok-add.ensures.numbers number)
          (subst (λ left. (has_commit old.numbers number || numbered number left) ≡ numbered number items) here (c.loop-item.invariant.1 number)),
    )

pub returns-clause-named : goal.returns-clause-named
returns-clause-named c =
    let items = c.args.items.now in
    let k = c.loop-item.item-index in
    let done = c.loop-item-test.false in
    let had = c.loop-item.named in
    record {
      ids = λ id. sym (or-false (has_id had.ids id))
          ∙ subst (λ left. (has_id had.ids id || left) ≡ among id items) (at_drop_all (among id) items k done) (c.loop-item.invariant.0 id);
      numbers = λ number. sym (or-false (has_commit had.numbers number))
          ∙ subst (λ left. (has_commit had.numbers number || left) ≡ numbered number items) (at_drop_all (numbered number) items k done) (c.loop-item.invariant.1 number);
    }
