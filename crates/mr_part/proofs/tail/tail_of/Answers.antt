use Rattle.std.proofs.Common.{◌≡◌, ◌||◌, ◌∙◌, ◌∷◌, ap, sym, subst, drop, map, ◌+◌}
use Rattle.std.proofs.lemmas.List.{drop_more, at_drop_all}
use Rattle.mr_model.specs.Scopes.{is_late}
use Rattle.mr_base.specs.Batches.{item_of}
use Rattle.mr_part.specs.Tails.{has_place}
use Rattle.mr_part.proofs.Tails.{tail-more, tail-ended}
use Rattle.mr_part.proofs.tail.tail_of.Goals as goal

pub loop-item-preserved : goal.loop-item-preserved
loop-item-preserved c = λ time server.
    let items = c.args.items.now in
    let item = c.item-item.result in
    let k = c.loop-item.item-index in
    let here = drop_more items k item c.loop-item-test.true ∙ ap (λ x. x ∷ drop (k + 1) items) (sym c.item-item.is) in
    tail-more c.args.commits items k item c.loop-item.tail c.with_item-tail.result time server here (c.with_item-tail.ensures time server) (c.loop-item.invariant time server)

pub returns : goal.returns
returns c = λ time server.
    let items = c.args.items.now in
    let none = at_drop_all (λ left. is_late c.args.commits (map item_of left) time server) items c.loop-item.item-index c.loop-item-test.false in
    tail-ended c.args.commits items c.loop-item.tail time server
    (subst (λ b. (has_place c.loop-item.tail time server || b) ≡ is_late c.args.commits (map item_of items) time server) none (c.loop-item.invariant time server))
