use Rattle.std.proofs.Common.{◌∙◌, true, ap, sym, subst}
use Rattle.std.specs.BTreeSet.{BTreeSet, Updates}
use Rattle.mr_model.specs.Writes.{Id, id_of}
use Rattle.mr_model.specs.Scopes.{item_id}
use Rattle.mr_base.specs.Batches.{item_of}
use Rattle.mr_base.specs.Ids.{id_cmp}
use Rattle.mr_part.proofs.Sets.{id_more}
use Rattle.mr_part.proofs.scope.named.Named.add.Goals as goal

-- the set has one id more
abbrev HasMore : BTreeSet Id → BTreeSet Id → Id → Type 0
HasMore old new id = Updates id_cmp old new id true

pub returns-in_ok-insert-in-W-clause-ids : goal.returns-in_ok-insert-in-W-clause-ids
returns-in_ok-insert-in-W-clause-ids c = λ id.
    let old = c.args.self.now.ids in
    let new = c.insert.new.self in
    let named = c.id.ensures ∙ ap id_of c.write.view_is ∙ ap (λ x. item_id (item_of x)) (sym c.in-W.is) in
    id_more old new (item_id (item_of c.args.item.now)) id (subst (HasMore old new) named c.in_ok-insert-in-W.ensures.updates)

pub returns-in_ok-insert-in-C-2-clause-ids : goal.returns-in_ok-insert-in-C-2-clause-ids
returns-in_ok-insert-in-C-2-clause-ids c = λ id.
    let old = c.args.self.now.ids in
    let new = c.insert-in-C.new.self in
    let named = ap (λ x. item_id (item_of x)) (sym c.in-C.is) in
    id_more old new (item_id (item_of c.args.item.now)) id (subst (HasMore old new) named c.in_ok-insert-in-C.ensures.updates)
