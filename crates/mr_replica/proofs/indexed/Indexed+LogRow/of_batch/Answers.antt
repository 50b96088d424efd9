use Rattle.std.proofs.Common.{◌≡◌, ◌||◌, ◌+◌, ◌∷◌, [], drop, map, refl, sym, ap, subst, ◌∙◌}
use Rattle.std.proofs.lemmas.List.{drop_more, at_drop_all}
use Rattle.std.specs.List.{filter}
use Rattle.std.specs.Prelude.{IfOk}
use Rattle.mr_base.specs.Batches.{item_of}
use Rattle.mr_model.specs.Queries.{log_id}
use Rattle.mr_model.specs.Scopes.{OfItems, is_named}
use Rattle.mr_model.specs.Tables.{LogRow}
use Rattle.mr_tables.specs.Change.{id_before, put_all}
use Rattle.mr_replica.specs.Needed.{is_late_row, is_log_needed}
use Rattle.mr_replica.proofs.NamedRows.{named_next, none_named, puts_those}
use Rattle.mr_replica.proofs.indexed.Indexed+LogRow.of_batch.Goals as goal

pub loop-item-init : goal.loop-item-init
loop-item-init c =
    (is_late_row c.args.known (map item_of c.args.items.now), c.in_ok-all.ensures, λ r. refl)

pub loop-item-preserved : goal.loop-item-preserved
loop-item-preserved c =
    let items = c.args.items.now in
    let item = c.item-item.result in
    let k = c.loop-item.item-index in
    let rest = drop (k + 1) items in
    let rows = c.args.self.now.rows in
    let here = drop_more items k item c.loop-item-test.true ∙ ap (λ x. x ∷ rest) (sym c.item-item.is) in
    let (q, are, tells) = c.loop-item.invariant in (
      λ r. q r || is_named (item_of item ∷ []) r,
      c.in_ok-put_each.ensures
          ∙ ap (put_all id_before log_id c.in_ok-named_by.field-0.items) are
          ∙ puts_those log_id q (is_named (item_of item ∷ [])) rows c.in_ok-named_by.field-0.items c.named_by.ensures.order c.in_ok-named_by.ensures.those,
      λ r. named_next (q r) (item_of item) (map item_of rest) r ∙ ap (λ left. q r || is_named (map item_of left) r) (sym here) ∙ tells r,
    )

pub returns : goal.returns
returns c =
    let items = c.args.items.now in
    let rows = c.args.self.now.rows in
    let (q, are, tells) = c.loop-item.invariant in
    let last : (r : LogRow) → q r ≡ is_log_needed c.args.known (OfItems (map item_of items)) r =
    λ r. sym (none_named (q r) r) ∙ ap (λ left. q r || is_named (map item_of left) r) (sym (at_drop_all (λ left. left) items c.loop-item.item-index c.loop-item-test.false)) ∙ tells r in
    subst (λ rs. IfOk c.copies.result (λ all. all.items ≡ rs)) (are ∙ (λ t. filter (λ r. last r t) rows)) c.copies.ensures
