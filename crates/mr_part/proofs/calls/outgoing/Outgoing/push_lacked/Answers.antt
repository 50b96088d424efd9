use Rattle.std.proofs.Common.{◌≡◌, ◌+◌, ◌++◌, [], ◌∷◌, take, sym, ap, ◌∙◌, subst, append_assoc}
use Rattle.mr_part.specs.KeptRows.{row_writes}
use Rattle.mr_part.specs.Outgoing.{Offers, lacked_items}
use Rattle.mr_part.proofs.Batching.{lacked_items-append, lacked_full, row_more}
use Rattle.mr_part.proofs.calls.outgoing.Outgoing.push_lacked.Goals as goal

pub loop-row-preserved : goal.loop-row-preserved
loop-row-preserved c =
    let p = c.args.position.now in
    let rows = c.args.rows.now in
    let k = c.loop-row.row-index in
    let x = c.row-item.result in
    let w = x.write in
    let below = c.loop-row-test.true in
    let limit = c.loop-row.invariant.0 in (
      c.in_ok-push_if_lacked.ensures.limit ∙ limit,
      λ items offers.
          let front = lacked_items p (row_writes (take k rows)) in
          let before = subst (λ n. Offers n (items ++ front) c.loop-row.self.items.items c.loop-row.self.more) (sym limit) (c.loop-row.invariant.1 items offers) in
          let more = c.in_ok-push_if_lacked.ensures.items (items ++ front) before in
          let all : (items ++ front) ++ lacked_items p (w ∷ []) ≡ items ++ lacked_items p (row_writes (take (k + 1) rows)) =
          append_assoc items front (lacked_items p (w ∷ [])) ∙ ap (λ xs. items ++ xs) (sym (lacked_items-append p (row_writes (take k rows)) (w ∷ [])))
          ∙ ap (λ us. items ++ lacked_items p us) (row_more rows k x below c.row-item.is) in
          subst (λ xs. Offers c.args.self.now.limit xs c.push_if_lacked.new.self.items.items c.push_if_lacked.new.self.more) all
          (subst (λ n. Offers n ((items ++ front) ++ lacked_items p (w ∷ [])) c.push_if_lacked.new.self.items.items c.push_if_lacked.new.self.more) limit more),
    )

-- the limit is reached
pub returns-then-self-clause-items : goal.returns-then-self-clause-items
returns-then-self-clause-items c = λ items offers.
    lacked_full c.args.self.now.limit c.args.position.now items c.args.rows.now c.loop-row.row-index c.loop-row.self.items.items c.loop-row.self.more
    (c.loop-row.invariant.1 items offers) c.if-self.true
