use Rattle.std.proofs.Common.{◌≡◌, ◌+◌, ◌++◌, [], ◌∷◌, Some, take, length, sym, ap, ◌∙◌, subst, append_assoc, append-nil, arith}
use Rattle.std.proofs.lemmas.Bool.Decides.{nat_tests}
use Rattle.std.proofs.lemmas.List.{length-map, length-take}
use Rattle.mr_model.specs.Writes.{id_of, is_commit_number}
use Rattle.mr_model.specs.Exchange as model
use Rattle.mr_model.specs.Step.{item_if_lacked}
use Rattle.mr_part.specs.declared.kept_rows.KeptRow.{KeptRow}
use Rattle.mr_part.specs.KeptRows.{row_writes}
use Rattle.mr_part.specs.Outgoing.{Offers, committed_items, lacked_items}
use Rattle.mr_part.proofs.Batching.{committed_items-more, committed_full, row_more}
use Rattle.mr_model.proofs.BatchesReadBack.{only_if_some}
use Rattle.mr_part.proofs.calls.outgoing.Outgoing.push_commits.Goals as goal

pub loop-k-preserved : goal.loop-k-preserved
loop-k-preserved c =
    let p = c.args.position.now in
    let rows = c.args.rows.now in
    let first = c.args.first in
    let k = c.loop-k.k in
    let x = c.index-rows-k.result in
    let w = x.write in
    let below = c.loop-k-test.true in
    let limit = c.loop-k.invariant.0 in
    let limit' = c.in_ok-push_if_lacked.ensures.limit ∙ limit in
    let old = c.args.self.now.limit in (
      c.in_ok-push_commit.ensures.limit ∙ limit',
      λ items offers.
          let front = committed_items p first (row_writes (take k rows)) in
          let lacked = item_if_lacked p (Some w) in
          let seq = only_if_some (is_commit_number c.saturating_add.result) c.saturating_add.result c.in-Some.seq (sym c.in-Some.ensures) in
          let size = length-map (take k rows) (λ (y : KeptRow). y.write) ∙ length-take k rows in
          let within = seq.0 in
          let number = c.saturating_add.ensures in
          let is : c.saturating_add.result ≡ first + length (row_writes (take k rows)) = grind (arith, nat_tests) in
          let id : c.id.result ≡ id_of w = c.id.ensures in
          let item : model.C c.in-Some.seq c.id.result ≡ model.C (first + length (row_writes (take k rows))) (id_of w) = λ t. model.C ((sym seq.1 ∙ is) t) (id t) in
          let before = subst (λ n. Offers n (items ++ front) c.loop-k.self.items.items c.loop-k.self.more) (sym limit) (c.loop-k.invariant.1 items offers) in
          let more = subst (λ n. Offers n ((items ++ front) ++ lacked_items p (w ∷ [])) c.push_if_lacked.new.self.items.items c.push_if_lacked.new.self.more)
          (sym c.in_ok-push_if_lacked.ensures.limit) (c.in_ok-push_if_lacked.ensures.items (items ++ front) before) in
          let last = c.in_ok-push_commit.ensures.items ((items ++ front) ++ lacked_items p (w ∷ [])) more in
          let all : ((items ++ front) ++ (lacked ++ [])) ++ model.C c.in-Some.seq c.id.result ∷ [] ≡ items ++ committed_items p first (row_writes (take (k + 1) rows)) =
          (λ t. ((items ++ front) ++ append-nil lacked t) ++ item t ∷ [])
          ∙ append_assoc (items ++ front) lacked (model.C (first + length (row_writes (take k rows))) (id_of w) ∷ [])
          ∙ append_assoc items front (lacked ++ model.C (first + length (row_writes (take k rows))) (id_of w) ∷ [])
          ∙ ap (λ xs. items ++ xs) (sym (committed_items-more p first (row_writes (take k rows)) w))
          ∙ ap (λ us. items ++ committed_items p first us) (row_more rows k x below c.index-rows-k.is) in
          subst (λ xs. Offers old xs c.push_commit.new.self.items.items c.push_commit.new.self.more) all
          (subst (λ n. Offers n (((items ++ front) ++ (lacked ++ [])) ++ model.C c.in-Some.seq c.id.result ∷ []) c.push_commit.new.self.items.items c.push_commit.new.self.more) limit' last),
    )

-- the limit is reached
pub returns-then-self-clause-items : goal.returns-then-self-clause-items
returns-then-self-clause-items c = λ items offers.
    committed_full c.args.self.now.limit c.args.position.now c.args.first items c.args.rows.now c.loop-k.k c.loop-k.self.items.items c.loop-k.self.more
    (c.loop-k.invariant.1 items offers) c.if-self.true
