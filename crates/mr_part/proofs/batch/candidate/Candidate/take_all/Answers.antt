use Rattle.std.proofs.Common.{◌≡◌, ◌+◌, ◌<◌, ◌≤◌, length, min, suc, Ok, Err, map, ap, sym, ◌∙◌, subst, arith}
use Rattle.std.proofs.lemmas.List.{get_or-map, length-map}
use Rattle.std.proofs.lemmas.Result.{err_from_is_err_and}
use Rattle.mr_base.specs.Batches.{item_of}
use Rattle.mr_part.specs.Taken.{TakesItem, TakesItems}
use Rattle.mr_part.proofs.TakingItems.{IsAtInside, inside-next, inside-failed, inside-end, item_at}
use Rattle.mr_part.proofs.batch.candidate.Candidate.take_all.Goals as goal

pub loop-k-preserved : goal.loop-k-preserved
loop-k-preserved c = λ a inside p sound good short covers shows.
    let k = c.loop-k.k in
    let items = c.args.items.now in
    let below = c.loop-k-test.true in
    let at = c.loop-k.invariant a inside p sound good short covers shows in
    let line : c.saturating_add.result ≡ 2 + k = c.saturating_add.ensures ∙ (let m : min (k + 2) 18446744073709551615 ≡ 2 + k = omega arith in m) in
    let item = c.index-items-k.result in
    let is = ap item_of c.index-items-k.is ∙ sym (get_or-map item_of items k item (item_of item) below) in
    let low = subst (λ n. k < n) (sym (length-map items item_of)) below in
    let took = subst (λ n. TakesItem a inside n at.progress (item_of item) (Ok tt) c.take.new.self) line
    (c.in_ok-take.ensures.takes a (map item_of items) inside at.progress at.sound (item_at (map item_of items) k (item_of item) low is) covers at.shows) in
    let next : suc k ≡ k + 1 = omega arith in
    subst (λ n. IsAtInside a inside (map item_of items) n p c.take.new.self) next (inside-next a inside (map item_of items) k (item_of item) p c.loop-k.self c.take.new.self low is good at took)

pub returns-in_err-take-clause-takes : goal.returns-in_err-take-clause-takes
returns-in_err-take-clause-takes c = λ a inside p sound good short covers shows.
    let x = err_from_is_err_and c.from_residual.result c.from_residual.ensures.1 in
    let k = c.loop-k.k in
    let items = c.args.items.now in
    let below = c.loop-k-test.true in
    let at = c.loop-k.invariant a inside p sound good short covers shows in
    let line : c.saturating_add.result ≡ 2 + k = c.saturating_add.ensures ∙ (let m : min (k + 2) 18446744073709551615 ≡ 2 + k = omega arith in m) in
    let item = c.index-items-k.result in
    let is = ap item_of c.index-items-k.is ∙ sym (get_or-map item_of items k item (item_of item) below) in
    let low = subst (λ n. k < n) (sym (length-map items item_of)) below in
    let took = subst (λ n. TakesItem a inside n at.progress (item_of item) (Err c.in_err-take.field-0.0) c.take.new.self) line
    (c.in_err-take.ensures.takes a (map item_of items) inside at.progress at.sound (item_at (map item_of items) k (item_of item) low is) covers at.shows) in
    subst (λ r. TakesItems a inside p (map item_of items) r c.take.new.self) (sym (x.1 ∙ ap Err x.2))
    (inside-failed a inside (map item_of items) k (item_of item) p c.loop-k.self c.take.new.self c.in_err-take.field-0.0 low is at took)

pub returns-clause-takes : goal.returns-clause-takes
returns-clause-takes c = λ a inside p sound good short covers shows.
    let k = c.loop-k.k in
    let items = map item_of c.args.items.now in
    let at = c.loop-k.invariant a inside p sound good short covers shows in
    let past = c.loop-k-test.false in
    let size = length-map c.args.items.now item_of in
    let all : length items ≤ k = omega (arith, past, size) in
    (at.progress, inside-end a inside items k p c.loop-k.self all at, at.shows)
