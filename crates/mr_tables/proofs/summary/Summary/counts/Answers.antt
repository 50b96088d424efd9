use Rattle.std.proofs.Common.{◌≡◌, ◌+◌, suc, ◌++◌, [], ◌∷◌, ap, sym, ◌∙◌, arith}
use Rattle.mr_model.specs.Texts.{numbers_on}
use Rattle.mr_tables.proofs.CountLimits.{numbers-more}
use Rattle.mr_tables.specs.Summary.{counts_in}
use Rattle.mr_tables.proofs.TallyCounts.{counts_in-append}
use Rattle.mr_tables.proofs.summary.Summary.counts.Goals as goal

pub loop-k-preserved : goal.loop-k-preserved
loop-k-preserved c =
    let k = c.loop-k.k in
    let ts = c.args.self.now.tallies in
    let below = c.loop-k-test.true in
    let next : 1 + k ≡ k + 1 = omega arith in
    let more : suc k ≡ k + 1 = omega arith in
    c.in_ok-push_count.ensures.counts (omega arith) (omega arith)
    ∙ (λ t. c.loop-k.invariant t ++ counts_in ts (sym next t ∷ []))
    ∙ sym (counts_in-append ts (numbers_on 1 k) ((1 + k) ∷ []))
    ∙ ap (counts_in ts) (sym (numbers-more 1 k)) ∙ ap (λ n. counts_in ts (numbers_on 1 n)) more

pub returns-clause-counts : goal.returns-clause-counts
returns-clause-counts c =
    let k = c.loop-k.k in
    let over = c.loop-k-test.false in
    let top = c.loop-k.auto.k-end in
    let all : k ≡ 99 = omega arith in
    c.loop-k.invariant ∙ ap (λ n. counts_in c.args.self.now.tallies (numbers_on 1 n)) all
