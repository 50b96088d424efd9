-- The counts of a replica, read off its tallies.
use Rattle.std.proofs.Common.{◌≡◌, ℕ, zero, suc, ◌+◌, ◌≤◌, ◌==◌, Bool, true, false, cond, List, [], ◌∷◌, ◌++◌, ap, refl, arith}
use Rattle.mr_model.specs.Texts.{numbers_on}
use Rattle.mr_model.specs.Positions.{counts_of}
use Rattle.mr_model.specs.Replica.{Replica}
use Rattle.mr_tables.specs.declared.summary.Tally.{Tally}
use Rattle.mr_tables.specs.Summary.{tally_at, summary_of, counts_in}
use Rattle.mr_tables.proofs.Summaries.{tally-of}

pub counts_in-append : (ts : List Tally) (xs ys : List ℕ) → counts_in ts (xs ++ ys) ≡ counts_in ts xs ++ counts_in ts ys
counts_in-append ts [] ys = refl
counts_in-append ts (x ∷ xs) ys = go ((tally_at ts x).count == 0) (counts_in-append ts xs ys)
  where
    go : (b : Bool) → counts_in ts (xs ++ ys) ≡ counts_in ts xs ++ counts_in ts ys
        → cond b (counts_in ts (xs ++ ys)) (record { server = x; count = (tally_at ts x).count } ∷ counts_in ts (xs ++ ys))
        ≡ cond b (counts_in ts xs) (record { server = x; count = (tally_at ts x).count } ∷ counts_in ts xs) ++ counts_in ts ys
    go true e = e
    go false e = ap (λ cs. record { server = x; count = (tally_at ts x).count } ∷ cs) e

-- of a replica they are its own
counts-numbered : (a : Replica) (k n : ℕ) → k + n ≤ 100 → counts_in (summary_of a).tallies (numbers_on k n) ≡ counts_of a (numbers_on k n)
counts-numbered a k zero small = refl
counts-numbered a k (suc n) small =
    let count = ap (λ (t : Tally). t.count) (tally-of a k (omega arith)) in
    let rest = counts-numbered a (k + 1) n (omega arith) in
    λ t. cond (count t == 0) (rest t) (record { server = k; count = count t } ∷ rest t)

pub counts-own : (a : Replica) → counts_in (summary_of a).tallies (numbers_on 1 99) ≡ counts_of a (numbers_on 1 99)
counts-own a = counts-numbered a 1 99 (omega arith)
