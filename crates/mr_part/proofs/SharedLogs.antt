-- What a part sees on a log of all kept writes.
use Rattle.std.proofs.Common.{◌≡◌, ◌∙◌, sym, ap, ℕ, ◌-◌, ◌≤◌, min, ◌++◌, length, drop, map, arith}
use Rattle.std.specs.List.{drop-map}
use Rattle.std.proofs.lemmas.List.{drop-append-le, drop_min}
use Rattle.mr_model.specs.Replica.{Replica, IsReplica, tentative}
use Rattle.mr_model.specs.Kept.{kept_in_order, kept_committed}
use Rattle.mr_model.specs.Scopes.{Above}
use Rattle.mr_part.specs.KeptRows.{kept_row}
use Rattle.mr_part.specs.Parts.{kept_in}
use Rattle.mr_part.proofs.OrderNumbers.{kept_committed_long}

-- all kept writes are above none
pub all_above : (a : Replica) → kept_in (Above 0) a ≡ kept_in_order a
all_above a =
    let none : 0 - a.dropped ≡ 0 = omega arith in
    ap (λ n. drop n (kept_committed a) ++ tentative a) none

-- those behind the commits up to a number are the ones above it
pub above_seen : (a : Replica) (commits first : ℕ) → IsReplica a → first ≡ min (commits - a.dropped) (length a.commits - a.dropped)
    → drop first (map (kept_row a) (kept_in_order a)) ≡ map (kept_row a) (kept_in (Above commits) a)
above_seen a commits first sound is =
    let long = kept_committed_long a sound in
    let len : length a.commits - a.dropped ≡ length (kept_committed a) = omega (arith, long) in
    let least : first ≡ min (commits - a.dropped) (length (kept_committed a)) = is ∙ ap (min (commits - a.dropped)) len in
    let few : first ≤ length (kept_committed a) = omega (arith, least) in
    let same : drop first (kept_committed a) ≡ drop (commits - a.dropped) (kept_committed a) = ap (λ n. drop n (kept_committed a)) least ∙ drop_min (commits - a.dropped) (kept_committed a) in
    drop-map (kept_row a) first (kept_in_order a) ∙ ap (map (kept_row a)) (drop-append-le first (kept_committed a) (tentative a) few ∙ ap (λ ws. ws ++ tentative a) same)
