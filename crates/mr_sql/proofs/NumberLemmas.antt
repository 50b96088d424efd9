-- The number of the schema in the row of `meta`, under either schema.
use Rattle.std.proofs.Common.{◌≡◌, ◌≢◌, inl, inr, ℕ, pos, ◌<◌, List, [], ◌∷◌, map, length, refl, sym, ap, subst, ◌∙◌, arith}
use Rattle.std.specs.List.Sorted.{IsPermutation}
use Rattle.std.proofs.lemmas.List.Sorted.{length_permutation}
use Rattle.sqlite_value.specs.declared.value.Value.TheVariants.{Int}
use Rattle.sqlite_value.specs.Order.{Row, column}
use Rattle.sqlite_trees.specs.Tree.{Trees}
use Rattle.mr_model.specs.Dropped.{Has}
use Rattle.mr_rows.specs.Shown.{columns_from}
use Rattle.mr_rows.proofs.FirstLemmas.{has_moved}
use Rattle.mr_sql.specs.Refused.{HasOtherNumber}

-- where one row is shown, the table has one
one_row : (rows : List Row) (r : Row) → IsPermutation (map (columns_from 1 7) rows) (r ∷ []) → (s : Row) × (rows ≡ s ∷ []) × (columns_from 1 7 s ≡ r)
one_row [] r same = absurd (let long = length_permutation _ _ same in omega (arith, long))
one_row (s ∷ []) r same = (s, refl, is (has_moved _ (r ∷ []) (columns_from 1 7 s) same (inl refl)))
  where
    is : Has (columns_from 1 7 s) (r ∷ []) → columns_from 1 7 s ≡ r
    is (inl e) = e
    is (inr h) = absurd h
one_row (s ∷ t ∷ rows) r same = absurd (let long = length_permutation _ _ same in omega (arith, long))

-- its number is the one that is shown
pub other_number : (number : ℕ) (trees : Trees) (shown : List Row) → IsPermutation (map (columns_from 1 7) (trees 0)) shown
    → ((r : Row) × (shown ≡ r ∷ []) × (1 < length r → column r 1 ≢ Int (pos number))) → HasOtherNumber number trees
other_number number trees shown same alone =
    let found = one_row (trees 0) alone.0 (subst (IsPermutation (map (columns_from 1 7) (trees 0))) alone.1 same) in
    let long : 1 < length alone.0 = subst (λ (r : Row). 1 < length r) found.2 (omega arith) in
    (found.0, found.1, λ is. alone.2 long (ap (λ (r : Row). column r 1) (sym found.2) ∙ is))
