-- Rows that stand by rising keys.
use Rattle.std.specs.Prelude.{◌≡◌, Bool, true, List, length}
use Rattle.std.specs.List.{AllAdjacentBelow}

-- each row's key is before that of the next row
abbrev pub Rise : {R K : Type 0} → (K → K → Bool) → (R → K) → List R → Type 0
Rise before key rows = AllAdjacentBelow (λ x y. before (key x) (key y) ≡ true) rows (length rows)
