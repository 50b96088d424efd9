-- The counts of a position.
use Rattle.std.specs.Prelude.{ℕ, Bool, true, ◌&&◌, nat_lt, List, [], ◌∷◌, map}
use Rattle.mr_model.specs.Positions.{Count}

-- each server with its count
abbrev pub counts_of_pairs : List (ℕ × ℕ) → List Count
counts_of_pairs counts = map (λ c. record { server = c.0; count = c.1 }) counts

-- the servers rise, and the first is above `last`
abbrev pub are_rising_above : ℕ → List Count → Bool
are_rising_above last [] = true
are_rising_above last (c ∷ cs) = nat_lt last c.server && are_rising_above c.server cs
