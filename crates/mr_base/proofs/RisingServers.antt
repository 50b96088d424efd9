-- The servers of a position rise.
use Rattle.std.proofs.Common.{◌≡◌, ◌&&◌, refl, ap, ltb, List, [], ◌∷◌}
use Rattle.mr_model.specs.Positions.{Count, are_rising}
use Rattle.mr_base.specs.PositionCounts.{are_rising_above}

-- they rise where those behind the first rise above it
pub rising_behind : (c : Count) (cs : List Count) → are_rising (c ∷ cs) ≡ are_rising_above c.server cs
rising_behind c [] = refl
rising_behind c (d ∷ ds) = ap (λ b. ltb c.server d.server && b) (rising_behind d ds)
