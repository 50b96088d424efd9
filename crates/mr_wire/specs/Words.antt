-- A text cut at a byte.
use Rattle.std.specs.Prelude.{ℕ, ◌==◌, if◌then◌else◌, [], ◌∷◌, Option, Some, None, option_map}
use Rattle.mr_model.specs.Texts.{Text}

-- what stands before the first such byte, and what stands behind it
abbrev pub cut : ℕ → Text → Option (Text × Text)
cut c [] = None
cut c (x ∷ xs) = if x == c then Some ([], xs) else option_map (λ p. (x ∷ p.0, p.1)) (cut c xs)
