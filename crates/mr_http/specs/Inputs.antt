-- The input of a reader.
use Rattle.std.specs.Prelude.{◌≡◌, ℕ, List, Option, IfSome}

-- all that a reader gives up to its end, where that is known
abbrev pub IsInput : Option (List ℕ) → List ℕ → Type 0
IsInput known input = IfSome known (λ all. input ≡ all)

-- it holds of the input of a reader; of some input, where the reader doesn't tell its bytes
abbrev pub OfInput : Option (List ℕ) → (List ℕ → Type 0) → Type 0
OfInput known P = (input : List ℕ) × IsInput known input × P input
