-- Numbers of texts, of which one of 64 bits tells no more than its greatest.
use Rattle.std.specs.Prelude.{ℕ, min}

abbrev pub capped : ℕ → ℕ
capped n = min n 18_446_744_073_709_551_615
