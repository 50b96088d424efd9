use Rattle.std.proofs.Common.{◌≡◌, ◌≤◌, ◌+◌, ◌++◌, ◌-◌, ℕ, List, length, vec_len}
use Rattle.std.specs.Io.KnownBytes.{Consumes}
use Rattle.mr_http.proofs.bodies.fill_to.Given as goal

abbrev pub invariant-filling : goal.invariant-filling
invariant-filling g l = (more : List ℕ) × (l.buffer.items ≡ l.fn.buffer.items ++ more)
    × Consumes (g.R.Read.remaining l.fn.reader) (g.R.Read.remaining l.reader) more
    × (vec_len l.buffer ≡ vec_len l.fn.buffer + length more) × (length more ≤ l.total - vec_len l.fn.buffer)

abbrev pub decreases-filling : goal.decreases-filling
decreases-filling g l = l.total - vec_len l.buffer
