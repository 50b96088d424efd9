-- What the tallies of servers have of the rows of the vector.
use Rattle.std.specs.Prelude.{◌≡◌, ℕ, Bool, nat_le, List}
use Rattle.mr_model.specs.Tables.{VectorRow}
use Rattle.mr_tables.specs.declared.summary.Tally.{Tally}
use Rattle.mr_tables.specs.Summary.{tally_at}
use Rattle.mr_tables.specs.Tallied.{row_tally}
use Rattle.mr_agree.specs.Agreeing.{vector_in}

-- the tally of each server is that of its first row, and of a server that has no row nothing
abbrev pub TellTheVector : List VectorRow → List Tally → Type 0
TellTheVector rows ts = (s : ℕ) → tally_at ts s ≡ row_tally (vector_in rows s)

-- whether a write is among the first of its server, which are the committed ones
abbrev pub is_first_of_server : List Tally → ℕ → ℕ → Bool
is_first_of_server ts server n = nat_le n (tally_at ts server).committed
