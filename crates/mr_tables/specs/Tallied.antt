-- The tallies that rows of the vector tell, and the row that a tally has.
use Rattle.std.specs.Prelude.{ℕ, if◌then◌else◌, ◌==◌, List, [], ◌∷◌}
use Rattle.mr_model.specs.Tables.{VectorRow}
use Rattle.mr_tables.specs.declared.summary.Tally.{Tally}
use Rattle.mr_tables.specs.Summary.{tally_at}

abbrev pub row_tally : VectorRow → Tally
row_tally row = record { count = row.count; last_time = row.last_time; committed = row.committed }

-- server by server, each row in the stead of what was noted of its server
abbrev pub tallied : List VectorRow → (ℕ → Tally) → ℕ → Tally
tallied [] f = f
tallied (row ∷ rows) f = tallied rows (λ s. if s == row.server then row_tally row else f s)

-- the row of a server of which something is known
abbrev pub tally_rows : List Tally → ℕ → List VectorRow
tally_rows ts s =
    let t = tally_at ts s in
    if t.count == 0 then [] else record { server = s; count = t.count; last_time = t.last_time; committed = t.committed } ∷ []
