use Rattle.std.proofs.Common.{◌≡◌, false, [], Ok}
use Rattle.sqlite_schema.specs.declared.schema.Schema.{Schema}
use Rattle.sqlite.specs.Given.{IsPlain}
use Rattle.sqlite.specs.Held.{state}
use Rattle.sqlite.specs.Listing.{understood}
use Rattle.mr_rows.specs.Reads.{LooksIn}
use Rattle.mr_rows.specs.Kept.{AreTaken}
use Rattle.mr_rows.proofs.StreamedRows.{SoFar}
use Rattle.mr_rows.proofs.found.take_rows.Given as goal

-- the rows that were given so far are taken, and nothing has changed
abbrev pub invariant-rows : goal.invariant-rows
invariant-rows g l =
    let old = state g.S.Store l.fn.conn in
    (l.rows.conn.ghost_name ≡ l.initial.rows.conn.ghost_name) × (l.rows.conn.now.in_transaction ≡ false)
    × ((under : Schema) → IsPlain (understood under l.sql)
    → LooksIn {X = Unit {0}} under old (state g.S.Store l.rows.conn.now) (Ok tt) (λ _. SoFar g.S.Store l.sql [] (AreTaken g.R.StoredRow.form l.keep l.out.items) old l.rows.conn.now))
