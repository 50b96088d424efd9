use Rattle.std.proofs.Common.{inl, refl}
use Rattle.std.specs.Prelude.{true, IsTrue}
use Rattle.sqlite.specs.Held.{state}
use Rattle.mr_rows.specs.Schema.{our_schema}
use Rattle.mr_rows.specs.Form.{room_form}
use Rattle.mr_rows.specs.Shown.{AreStoredAs}
use Rattle.mr_rows.specs.Kept.{AreRowsOf}
use Rattle.mr_rows.proofs.QueryLemmas.{reads_so}
use Rattle.mr_rows.proofs.StreamedRows.{kept_looks}
use Rattle.mr_rows.proofs.FoundLemmas.{rooms_of}
use Rattle.mr_rows.proofs.all_tables.read_rooms.Goals as goal

pub returns-clause-reads : goal.returns-clause-reads
returns-clause-reads g c =
    let old = state g.S.Store c.args.conn.now in
    let new = state g.S.Store c.find.new.conn in
    reads_so old new c.find.result (λ r. AreStoredAs room_form old.now.trees × (IsTrue true → AreRowsOf room_form old.now.trees r.items)) _
    (λ kept r p. rooms_of old.now.trees r.items kept.ours.held.room (p.1 refl)) (kept_looks old new c.find.result _ (c.find.ensures.looks our_schema (inl refl)))

pub returns-clause-cause : goal.returns-clause-cause
returns-clause-cause g c = c.find.ensures.cause our_schema (inl refl)
