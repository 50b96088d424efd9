use Rattle.std.proofs.Common.{◌≡◌, inr, Ok, length, refl, ◌∙◌, ap, Err}
use Rattle.std.proofs.lemmas.Result.{err_from_is_err_and}
use Rattle.std.specs.Prelude.{true, IsTrue}
use Rattle.sqlite.specs.Held.{state}
use Rattle.mr_model.specs.First.{FirstTables}
use Rattle.mr_rows.specs.Schema.{first_schema}
use Rattle.mr_rows.specs.Form.{room_form, vector_form, booking_form, error_form}
use Rattle.mr_rows.specs.Database.{IsHeld, first_meta, in_order}
use Rattle.mr_rows.specs.Shown.{AreStoredAs}
use Rattle.mr_rows.specs.Kept.{AreRowsOf}
use Rattle.mr_rows.proofs.QueryLemmas.{looks_then}
use Rattle.mr_rows.proofs.CauseLemmas.{looks_fail}
use Rattle.mr_first.specs.Forms.{first_meta_form, write_form, undo_form}
use Rattle.mr_first.specs.FirstShown.{AreFirstRows}
use Rattle.mr_first.specs.FirstDatabase.{first_in}
use Rattle.mr_first.proofs.ReadLemmas.{Stored, AreAll, beside_meta, whole_first, stand_in_first, reads_of_looks, reads_made}
use Rattle.mr_first.specs.FirstDatabase.{IsKeptFirst}
use Rattle.mr_rows.proofs.CauseLemmas.{same_reads, same_error}
use Rattle.mr_first.proofs.found.read_first.Goals as goal

pub returns-in_err-rows-clause-reads : goal.returns-in_err-rows-clause-reads
returns-in_err-rows-clause-reads g c =
    let a = state g.S.Store c.args.conn.now in
    let read = reads_of_looks a (state g.S.Store c.find.new.conn) c.find.result
    (λ r. Stored a.now.trees × (IsTrue true → (AreRowsOf room_form a.now.trees r.0.0.items × AreRowsOf vector_form a.now.trees r.0.1.items)
    × ((AreRowsOf write_form a.now.trees r.1.0.0.items × AreRowsOf undo_form a.now.trees r.1.0.1.items)
    × (AreRowsOf booking_form a.now.trees r.1.1.0.items × AreRowsOf error_form a.now.trees r.1.1.1.items)))) (c.find.ensures.looks first_schema stand_in_first) in
    let p = err_from_is_err_and c.from_residual.result c.from_residual.ensures.1 in
    same_reads IsKeptFirst (state g.S.Store c.args.conn.now) (state g.S.Store c.find.new.conn) c.find.result _ c.from_residual.result _ c.in_err-rows.field-0.0 (p.1 ∙ ap Err p.2) read

pub returns-in_err-meta-clause-reads : goal.returns-in_err-meta-clause-reads
returns-in_err-meta-clause-reads g c =
    let a = state g.S.Store c.args.conn.now in
    let b = state g.S.Store c.find.new.conn in
    let d = state g.S.Store c.the_meta.new.conn in
    let read = reads_of_looks a d c.the_meta.result (λ _. Unit {0})
    (looks_then a b d c.in_ok-rows.rows (λ r. Stored a.now.trees × (IsTrue true → (AreRowsOf room_form a.now.trees r.0.0.items × AreRowsOf vector_form a.now.trees r.0.1.items)
    × ((AreRowsOf write_form a.now.trees r.1.0.0.items × AreRowsOf undo_form a.now.trees r.1.0.1.items)
    × (AreRowsOf booking_form a.now.trees r.1.1.0.items × AreRowsOf error_form a.now.trees r.1.1.1.items)))) c.the_meta.result
    (λ db m. IsHeld first_meta_form (db.trees 0) → m ≡ first_meta (in_order first_meta_form (db.trees 0))) (λ _. Unit {0}) (λ here m p q. tt)
    (c.in_ok-rows.ensures.looks first_schema stand_in_first) (c.the_meta.ensures.looks first_schema (inr refl))) in
    let p = err_from_is_err_and c.from_residual-in_err-meta.result c.from_residual-in_err-meta.ensures.1 in
    same_reads IsKeptFirst (state g.S.Store c.args.conn.now)
    (state g.S.Store c.the_meta.new.conn) c.the_meta.result _ c.from_residual-in_err-meta.result _ c.in_err-meta.field-0.0 (p.1 ∙ ap Err p.2) read

pub returns-clause-reads : goal.returns-clause-reads
returns-clause-reads g c =
    let a = state g.S.Store c.args.conn.now in
    let b = state g.S.Store c.find.new.conn in
    let d = state g.S.Store c.the_meta.new.conn in
    let r = c.in_ok-rows.rows in
    let m = c.in_ok-meta.meta in
    let t : FirstTables = record { meta = m; room = r.0.0.items; vector = r.0.1.items; write_log = r.1.0.0.items; undo = r.1.0.1.items; booking = r.1.1.0.items; errorlog = r.1.1.1.items } in
    reads_made a d m (λ m. AreAll a.now.trees t × (IsHeld first_meta_form (a.now.trees 0) → m ≡ first_meta (in_order first_meta_form (a.now.trees 0))))
    (Ok t) (λ t. t ≡ first_in a.now.trees) (λ kept p. whole_first a.now.trees t kept.ours.held p.0 p.1)
    (reads_of_looks a d (Ok m) (λ m. AreAll a.now.trees t × (IsHeld first_meta_form (a.now.trees 0) → m ≡ first_meta (in_order first_meta_form (a.now.trees 0))))
    (looks_then a b d r (λ r. Stored a.now.trees × (IsTrue true → (AreRowsOf room_form a.now.trees r.0.0.items × AreRowsOf vector_form a.now.trees r.0.1.items)
    × ((AreRowsOf write_form a.now.trees r.1.0.0.items × AreRowsOf undo_form a.now.trees r.1.0.1.items) × (AreRowsOf booking_form a.now.trees r.1.1.0.items
    × AreRowsOf error_form a.now.trees r.1.1.1.items)))) (Ok m) (λ db m. IsHeld first_meta_form (db.trees 0) → m ≡ first_meta (in_order first_meta_form (db.trees 0)))
    (λ m. AreAll a.now.trees t × (IsHeld first_meta_form (a.now.trees 0) → m ≡ first_meta (in_order first_meta_form (a.now.trees 0)))) (λ here m p q. (p.1 refl, q))
    (c.in_ok-rows.ensures.looks first_schema stand_in_first) (c.in_ok-meta.ensures.looks first_schema (inr refl))))

pub returns-in_err-rows-clause-cause : goal.returns-in_err-rows-clause-cause
returns-in_err-rows-clause-cause g c = λ clean here rows.
    let p = err_from_is_err_and c.from_residual.result c.from_residual.ensures.1 in
    same_error c.find.result c.from_residual.result c.in_err-rows.field-0.0 _ c.in_err-rows.was (p.1 ∙ ap Err p.2)
    (c.find.ensures.cause first_schema stand_in_first clean here (beside_meta (state g.S.Store c.args.conn.now).now.trees rows.0))

pub returns-in_err-meta-clause-cause : goal.returns-in_err-meta-clause-cause
returns-in_err-meta-clause-cause g c = λ clean here rows.
    let a = state g.S.Store c.args.conn.now in
    let b = state g.S.Store c.find.new.conn in
    let d = state g.S.Store c.the_meta.new.conn in
    let p = err_from_is_err_and c.from_residual-in_err-meta.result c.from_residual-in_err-meta.ensures.1 in
    same_error c.the_meta.result c.from_residual-in_err-meta.result c.in_err-meta.field-0.0 _ c.in_err-meta.was (p.1 ∙ ap Err p.2)
    (looks_fail a b d c.in_ok-rows.rows (λ r. Stored a.now.trees × (IsTrue true → (AreRowsOf room_form a.now.trees r.0.0.items × AreRowsOf vector_form a.now.trees r.0.1.items)
    × ((AreRowsOf write_form a.now.trees r.1.0.0.items × AreRowsOf undo_form a.now.trees r.1.0.1.items)
    × (AreRowsOf booking_form a.now.trees r.1.1.0.items × AreRowsOf error_form a.now.trees r.1.1.1.items)))) c.the_meta.result (λ m. IsHeld first_meta_form (b.now.trees 0)
    → m ≡ first_meta (in_order first_meta_form (b.now.trees 0))) (λ t. AreFirstRows t × (length (t 0) ≡ 1)) (λ t. AreStoredAs first_meta_form t × (length (t 0) ≡ 1))
    (c.in_ok-rows.ensures.looks first_schema stand_in_first) (c.the_meta.ensures.looks first_schema (inr refl))
    (λ t rows. (rows.0.meta, rows.1)) (c.the_meta.ensures.cause first_schema (inr refl)) clean here rows)
