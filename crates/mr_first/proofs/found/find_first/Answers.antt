use Rattle.std.proofs.Common.{◌≤◌, inr, length, refl, ◌∙◌, ap, Err}
use Rattle.std.proofs.lemmas.Result.{err_from_is_err_and}
use Rattle.std.specs.Prelude.{false, IsTrue}
use Rattle.sqlite.specs.Held.{state}
use Rattle.mr_rows.specs.Schema.{first_schema}
use Rattle.mr_rows.specs.Form.{room_form, vector_form, booking_form, error_form}
use Rattle.mr_rows.specs.Shown.{AreStoredAs, IsMeta}
use Rattle.mr_rows.specs.Kept.{AreRowsOf}
use Rattle.mr_rows.proofs.QueryLemmas.{looks_then}
use Rattle.mr_rows.proofs.CauseLemmas.{looks_fail}
use Rattle.mr_first.specs.Forms.{first_meta_form, write_form, undo_form}
use Rattle.mr_first.specs.FirstShown.{AreFirstRows}
use Rattle.mr_first.proofs.ReadLemmas.{Stored, all_first, beside_meta, stand_in_first}
use Rattle.mr_rows.specs.Reads.{IsPlacedIn}
use Rattle.mr_rows.proofs.CauseLemmas.{same_reads, same_error}
use Rattle.mr_first.proofs.found.find_first.Goals as goal

pub returns-in_err-rows-clause-looks : goal.returns-in_err-rows-clause-looks
returns-in_err-rows-clause-looks g c =
    let p = err_from_is_err_and c.from_residual.result c.from_residual.ensures.1 in
    same_reads (IsPlacedIn first_schema) (state g.S.Store c.args.conn.now) (state g.S.Store c.find.new.conn) c.find.result _ c.from_residual.result _ c.in_err-rows.field-0.0
    (p.1 ∙ ap Err p.2) (c.find.ensures.looks first_schema stand_in_first)

pub returns-clause-looks : goal.returns-clause-looks
returns-clause-looks g c =
    let a = state g.S.Store c.args.conn.now in
    let b = state g.S.Store c.find.new.conn in
    let d = state g.S.Store c.find_meta.new.conn in
    looks_then a b d c.in_ok-rows.rows (λ r. Stored a.now.trees × (IsTrue false → (AreRowsOf room_form a.now.trees r.0.0.items × AreRowsOf vector_form a.now.trees r.0.1.items)
    × ((AreRowsOf write_form a.now.trees r.1.0.0.items × AreRowsOf undo_form a.now.trees r.1.0.1.items)
    × (AreRowsOf booking_form a.now.trees r.1.1.0.items × AreRowsOf error_form a.now.trees r.1.1.1.items)))) c.find_meta.result
    (λ db m. AreStoredAs first_meta_form db.trees × IsMeta db.trees m) (λ m. AreFirstRows a.now.trees × IsMeta a.now.trees m)
    (λ here m p q. (all_first a.now.trees p.0 q.0, q.1)) (c.in_ok-rows.ensures.looks first_schema stand_in_first) (c.find_meta.ensures.looks first_schema (inr refl))

pub returns-in_err-rows-clause-cause : goal.returns-in_err-rows-clause-cause
returns-in_err-rows-clause-cause g c = λ clean here rows.
    let p = err_from_is_err_and c.from_residual.result c.from_residual.ensures.1 in
    same_error c.find.result c.from_residual.result c.in_err-rows.field-0.0 _ c.in_err-rows.was (p.1 ∙ ap Err p.2)
    (c.find.ensures.cause first_schema stand_in_first clean here (beside_meta (state g.S.Store c.args.conn.now).now.trees rows.0))

pub returns-clause-cause : goal.returns-clause-cause
returns-clause-cause g c =
    let a = state g.S.Store c.args.conn.now in
    let b = state g.S.Store c.find.new.conn in
    let d = state g.S.Store c.find_meta.new.conn in
    looks_fail a b d c.in_ok-rows.rows (λ r. Stored a.now.trees × (IsTrue false → (AreRowsOf room_form a.now.trees r.0.0.items × AreRowsOf vector_form a.now.trees r.0.1.items)
    × ((AreRowsOf write_form a.now.trees r.1.0.0.items × AreRowsOf undo_form a.now.trees r.1.0.1.items)
    × (AreRowsOf booking_form a.now.trees r.1.1.0.items × AreRowsOf error_form a.now.trees r.1.1.1.items)))) c.find_meta.result
    (λ m. AreStoredAs first_meta_form b.now.trees × IsMeta b.now.trees m) (λ t. AreFirstRows t × (length (t 0) ≤ 1)) (λ t. AreStoredAs first_meta_form t × (length (t 0) ≤ 1))
    (c.in_ok-rows.ensures.looks first_schema stand_in_first) (c.find_meta.ensures.looks first_schema (inr refl)) (λ t rows. (rows.0.meta, rows.1)) (c.find_meta.ensures.cause first_schema (inr refl))
