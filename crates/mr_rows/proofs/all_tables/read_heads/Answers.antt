use Rattle.std.proofs.Common.{◌≡◌, inl, Ok, length, refl, ◌∙◌, ap, Err}
use Rattle.std.proofs.lemmas.Result.{err_from_is_err_and}
use Rattle.std.specs.Prelude.{true, IsTrue}
use Rattle.sqlite.specs.Held.{state}
use Rattle.mr_rows.specs.Schema.{our_schema}
use Rattle.mr_rows.specs.Form.{meta_form, room_form, vector_form}
use Rattle.mr_rows.specs.Database.{IsHeld, first_meta, in_order, tables_in}
use Rattle.mr_rows.specs.Shown.{AreStoredAs}
use Rattle.mr_rows.specs.Kept.{AreRowsOf}
use Rattle.mr_rows.proofs.QueryLemmas.{looks_then, reads_so}
use Rattle.mr_rows.proofs.StreamedRows.{kept_looks}
use Rattle.mr_rows.proofs.CauseLemmas.{looks_fail}
use Rattle.mr_rows.proofs.FoundLemmas.{meta_in_tables, rooms_of, vector_of}
use Rattle.mr_rows.specs.Database.{IsKept}
use Rattle.mr_rows.proofs.CauseLemmas.{same_reads, same_error}
use Rattle.mr_rows.proofs.all_tables.read_heads.Goals as goal

pub returns-in_err-meta-clause-reads : goal.returns-in_err-meta-clause-reads
returns-in_err-meta-clause-reads g c =
    let read = kept_looks (state g.S.Store c.args.conn.now) (state g.S.Store c.the_meta.new.conn) c.the_meta.result _ (c.the_meta.ensures.looks our_schema (inl refl)) in
    let p = err_from_is_err_and c.from_residual.result c.from_residual.ensures.1 in
    same_reads IsKept (state g.S.Store c.args.conn.now) (state g.S.Store c.the_meta.new.conn) c.the_meta.result _ c.from_residual.result _ c.in_err-meta.field-0.0 (p.1 ∙ ap Err p.2) read

pub returns-in_err-rows-clause-reads : goal.returns-in_err-rows-clause-reads
returns-in_err-rows-clause-reads g c =
    let a = state g.S.Store c.args.conn.now in
    let d = state g.S.Store c.find.new.conn in
    let read = kept_looks a d c.find.result (λ _. Unit {0})
    (looks_then a (state g.S.Store c.the_meta.new.conn) d c.in_ok-meta.meta (λ row. IsHeld meta_form (a.now.trees 0)
    → row ≡ first_meta (in_order meta_form (a.now.trees 0))) c.find.result (λ db r. (AreStoredAs room_form db.trees × AreStoredAs vector_form db.trees)
    × (IsTrue true → AreRowsOf room_form db.trees r.0.items × AreRowsOf vector_form db.trees r.1.items)) (λ _. Unit {0}) (λ here y p q. tt)
    (c.in_ok-meta.ensures.looks our_schema (inl refl)) (c.find.ensures.looks our_schema (inl refl, inl refl))) in
    let p = err_from_is_err_and c.from_residual-in_err-rows.result c.from_residual-in_err-rows.ensures.1 in
    same_reads IsKept (state g.S.Store c.args.conn.now) (state g.S.Store c.find.new.conn) c.find.result _ c.from_residual-in_err-rows.result _ c.in_err-rows.field-0.0 (p.1 ∙ ap Err p.2) read

pub returns-clause-reads : goal.returns-clause-reads
returns-clause-reads g c =
    let a = state g.S.Store c.args.conn.now in
    let d = state g.S.Store c.find.new.conn in
    let meta = c.in_ok-meta.meta in
    let rows = c.in_ok-rows.rows in
    let read = reads_so a d (Ok rows) (λ r. (IsHeld meta_form (a.now.trees 0) → meta ≡ first_meta (in_order meta_form (a.now.trees 0)))
    × (AreRowsOf room_form a.now.trees r.0.items × AreRowsOf vector_form a.now.trees r.1.items))
    (λ r. (meta ≡ (tables_in a.now.trees).meta) × (r.0.items ≡ (tables_in a.now.trees).room) × (r.1.items ≡ (tables_in a.now.trees).vector))
    (λ kept r p. (meta_in_tables a.now.trees meta (p.0 kept.ours.held.meta), rooms_of a.now.trees r.0.items kept.ours.held.room p.1.0, vector_of a.now.trees r.1.items kept.ours.held.vector p.1.1))
    (kept_looks a d (Ok rows) (λ r. (IsHeld meta_form (a.now.trees 0) → meta ≡ first_meta (in_order meta_form (a.now.trees 0)))
    × (AreRowsOf room_form a.now.trees r.0.items × AreRowsOf vector_form a.now.trees r.1.items))
    (looks_then a (state g.S.Store c.the_meta.new.conn) d meta (λ row. IsHeld meta_form (a.now.trees 0) → row ≡ first_meta (in_order meta_form (a.now.trees 0))) (Ok rows)
    (λ db r. (AreStoredAs room_form db.trees × AreStoredAs vector_form db.trees) × (IsTrue true → AreRowsOf room_form db.trees r.0.items × AreRowsOf vector_form db.trees r.1.items))
    (λ r. (IsHeld meta_form (a.now.trees 0) → meta ≡ first_meta (in_order meta_form (a.now.trees 0)))
    × (AreRowsOf room_form a.now.trees r.0.items × AreRowsOf vector_form a.now.trees r.1.items)) (λ here y p q. (p, q.1 refl))
    (c.in_ok-meta.ensures.looks our_schema (inl refl)) (c.in_ok-rows.ensures.looks our_schema (inl refl, inl refl)))) in
    (read.0, read.1, read.2)

pub returns-in_err-meta-clause-cause : goal.returns-in_err-meta-clause-cause
returns-in_err-meta-clause-cause g c = λ clean here rows.
    let p = err_from_is_err_and c.from_residual.result c.from_residual.ensures.1 in
    same_error c.the_meta.result c.from_residual.result c.in_err-meta.field-0.0 _ c.in_err-meta.was (p.1 ∙ ap Err p.2) (c.the_meta.ensures.cause our_schema (inl refl) clean here (rows.0, rows.1))

pub returns-in_err-rows-clause-cause : goal.returns-in_err-rows-clause-cause
returns-in_err-rows-clause-cause g c = λ clean here rows.
    let a = state g.S.Store c.args.conn.now in
    let b = state g.S.Store c.the_meta.new.conn in
    let d = state g.S.Store c.find.new.conn in
    let p = err_from_is_err_and c.from_residual-in_err-rows.result c.from_residual-in_err-rows.ensures.1 in
    same_error c.find.result c.from_residual-in_err-rows.result c.in_err-rows.field-0.0 _ c.in_err-rows.was (p.1 ∙ ap Err p.2)
    (looks_fail a b d c.in_ok-meta.meta (λ row. IsHeld meta_form (a.now.trees 0) → row ≡ first_meta (in_order meta_form (a.now.trees 0))) c.find.result
    (λ r. (AreStoredAs room_form b.now.trees × AreStoredAs vector_form b.now.trees) × (IsTrue true → AreRowsOf room_form b.now.trees r.0.items × AreRowsOf vector_form b.now.trees r.1.items))
    (λ t. AreStoredAs meta_form t × (length (t 0) ≡ 1) × AreStoredAs room_form t × AreStoredAs vector_form t)
    (λ t. AreStoredAs room_form t × AreStoredAs vector_form t) (c.in_ok-meta.ensures.looks our_schema (inl refl))
    (c.find.ensures.looks our_schema (inl refl, inl refl)) (λ t all. (all.2, all.3)) (c.find.ensures.cause our_schema (inl refl, inl refl)) clean here rows)
