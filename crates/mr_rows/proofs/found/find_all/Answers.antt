use Rattle.std.proofs.Common.{◌≡◌, ◌∙◌, ◌≤◌, ap, inl, [], length, None, Some, Ok, Err, refl, IsTrue}
use Rattle.std.proofs.lemmas.Result.{err_from_is_err_and}
use Rattle.sqlite_trees.specs.Tree.{Trees}
use Rattle.sqlite.specs.Held.{state}
use Rattle.mr_model.specs.Tables.{Tables}
use Rattle.mr_rows.specs.Schema.{our_schema, IsOfTwo}
use Rattle.mr_rows.specs.Form.{meta_form, room_form, vector_form, log_form, booking_form, error_form, cancelled_form, cancel_form}
use Rattle.mr_rows.specs.Shown.{AreStoredAs, AreOurRows, IsMeta}
use Rattle.mr_rows.specs.Kept.{AreAllFound}
use Rattle.mr_rows.specs.Reads.{IsPlacedIn}
use Rattle.mr_rows.proofs.FoundLemmas.{AreAll, whole_of}
use Rattle.mr_rows.proofs.QueryLemmas.{looks_then, looks_made}
use Rattle.mr_rows.proofs.CauseLemmas.{looks_fail, same_reads, same_fails}
use Rattle.mr_rows.proofs.found.find_all.Goals as goal

-- what the tables beside `meta` have
abbrev Stored : Trees → Type 0
Stored t =
    ((AreStoredAs room_form t × AreStoredAs vector_form t) × AreStoredAs log_form t)
    × ((AreStoredAs booking_form t × AreStoredAs error_form t) × ((AreStoredAs cancelled_form t × AreStoredAs cancel_form t) × ((t 6 ≡ []) × (t 8 ≡ []))))

all_ours : (t : Trees) → Stored t → AreStoredAs meta_form t → AreOurRows t
all_ours t p meta = record {
  meta = meta;
  room = p.0.0.0;
  vector = p.0.0.1;
  log = p.0.1;
  booking = p.1.0.0;
  errorlog = p.1.0.1;
  cancelled = p.1.1.0.0;
  cancels = p.1.1.0.1;
  no_write_log = p.1.1.1.0;
  no_undo = p.1.1.1.1;
}

beside_meta : (t : Trees) → AreOurRows t → Stored t
beside_meta t r = (((r.room, r.vector), r.log), ((r.booking, r.errorlog), ((r.cancelled, r.cancels), (r.no_write_log, r.no_undo))))

stands : (((IsOfTwo our_schema × IsOfTwo our_schema) × (our_schema ≡ our_schema))
    × ((IsOfTwo our_schema × IsOfTwo our_schema) × (((our_schema ≡ our_schema) × (our_schema ≡ our_schema)) × (our_schema ≡ our_schema))))
stands = (((inl refl, inl refl), refl), ((inl refl, inl refl), ((refl, refl), refl)))

pub returns-in_err-rows-clause-looks : goal.returns-in_err-rows-clause-looks
returns-in_err-rows-clause-looks g c =
    let p = err_from_is_err_and c.from_residual.result c.from_residual.ensures.1 in
    let a = state g.S.Store c.args.conn.now in
    same_reads (IsPlacedIn our_schema) a (state g.S.Store c.find.new.conn) c.find.result _ c.from_residual.result
    (AreAllFound c.args.keep a.now.trees) c.in_err-rows.field-0.0 (p.1 ∙ ap Err p.2) (c.find.ensures.looks our_schema stands)

pub returns-in_err-find_meta-clause-looks : goal.returns-in_err-find_meta-clause-looks
returns-in_err-find_meta-clause-looks g c =
    let a = state g.S.Store c.args.conn.now in
    let b = state g.S.Store c.find.new.conn in
    let d = state g.S.Store c.find_meta.new.conn in
    let read = looks_then a b d c.in_ok-rows.rows (λ r. Stored a.now.trees
    × (IsTrue c.args.keep → AreAll a.now.trees r.0.0.0.items r.0.0.1.items r.0.1.items r.1.0.0.items r.1.0.1.items r.1.1.0.0.items r.1.1.0.1.items)) c.find_meta.result
    (λ db m. AreStoredAs meta_form db.trees × IsMeta db.trees m) (λ _. Unit {0}) (λ here y p q. tt)
    (c.in_ok-rows.ensures.looks our_schema stands) (c.find_meta.ensures.looks our_schema (inl refl)) in
    let p = err_from_is_err_and c.from_residual-in_err-find_meta.result c.from_residual-in_err-find_meta.ensures.1 in
    same_reads (IsPlacedIn our_schema) a d c.find_meta.result (λ _. Unit {0}) c.from_residual-in_err-find_meta.result
    (AreAllFound c.args.keep a.now.trees) c.in_err-find_meta.field-0.0 (p.1 ∙ ap Err p.2) read

pub returns-in-None-clause-looks : goal.returns-in-None-clause-looks
returns-in-None-clause-looks g c =
    let a = state g.S.Store c.args.conn.now in
    let b = state g.S.Store c.find.new.conn in
    let d = state g.S.Store c.find_meta.new.conn in
    looks_made a d None (λ m. Stored a.now.trees × (AreStoredAs meta_form a.now.trees × IsMeta a.now.trees m))
    (Ok None) (AreAllFound c.args.keep a.now.trees) (λ here p. (all_ours a.now.trees p.0 p.1.0, p.1.1))
    (looks_then a b d c.in_ok-rows.rows (λ r. Stored a.now.trees
    × (IsTrue c.args.keep → AreAll a.now.trees r.0.0.0.items r.0.0.1.items r.0.1.items r.1.0.0.items r.1.0.1.items r.1.1.0.0.items r.1.1.0.1.items)) (Ok None)
    (λ db m. AreStoredAs meta_form db.trees × IsMeta db.trees m) (λ m. Stored a.now.trees × (AreStoredAs meta_form a.now.trees × IsMeta a.now.trees m)) (λ here y p q. (p.0, q))
    (c.in_ok-rows.ensures.looks our_schema stands) (rw c.in-None.is at (c.in_ok-find_meta.ensures.looks our_schema (inl refl))))

pub returns-in-Some-clause-looks : goal.returns-in-Some-clause-looks
returns-in-Some-clause-looks g c =
    let a = state g.S.Store c.args.conn.now in
    let b = state g.S.Store c.find.new.conn in
    let d = state g.S.Store c.find_meta.new.conn in
    let r = c.in_ok-rows.rows in
    let m = c.in-Some.meta in
    let t : Tables = record {
      meta = m;
      room = r.0.0.0.items;
      vector = r.0.0.1.items;
      log = r.0.1.items;
      booking = r.1.0.0.items;
      errorlog = r.1.0.1.items;
      cancelled = r.1.1.0.0.items;
      cancels = r.1.1.0.1.items;
    } in
    looks_made a d (Some m) (λ _. (Stored a.now.trees × (IsTrue c.args.keep → AreAll a.now.trees t.room t.vector t.log t.booking t.errorlog t.cancelled t.cancels))
    × (AreStoredAs meta_form a.now.trees × IsMeta a.now.trees (Some m))) (Ok (Some t)) (AreAllFound c.args.keep a.now.trees)
    (λ here p. (all_ours a.now.trees p.0.0 p.1.0, p.1.1, λ kept held. whole_of a.now.trees t held p.1.1 (p.0.1 kept)))
    (looks_then a b d r (λ r. Stored a.now.trees × (IsTrue c.args.keep → AreAll a.now.trees r.0.0.0.items r.0.0.1.items r.0.1.items r.1.0.0.items r.1.0.1.items r.1.1.0.0.items r.1.1.0.1.items))
    (Ok (Some m)) (λ db x. AreStoredAs meta_form db.trees × IsMeta db.trees x)
    (λ x. (Stored a.now.trees × (IsTrue c.args.keep → AreAll a.now.trees t.room t.vector t.log t.booking t.errorlog t.cancelled t.cancels))
    × (AreStoredAs meta_form a.now.trees × IsMeta a.now.trees x)) (λ here y p q. (p, q))
    (c.in_ok-rows.ensures.looks our_schema stands) (rw c.in-Some.is at (c.in_ok-find_meta.ensures.looks our_schema (inl refl))))

pub returns-in_err-rows-clause-cause : goal.returns-in_err-rows-clause-cause
returns-in_err-rows-clause-cause g c =
    let p = err_from_is_err_and c.from_residual.result c.from_residual.ensures.1 in
    let a = state g.S.Store c.args.conn.now in
    λ clean here rows. same_fails (IsPlacedIn our_schema) Stored a (state g.S.Store c.find.new.conn) c.find.result c.from_residual.result c.in_err-rows.field-0.0 c.in_err-rows.was
    (p.1 ∙ ap Err p.2) (c.find.ensures.cause our_schema stands) clean here (beside_meta a.now.trees rows.0)

pub returns-in_err-find_meta-clause-cause : goal.returns-in_err-find_meta-clause-cause
returns-in_err-find_meta-clause-cause g c =
    let a = state g.S.Store c.args.conn.now in
    let b = state g.S.Store c.find.new.conn in
    let d = state g.S.Store c.find_meta.new.conn in
    let told = looks_fail a b d c.in_ok-rows.rows (λ r. Stored a.now.trees
    × (IsTrue c.args.keep → AreAll a.now.trees r.0.0.0.items r.0.0.1.items r.0.1.items r.1.0.0.items r.1.0.1.items r.1.1.0.0.items r.1.1.0.1.items)) c.find_meta.result
    (λ m. AreStoredAs meta_form b.now.trees × IsMeta b.now.trees m) (λ t. AreOurRows t × (length (t 0) ≤ 1)) (λ t. AreStoredAs meta_form t × (length (t 0) ≤ 1))
    (c.in_ok-rows.ensures.looks our_schema stands) (c.find_meta.ensures.looks our_schema (inl refl)) (λ t r. (r.0.meta, r.1)) (c.find_meta.ensures.cause our_schema (inl refl)) in
    let p = err_from_is_err_and c.from_residual-in_err-find_meta.result c.from_residual-in_err-find_meta.ensures.1 in
    same_fails (IsPlacedIn our_schema) (λ t. AreOurRows t × (length (t 0) ≤ 1)) a d c.find_meta.result
    c.from_residual-in_err-find_meta.result c.in_err-find_meta.field-0.0 c.in_err-find_meta.was (p.1 ∙ ap Err p.2) told
