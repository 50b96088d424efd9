use Rattle.std.proofs.Common.{◌≤◌, Bool, None, Ok, Some, Option, IsTrue, inl, inr, length, refl, ◌∙◌, ap, Err}
use Rattle.std.proofs.lemmas.Result.{err_from_is_err_and}
use Rattle.std.specs.Prelude.{⊤}
use Rattle.sqlite_trees.specs.Tree.{Trees}
use Rattle.sqlite.specs.Held.{state}
use Rattle.mr_model.specs.Tables.{Tables}
use Rattle.mr_rows.specs.Kept.{AreAllFound}
use Rattle.mr_rows.specs.Schema.{our_schema}
use Rattle.mr_rows.specs.Shown.{AreOurRows}
use Rattle.mr_rows.proofs.CauseLemmas.{looks_fail}
use Rattle.mr_rows.proofs.QueryLemmas.{looks_made, looks_then}
use Rattle.mr_sql.specs.Opening.{AreFoundHere}
use Rattle.mr_sql.specs.Refused.{HasOtherNumber}
use Rattle.mr_rows.proofs.CauseLemmas.{same_reads, same_fails}
use Rattle.mr_rows.specs.Reads.{IsPlacedIn}
use Rattle.mr_sql.proofs.adopt.find.Goals as goal

found_here : (keep : Bool) (trees : Trees) (t : Option Tables) → AreAllFound keep trees t → AreFoundHere keep trees t
found_here keep trees None all = inl all.1
found_here keep trees (Some t) all = all

abbrev Other : Trees → Bool → Type 0
Other trees other = IsTrue other → HasOtherNumber 2 trees

abbrev Asked : Trees → Type 0
Asked trees = AreOurRows trees × (length (trees 0) ≤ 1)

pub returns-in_err-is_other-clause-looks : goal.returns-in_err-is_other-clause-looks
returns-in_err-is_other-clause-looks g c =
    let p = err_from_is_err_and c.from_residual.result c.from_residual.ensures.1 in
    same_reads (IsPlacedIn our_schema) (state g.S.Store c.args.conn.now) (state g.S.Store c.has_other_number.new.conn) c.has_other_number.result
    _ c.from_residual.result _ c.in_err-is_other.field-0.0 (p.1 ∙ ap Err p.2) (c.has_other_number.ensures.looks our_schema (inl refl))

pub returns-in_err-is_other-clause-cause : goal.returns-in_err-is_other-clause-cause
returns-in_err-is_other-clause-cause g c =
    let p = err_from_is_err_and c.from_residual.result c.from_residual.ensures.1 in
    λ clean here rows. same_fails (IsPlacedIn our_schema) (λ _. ⊤) (state g.S.Store c.args.conn.now) (state g.S.Store c.has_other_number.new.conn) c.has_other_number.result
    c.from_residual.result c.in_err-is_other.field-0.0 c.in_err-is_other.was (p.1 ∙ ap Err p.2) (c.has_other_number.ensures.cause our_schema (inl refl)) clean here tt

pub returns-then-is_other-clause-looks : goal.returns-then-is_other-clause-looks
returns-then-is_other-clause-looks g c =
    looks_made (state g.S.Store c.args.conn.now) (state g.S.Store c.has_other_number.new.conn) c.in_ok-is_other.is_other
    (Other (state g.S.Store c.args.conn.now).now.trees) (Ok None) (AreFoundHere c.args.keep (state g.S.Store c.args.conn.now).now.trees)
    (λ here other. inr (other c.if-is_other.true)) (c.in_ok-is_other.ensures.looks our_schema (inl refl))

pub returns-clause-looks : goal.returns-clause-looks
returns-clause-looks g c =
    let a = state g.S.Store c.args.conn.now in
    looks_then a (state g.S.Store c.has_other_number.new.conn) (state g.S.Store c.find_all.new.conn) c.in_ok-is_other.is_other
    (Other a.now.trees) c.find_all.result (λ db t. AreAllFound c.args.keep db.trees t) (AreFoundHere c.args.keep a.now.trees)
    (λ here t p q. found_here c.args.keep a.now.trees t q) (c.in_ok-is_other.ensures.looks our_schema (inl refl)) c.find_all.ensures.looks

pub returns-clause-cause : goal.returns-clause-cause
returns-clause-cause g c =
    let a = state g.S.Store c.args.conn.now in
    let b = state g.S.Store c.has_other_number.new.conn in
    looks_fail a b (state g.S.Store c.find_all.new.conn) c.in_ok-is_other.is_other (Other a.now.trees) c.find_all.result
    (λ t. AreAllFound c.args.keep b.now.trees t) Asked Asked (c.in_ok-is_other.ensures.looks our_schema (inl refl)) c.find_all.ensures.looks
    (λ t rows. rows) c.find_all.ensures.cause
