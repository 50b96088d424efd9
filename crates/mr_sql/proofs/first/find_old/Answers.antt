use Rattle.std.proofs.Common.{Bool, None, Ok, Some, Option, IsTrue, inl, inr, refl, ◌∙◌, ap, Err}
use Rattle.std.proofs.lemmas.Result.{err_from_is_err_and}
use Rattle.mr_rows.proofs.CauseLemmas.{same_reads}
use Rattle.sqlite_trees.specs.Tree.{Trees}
use Rattle.sqlite.specs.Held.{state}
use Rattle.mr_model.specs.Tables.{MetaRow}
use Rattle.mr_rows.specs.Reads.{IsPlacedIn}
use Rattle.mr_rows.specs.Schema.{first_schema}
use Rattle.mr_rows.specs.Shown.{IsMeta}
use Rattle.mr_rows.proofs.QueryLemmas.{made_where, looks_then}
use Rattle.mr_first.specs.FirstShown.{AreFirstRows}
use Rattle.mr_sql.specs.Opening.{IsFirstFound}
use Rattle.mr_sql.specs.Refused.{HasOtherNumber}
use Rattle.mr_sql.proofs.first.find_old.Goals as goal

first_found : (trees : Trees) (m : Option MetaRow) → AreFirstRows trees × IsMeta trees m → IsFirstFound trees m
first_found trees None all = inl all.1
first_found trees (Some m) all = all

abbrev Other : Trees → Bool → Type 0
Other trees other = IsTrue other → HasOtherNumber 1 trees

pub returns-in_err-is_other : goal.returns-in_err-is_other
returns-in_err-is_other g c =
    let p = err_from_is_err_and c.from_residual.result c.from_residual.ensures.1 in
    record {
      looks = same_reads (IsPlacedIn first_schema) (state g.S.Store c.args.conn.now) (state g.S.Store c.has_other_number.new.conn) c.has_other_number.result
          _ c.from_residual.result _ c.in_err-is_other.field-0.0 (p.1 ∙ ap Err p.2) (c.has_other_number.ensures.looks first_schema (inr refl));
    }

pub returns-then-is_other : goal.returns-then-is_other
returns-then-is_other g c =
    let a = state g.S.Store c.args.conn.now in
    record {
      looks = made_where (IsPlacedIn first_schema) a (state g.S.Store c.has_other_number.new.conn) c.in_ok-is_other.is_other (Other a.now.trees) (Ok None) (IsFirstFound a.now.trees)
          (λ here other. inr (other c.if-is_other.true)) (c.in_ok-is_other.ensures.looks first_schema (inr refl));
    }

pub returns : goal.returns
returns g c =
    let a = state g.S.Store c.args.conn.now in
    record {
      looks = looks_then a (state g.S.Store c.has_other_number.new.conn) (state g.S.Store c.find_first.new.conn) c.in_ok-is_other.is_other
          (Other a.now.trees) c.find_first.result (λ db m. AreFirstRows db.trees × IsMeta db.trees m) (IsFirstFound a.now.trees)
          (λ here m p q. first_found a.now.trees m q) (c.in_ok-is_other.ensures.looks first_schema (inr refl)) c.find_first.ensures.looks;
    }
