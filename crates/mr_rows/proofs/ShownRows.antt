-- What a test of cells where they lie tells of the row.
use Rattle.std.proofs.Common.{◌≡◌, ℕ, ◌∷◌, Bool, false, IsTrue, Result, sym, ap, ◌∙◌}
use Rattle.std.proofs.lemmas.Bool.Decides.{not_from_Decides}
use Rattle.std.proofs.lemmas.Result.{on_ok_weaker, IfErr-weaker}
use Rattle.std.specs.Bool.{Decides}
use Rattle.std.specs.Prelude.{OnOk, IfErr}
use Rattle.sqlite_value.specs.declared.value.Value.TheVariants.{Null}
use Rattle.sqlite_value.specs.Order.{Row, column}
use Rattle.mr_model.specs.Writes.{greatest_time}
use Rattle.mr_rows.specs.RowCells.{meta_in, meta_cells_of}
use Rattle.mr_rows.specs.RowLimits.{is_meta_row}
use Rattle.mr_rows.specs.CellLimits.{are_meta_cells}
use Rattle.mr_rows.specs.Form.{Form}
use Rattle.mr_rows.specs.Shown.{columns_from, IsShownAs}
use Rattle.mr_rows.specs.Columns.{Columns, AreShown}
use Rattle.mr_rows.specs.MadeRows.{IsMade}
use Rattle.mr_rows.specs.ShownCells.{also, given, number}
use Rattle.mr_rows.proofs.ColumnLemmas.{length_columns}
use Rattle.mr_rows.proofs.RowsReadBack.{read_behind}

-- ---- answers

-- a test that tells what holds
pub shown_so : {X E : Type 0} {S : Type 0} (passed test : Bool) (r : Result X E) → (IsTrue test → S) × (S → IsTrue test) → passed ≡ test → OnOk r (IsTrue passed) → OnOk r S
shown_so passed test r same is told = on_ok_weaker r (λ p. same.0 (sym is ∙ p)) told

pub refused_so : {X E : Type 0} {S : Type 0} (passed test : Bool) (r : Result X E) → (IsTrue test → S) × (S → IsTrue test) → passed ≡ test → IfErr r (λ _. passed ≡ false) → IfErr r (λ _. ¬ S)
refused_so passed test r same is told = IfErr-weaker r _ _ (λ _ failed. not_from_Decides test same (sym is ∙ failed)) told

-- a row whose cells pass their tests, and only such a row, is one that its table can have
pub made_shown : {R K V : Type 0} (f : Form R K) (c : Columns V) (of : V → R) → IsMade f c of → AreShown c → (r : Row) → Decides (c.are (columns_from 0 c.width r)) (IsShownAs f r)
made_shown f c of made shown r =
    let cells = columns_from 0 c.width r in
    let told = (shown cells (length_columns 0 c.width r)).told in
    let spelled = ap f.cells (read_behind f c of made Null r) ∙ made.spelled (c.value_in cells) in
    let limits = ap f.within (read_behind f c of made Null r) ∙ made.limits (c.value_in cells) in
    let wide = ap (λ n. columns_from 0 n r) made.wide in
    (λ h. let p = told.0 h in (spelled ∙ p.0 ∙ sym wide, limits ∙ p.1), λ s. told.1 (sym spelled ∙ s.0 ∙ wide, sym limits ∙ s.1))

-- (one that fails them is none)
pub not_shown : {R K V : Type 0} (f : Form R K) (c : Columns V) (of : V → R) → IsMade f c of → AreShown c → (r : Row) → c.are (columns_from 0 c.width r) ≡ false → ¬ IsShownAs f r
not_shown f c of made shown r failed = not_from_Decides _ (made_shown f c of made shown r) failed

-- the row of `meta`, under the schema of any number
pub meta_shown : (schema : ℕ) (r : Row)
    → (IsTrue (are_meta_cells schema r) → (meta_cells_of schema (meta_in (Null ∷ r)) ≡ columns_from 0 7 r) × IsTrue (is_meta_row (meta_in (Null ∷ r))))
    × ((meta_cells_of schema (meta_in (Null ∷ r)) ≡ columns_from 0 7 r) × IsTrue (is_meta_row (meta_in (Null ∷ r))) → IsTrue (are_meta_cells schema r))
meta_shown schema r =
    let servers = also (also (also (given 1 (column r 0)) (given schema (column r 1))) (number 1 99 (column r 2))) (number 1 99 (column r 3)) in
    (also (also (also servers (number 0 999_999_999_999 (column r 4))) (number 0 999_999_999_999 (column r 5))) (number 0 greatest_time (column r 6))).told
