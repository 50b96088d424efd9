-- What is read of a row and of its columns.
use Rattle.std.proofs.Common.{◌≡◌, ◌∷◌, length, ap, sym, ◌∙◌}
use Rattle.sqlite_value.specs.declared.value.Value.{Value}
use Rattle.sqlite_value.specs.declared.value.Value.TheVariants.{Null}
use Rattle.sqlite_value.specs.Order.{Row}
use Rattle.mr_rows.specs.Form.{Form}
use Rattle.mr_rows.specs.Shown.{columns_from}
use Rattle.mr_rows.specs.Columns.{Columns, AreSpelled}
use Rattle.mr_rows.specs.MadeRows.{IsMade}
use Rattle.mr_rows.specs.ColumnLaws.{columns_behind, own_columns}
use Rattle.mr_rows.proofs.ColumnLemmas.{length_columns}

-- a row behind a rowid is read of its own columns
pub read_behind : {R K V : Type 0} (f : Form R K) (c : Columns V) (of : V → R) → IsMade f c of → (v : Value) (r : Row) → f.row_in (v ∷ r) ≡ of (c.value_in (columns_from 0 c.width r))
read_behind f c of made v r = made.read (v ∷ r) ∙ ap (λ cells. of (c.value_in cells)) (columns_behind 0 c.width v r)

-- what is read of the columns that a query shows is read of the stored row
pub shown_as : {R K V : Type 0} (f : Form R K) (c : Columns V) (of : V → R) → IsMade f c of → (r : Row) → f.row_in (Null ∷ columns_from 1 (length f.table.columns) r) ≡ f.row_in r
shown_as f c of made r =
    let same : columns_from 0 c.width (columns_from 1 c.width r) ≡ columns_from 1 c.width r =
    ap (λ n. columns_from 0 n (columns_from 1 c.width r)) (sym (length_columns 1 c.width r)) ∙ own_columns (columns_from 1 c.width r) in
    ap (λ n. f.row_in (Null ∷ columns_from 1 n r)) made.wide ∙ read_behind f c of made Null (columns_from 1 c.width r) ∙ ap (λ cells. of (c.value_in cells)) same ∙ sym (made.read r)

-- a row is read back off the cells that are put of it
pub read_back : {R K V : Type 0} (f : Form R K) (c : Columns V) (of : V → R) → IsMade f c of → AreSpelled c → (x : V) → c.value_in (c.cells x) ≡ x → (v : Value) → f.row_in (v ∷ f.cells (of x)) ≡ of x
read_back f c of made spelled x again v =
    let own : columns_from 0 c.width (c.cells x) ≡ c.cells x = ap (λ n. columns_from 0 n (c.cells x)) (sym (spelled x).0) ∙ own_columns (c.cells x) in
    ap (λ cells. f.row_in (v ∷ cells)) (made.spelled x) ∙ read_behind f c of made v (c.cells x) ∙ ap (λ cells. of (c.value_in cells)) own ∙ ap of again
