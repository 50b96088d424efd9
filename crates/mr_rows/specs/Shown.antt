-- The rows that queries show of tables which may hold any, and what is known of those that could be read.
use Rattle.std.specs.Prelude.{◌≡◌, ℕ, suc, zero, ◌+◌, List, [], ◌∷◌, length, map, Option, Some, None, IsTrue}
use Rattle.std.specs.List.{AllByRecursion}
use Rattle.std.specs.List.Sorted.{IsPermutation}
use Rattle.sqlite_value.specs.declared.value.Value.TheVariants.{Null}
use Rattle.sqlite_value.specs.Order.{Row, column}
use Rattle.sqlite_trees.specs.Tree.{Trees}
use Rattle.sqlite.specs.State.{State, Shown}
use Rattle.mr_model.specs.Tables.{MetaRow}
use Rattle.mr_rows.specs.Form.{Form, meta_form, room_form, vector_form, log_form, booking_form, error_form, cancelled_form, cancel_form}
use Rattle.mr_rows.specs.RowCells.{meta_in}

-- so many columns of a row, from one on
abbrev pub columns_from : ℕ → ℕ → Row → Row
columns_from at zero r = []
columns_from at (suc n) r = column r at ∷ columns_from (at + 1) n r

-- a row that a query shows is one of the table, in the table's own spelling, and within its limits
abbrev pub IsShownAs : {R K : Type 0} → Form R K → Row → Type 0
IsShownAs f r = (f.cells (f.row_in (Null ∷ r)) ≡ columns_from 0 (length f.table.columns) r) × IsTrue (f.within (f.row_in (Null ∷ r)))

-- the same of a stored row, which has its rowid in front
abbrev pub IsStoredAs : {R K : Type 0} → Form R K → Row → Type 0
IsStoredAs f r = (f.cells (f.row_in r) ≡ columns_from 1 (length f.table.columns) r) × IsTrue (f.within (f.row_in r))

-- this is so of the rows that a text shows, one after the other
abbrev pub IsShownSo : (List Row → Type 0) → List ℕ → Row → State → State → Type 0
IsShownSo Q sql params old new = (rows : List Row) × Shown sql params old new rows × Q rows

abbrev pub AreStoredAs : {R K : Type 0} → Form R K → Trees → Type 0
AreStoredAs f trees = AllByRecursion (IsStoredAs f) (trees f.table.tree)

-- all tables have rows of their own, and the first schema's logs have none
pub record AreOurRows (trees : Trees) : Type 0 where
  pub meta : AreStoredAs meta_form trees
  pub room : AreStoredAs room_form trees
  pub vector : AreStoredAs vector_form trees
  pub log : AreStoredAs log_form trees
  pub booking : AreStoredAs booking_form trees
  pub errorlog : AreStoredAs error_form trees
  pub cancelled : AreStoredAs cancelled_form trees
  pub cancels : AreStoredAs cancel_form trees
  pub no_write_log : trees 6 ≡ []
  pub no_undo : trees 8 ≡ []

abbrev pub listed : {X : Type 0} → Option X → List X
listed None = []
listed (Some x) = x ∷ []

-- the row of `meta`, if it is there, and no other
abbrev pub IsMeta : Trees → Option MetaRow → Type 0
IsMeta trees m = IsPermutation (map meta_in (trees 0)) (listed m)
