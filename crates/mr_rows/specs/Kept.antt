-- What is kept of the rows that a pass over all tables tests.
use Rattle.std.specs.Prelude.{◌≡◌, ◌∷◌, Bool, if◌then◌else◌, List, length, map, Option, Some, None, IsTrue}
use Rattle.std.specs.List.{AllByRecursion}
use Rattle.std.specs.List.Sorted.{IsPermutation}
use Rattle.std.specs.declared.cmp.Ordering.{Ordering}
use Rattle.std.specs.declared.cmp.Ordering.TheVariants.{Less, Equal, Greater}
use Rattle.sqlite_value.specs.declared.value.Value.TheVariants.{Null}
use Rattle.sqlite_value.specs.Order.{Row}
use Rattle.sqlite_trees.specs.Tree.{Trees}
use Rattle.mr_model.specs.Tables.{Tables}
use Rattle.mr_rows.specs.Form.{Form}
use Rattle.mr_rows.specs.Database.{IsHeld, AreHeld, in_order, tables_in}
use Rattle.mr_rows.specs.Shown.{columns_from, IsShownAs, AreOurRows, IsMeta}

-- each of the rows that a query showed was tested, and if they are kept, these were made of them
abbrev pub AreTaken : {R K : Type 0} → Form R K → Bool → List R → List Row → Type 0
AreTaken f keep out rows = AllByRecursion (IsShownAs f) rows × (IsTrue keep → out ≡ map (λ row. f.row_in (Null ∷ row)) rows)

-- these are the rows of a table, in order, if it is held
abbrev pub AreRowsOf : {R K : Type 0} → Form R K → Trees → List R → Type 0
AreRowsOf f trees rows = IsHeld f (trees f.table.tree) → rows ≡ in_order f (trees f.table.tree)

-- each row of a table was tested, and if they are kept, these were made of them
abbrev pub AreTested : {R K : Type 0} → Form R K → Bool → Trees → List R → Type 0
AreTested f keep trees out = (shown : List Row) × IsPermutation (map (columns_from 1 (length f.table.columns)) (trees f.table.tree)) shown × AreTaken f keep out shown

-- a comparison, by what is less
abbrev pub order_by : {R : Type 0} → (R → R → Bool) → R → R → Ordering
order_by less a b = if less a b then Less else if less b a then Greater else Equal

-- all rows of all tables were tested, and `meta` has this row or none; if they are kept, these are all tables
abbrev pub AreAllFound : Bool → Trees → Option Tables → Type 0
AreAllFound keep trees None = AreOurRows trees × IsMeta trees None
AreAllFound keep trees (Some t) = AreOurRows trees × IsMeta trees (Some t.meta) × (IsTrue keep → AreHeld trees → t ≡ tables_in trees)
