-- Texts that ask for some rows of a table.
use Rattle.std.specs.Prelude.{◌≡◌, [], ◌∷◌, ℕ, Bool, List, length, filter, map}
use Rattle.std.specs.List.{All}
use Rattle.std.specs.List.Sorted.{IsPermutation}
use Rattle.sqlite_value.specs.declared.value.Value.TheVariants.{Null}
use Rattle.sqlite_value.specs.Order.{Row}
use Rattle.sqlite_trees.specs.Tree.{Trees}
use Rattle.sqlite_sql.specs.Term.{Term, eval_all}
use Rattle.sqlite_sql.specs.Program.{overlay}
use Rattle.sqlite.specs.Command.TheVariants.{Select}
use Rattle.sqlite.specs.Given.{IsPlain}
use Rattle.sqlite.specs.Listing.{understood}
use Rattle.sqlite.proofs.Callers.{command_of}
use Rattle.mr_tables.specs.TableOrders.{IsOrder}
use Rattle.mr_rows.specs.Meaning.{query_of, passes, columns_at}
use Rattle.mr_rows.specs.Schema.{our_schema}
use Rattle.mr_rows.specs.Form.{Form}
use Rattle.mr_rows.specs.Database.{IsRowOf, IsHeld, in_order}
use Rattle.mr_rows.specs.Shown.{IsShownAs, IsStoredAs, AreStoredAs}
use Rattle.mr_rows.specs.Causes.{IsSure}

-- these are shown of the rows of a table: those of which this is so
abbrev pub AreChosen : {R K : Type 0} → Form R K → (R → Bool) → Trees → List Row → Type 0
AreChosen f chosen trees rows =
    (IsHeld f (trees f.table.tree) → IsPermutation (filter chosen (in_order f (trees f.table.tree))) (map (λ r. f.row_in (Null ∷ r)) rows))
    × (AreStoredAs f trees → All (IsShownAs f) rows)

-- Under our schema the text asks, with these parameters, for the rows of a table of which this is so, and only the store makes it fail.
pub record AsksFor {R K : Type 0} (f : Form R K) (sql : List ℕ) (params : Row) (chosen : R → Bool) : Type 0 where
  pub tests : List Term
  pub names : List (List ℕ)
  pub means : command_of (understood our_schema sql) ≡ Select (record { lets = []; body = query_of f.table.tree tests (columns_at 1 (length f.table.columns)) }) names
  pub plain : IsPlain (understood our_schema sql)
  pub sure : IsSure sql params
  pub order : IsOrder K f.before
  pub alone : (trees : Trees) → overlay trees [] f.table.tree ≡ trees f.table.tree
  pub picks : (r : Row) → IsRowOf f r → passes tests params r ≡ chosen (f.row_in r)
  -- the columns that are shown of a row are all that it has
  pub same : (r : Row) → IsRowOf f r → f.row_in (Null ∷ eval_all (columns_at 1 (length f.table.columns)) (params ∷ r ∷ [])) ≡ f.row_in r
  pub own : (r : Row) → IsStoredAs f r → IsShownAs f (eval_all (columns_at 1 (length f.table.columns)) (params ∷ r ∷ []))
