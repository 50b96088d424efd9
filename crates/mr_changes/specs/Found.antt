-- Where the row with a key is.
use Rattle.std.specs.Prelude.{◌≡◌, ◌≢◌, ⊤, ℕ, ℤ, pos, Bool, true, false, List, [], ◌∷◌, Option, Some, None}
use Rattle.std.specs.declared.cmp.Ordering.TheVariants.{Equal}
use Rattle.sqlite_value.specs.declared.value.Value.TheVariants.{Int}
use Rattle.sqlite_value.specs.Order.{Row, value_cmp}
use Rattle.sqlite_value.specs.Keys.{plain, prefix_cmp}
use Rattle.sqlite_trees.specs.Tree.{rowid}
use Rattle.sqlite_sql.specs.Catalog.{entry_of}
use Rattle.sqlite_rules.specs.Lists.{Has}
use Rattle.mr_model.specs.Writes.{Id}
use Rattle.mr_rows.specs.Form.{Form}

abbrev pub id_key : Id → Row
id_key id = Int (pos id.server) ∷ Int (pos id.n) ∷ []

-- the row has this key in these columns
abbrev pub HasKey : List ℕ → Row → Row → Type 0
HasKey columns key r = prefix_cmp plain (entry_of columns r) key ≡ Equal

-- no two rows have the key
abbrev pub IsAlone : (Row → Type 0) → List Row → Type 0
IsAlone HasIt rows = (r s : Row) → Has rows r → Has rows s → HasIt r → HasIt s → r ≡ s

-- a row has this rowid just if it is so of the row
abbrev pub IsPlace : (Row → Type 0) → List Row → ℤ → Type 0
IsPlace HasIt rows id = (r : Row) → Has rows r → (value_cmp (rowid r) (Int id) ≡ Equal → HasIt r) × (HasIt r → value_cmp (rowid r) (Int id) ≡ Equal)

-- the rowid of the one row of which it is so, or it is so of none
abbrev pub IsRowidOf : (Row → Type 0) → List Row → Option ℤ → Type 0
IsRowidOf HasIt rows (Some id) = IsPlace HasIt rows id
IsRowidOf HasIt rows None = (r : Row) → Has rows r → HasIt r → ⊥

-- the rowid of the row with this key, if there is one, and of no other row
abbrev pub IsPlaceFor : {R K : Type 0} → Form R K → K → List Row → ℤ → Type 0
IsPlaceFor f k rows id = IsPlace (λ r. f.key (f.row_in r) ≡ k) rows id

-- the first of these entries doesn't have the key
abbrev pub LacksKey : Row → List Row → Type 0
LacksKey key [] = ⊤
LacksKey key (e ∷ es) = prefix_cmp plain e key ≢ Equal

-- the first of these entries is this one and has the key, or it doesn't have the key
abbrev pub FindsEntry : Row → List Row → Row → Bool → Type 0
FindsEntry key entries entry true = ((rest : List Row) × (entries ≡ entry ∷ rest)) × (prefix_cmp plain entry key ≡ Equal)
FindsEntry key entries entry false = LacksKey key entries
