-- The trees of our tables, and the index of each table's key.
use Rattle.std.specs.Prelude.{◌≡◌, ℕ, ◌+◌, ◌<◌, ◌^◌, ◌==◌, Bool, true, List, [], ◌∷◌}
use Rattle.std.specs.List.{list_any}
use Rattle.sqlite_value.specs.Keys.{plain}
use Rattle.sqlite_trees.specs.Tree.{Trees, IsIndexShape}
use Rattle.sqlite_trees.specs.declared.store.Shape.{Shape}
use Rattle.sqlite_trees.specs.declared.store.Shape.TheVariants as shape
use Rattle.sqlite_sql.specs.Catalog.{IsIndexOf}

-- the trees of the tables, those of `write_log` and `undo` among them; the index of each key has the next number
abbrev pub our_tables : List ℕ
our_tables = 0 ∷ 2 ∷ 4 ∷ 6 ∷ 8 ∷ 10 ∷ 12 ∷ 14 ∷ 16 ∷ 18 ∷ []

abbrev pub is_ours : ℕ → Bool
is_ours t = list_any (λ n. t == n) our_tables

abbrev pub is_key : ℕ → Bool
is_key t = list_any (λ n. t == n + 1) our_tables

-- our tables, an index of each, and no other index
pub record HasTrees (shapes : ℕ → Shape) : Type 0 where
  pub table : (t : ℕ) → is_ours t ≡ true → shapes t ≡ shape.Table
  pub key : (t : ℕ) → is_ours t ≡ true → shapes (t + 1) ≡ shape.Index plain
  pub only : (t : ℕ) → t < 2 ^ 32 → IsIndexShape (shapes t) → is_key t ≡ true

-- each index has one entry for each row of its table, and no other
pub record AreIndexed (trees : Trees) : Type 0 where
  pub meta : IsIndexOf (1 ∷ []) (trees 0) (trees 1)
  pub room : IsIndexOf (1 ∷ []) (trees 2) (trees 3)
  pub vector : IsIndexOf (1 ∷ []) (trees 4) (trees 5)
  pub write_log : IsIndexOf (1 ∷ 2 ∷ []) (trees 6) (trees 7)
  pub undo : IsIndexOf (1 ∷ 2 ∷ []) (trees 8) (trees 9)
  pub booking : IsIndexOf (5 ∷ 6 ∷ []) (trees 10) (trees 11)
  pub errorlog : IsIndexOf (5 ∷ 6 ∷ []) (trees 12) (trees 13)
  pub log : IsIndexOf (1 ∷ 2 ∷ []) (trees 14) (trees 15)
  pub cancelled : IsIndexOf (5 ∷ 6 ∷ []) (trees 16) (trees 17)
  pub cancels : IsIndexOf (1 ∷ 2 ∷ []) (trees 18) (trees 19)
