-- A catalog of indexes, by the numbers of their trees.
use Rattle.std.proofs.Common.{◌≡◌, ◌≢◌, ◌≤◌, ◌<◌, ◌+◌, ◌^◌, ℕ, zero, suc, Bool, true, false, not, ◌&&◌, ◌||◌, ◌==◌, List, [], ◌∷◌, ⊎_elim, eqb-true, eq-eqb, true≢false, refl, sym, subst, ◌∙◌, arith}
use Rattle.std.specs.Prelude.{Any}
use Rattle.std.specs.List.{AllByRecursion, list_all, list_any}
use Rattle.std.proofs.lemmas.Bool.{and_parts, not-true, cases_lt}
use Rattle.std.proofs.lemmas.List.Folds.{Any-from_list_any}
use Rattle.sqlite_value.specs.Keys.{plain}
use Rattle.sqlite_trees.specs.Tree.{IsAscending, IsIndexShape, order_of}
use Rattle.sqlite_trees.specs.View.{View}
use Rattle.sqlite_trees.specs.declared.store.Shape.{Shape}
use Rattle.sqlite_trees.specs.declared.store.Shape.TheVariants as shape
use Rattle.sqlite_sql.specs.declared.query.Index.{Index}
use Rattle.sqlite_sql.specs.Catalog.{IsIndexed}
use Rattle.sqlite_exec.specs.Calls.{IsReady}
use Rattle.mr_changes.specs.Indexed.{HasTrees, is_ours, is_key}

far : (a b : ℕ) → (a == b) ≡ false → a ≢ b
far a b e same = absurd (let own : (a == b) ≡ true = eq-eqb a b same in let never = sym own ∙ e in cc)

none_of : (t : ℕ) (is : List Index) → list_all (λ i. not (t == i.tree)) is ≡ true → AllByRecursion (λ i. t ≢ i.tree) is
none_of t [] e = tt
none_of t (i ∷ is) e = let both = and_parts (not (t == i.tree)) (list_all (λ i. not (t == i.tree)) is) e in (far t i.tree (not-true (t == i.tree) both.0), none_of t is both.1)

-- no two are in one tree
abbrev pub are_apart : List Index → Bool
are_apart [] = true
are_apart (i ∷ is) = list_all (λ j. not (i.tree == j.tree)) is && are_apart is

apart : (is : List Index) → are_apart is ≡ true → IsAscending (λ i j. i.tree ≢ j.tree) is
apart [] e = tt
apart (i ∷ is) e = let both = and_parts (list_all (λ j. not (i.tree == j.tree)) is) (are_apart is) e in (none_of i.tree is both.0, apart is both.1)

-- one is in the tree
listed : (t : ℕ) (is : List Index) → list_any (λ i. t == i.tree) is ≡ true → Any (λ i. i.tree ≡ t) is
listed t is e = let m = Any-from_list_any (λ i. t == i.tree) is e in (m.0, m.1, m.2, m.3, sym (eqb-true t m.1.tree m.4))

-- a catalog with an index of each key
pub is_ready : {catalog : List Index} (v : View) → HasTrees v.shape → are_apart catalog ≡ true → ((t : ℕ) → is_key t ≡ true → list_any (λ i. t == i.tree) catalog ≡ true)
    → AllByRecursion (λ i. (v.shape i.tree ≡ shape.Index i.order) × (v.shape i.table ≡ shape.Table)) catalog → IsIndexed catalog v.trees → IsReady v catalog
is_ready {catalog} v trees separate keys shaped indexed = record {
  shaped = record { apart = apart catalog separate; shaped = shaped };
  whole = λ t low is. listed t catalog (keys t (trees.only t low is));
  indexed = λ _. indexed;
}

-- ---- a store's trees

-- what holds of each of ten numbers holds of our tables
ours_cases : (P : ℕ → Type 0) → P 0 → P 2 → P 4 → P 6 → P 8 → P 10 → P 12 → P 14 → P 16 → P 18 → (t : ℕ) → is_ours t ≡ true → P t
ours_cases P a b c d e f g h i j t is = at 0 a (at 2 b (at 4 c (at 6 d (at 8 e (at 10 f (at 12 g (at 14 h (at 16 i (at 18 j (λ no. absurd (true≢false (sym no)))))))))))) is
  where
    at : (n : ℕ) {rest : Bool} → P n → (rest ≡ true → P t) → ((t == n) || rest) ≡ true → P t
    at n {rest} here other told = go (t == n) refl told
      where
        go : (b : Bool) → (t == n) ≡ b → (b || rest) ≡ true → P t
        go true e _ = subst P (sym (eqb-true t n e)) here
        go false e left = other left

abbrev all_below : ℕ → (ℕ → Bool) → Bool
all_below zero p = true
all_below (suc n) p = p n && all_below n p

below : (n : ℕ) (p : ℕ → Bool) → all_below n p ≡ true → (t : ℕ) → t < n → p t ≡ true
below zero p all t low = absurd (omega arith)
below (suc n) p all t low =
    let both = and_parts (p n) (all_below n p) all in
    ⊎_elim (λ less. below n p both.1 t less) (λ high. let same : n ≡ t = omega (arith, high, low) in subst (λ k. p k ≡ true) same both.0) (cases_lt t n)

abbrev IsOurTable : (ℕ → Shape) → ℕ → Type 0
IsOurTable shapes t = (shapes t ≡ shape.Table) × (shapes (t + 1) ≡ shape.Index plain)

pub trees_of : (shapes : ℕ → Shape) (count : ℕ) → count ≤ 20 → ((t : ℕ) → count ≤ t → t < 2 ^ 32 → ¬ IsIndexShape (shapes t))
    → IsOurTable shapes 0 → IsOurTable shapes 2 → IsOurTable shapes 4 → IsOurTable shapes 6 → IsOurTable shapes 8 → IsOurTable shapes 10
    → IsOurTable shapes 12 → IsOurTable shapes 14 → IsOurTable shapes 16 → IsOurTable shapes 18 → HasTrees shapes
trees_of shapes count few past a b c d e f g h i j = record {
  table = λ t is. (each t is).0;
  key = λ t is. (each t is).1;
  only = λ t low index. ⊎_elim (λ less. among t less index) (λ high. absurd (past t (omega (arith, few, high)) low index)) (cases_lt t 20);
}
  where
    each : (t : ℕ) → is_ours t ≡ true → IsOurTable shapes t
    each = ours_cases (IsOurTable shapes) a b c d e f g h i j

    no_index : (s : Shape) → s ≡ shape.Table → IsIndexShape s → ⊥
    no_index s table index = let never : shape.Table ≡ shape.Index (order_of s) = sym table ∙ index in cc

    among : (t : ℕ) → t < 20 → IsIndexShape (shapes t) → is_key t ≡ true
    among t less index = go (is_ours t) refl (below 20 (λ t. is_ours t || is_key t) refl t less)
      where
        go : (o : Bool) → is_ours t ≡ o → (o || is_key t) ≡ true → is_key t ≡ true
        go true o _ = let table = (each t o).0 in absurd (no_index (shapes t) table index)
        go false o left = left
