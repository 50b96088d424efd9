-- The first name is cut off a text of names.
use Rattle.std.proofs.Common.{◌≡◌, ap, ◌∙◌, refl, ℕ, ◌<◌, ◌≢◌, false, eqb, length, get_or, List, [], ◌∷◌, map, lit<, Option, Some, None, Bor, arith}
use Rattle.std.specs.Prelude.{MatchOption, All}
use Rattle.std.specs.List.{slice_split}
use Rattle.std.proofs.lemmas.Bool.{ne_eqb}
use Rattle.std.proofs.lemmas.List.{length-map}
use Rattle.std.proofs.lemmas.List.Splits.{slice_split_none, slice_split_at, length-slice_split}
use Rattle.std.proofs.lemmas.Str.Pattern.{IsSplitOnceResult, split_parts}
use Rattle.std.proofs.lemmas.Grind.{get_or_default_zero}
use Rattle.sqlite_schema.specs.declared.schema.Column.{Column}
use Rattle.mr_sql.specs.OurSchema.{column_told, columns_told}

-- a text of bytes other than the space has no byte that passes the test for it
lacks : (xs : List ℕ) → ((i : ℕ) → i < length xs → get_or xs i 0 ≢ 32) → All (λ c. eqb c 32 ≡ false) xs
lacks xs h k d l = ap (λ c. eqb c 32) (get_or_default_zero xs k d l) ∙ ne_eqb _ 32 (h k l)

-- there is a first name in any text
pub columns_some : (texts : List (Bor (List ℕ))) (names : List ℕ) (columns : List Column) → length columns ≡ 0 → columns ≡ columns_told texts names → ⊥
columns_some texts names columns none is =
    let parts = slice_split (λ c. eqb c 32) names in
    omega (arith, none, ap length is, length-map parts (column_told texts), length-slice_split (λ c. eqb c 32) names)

-- all names are the first and those behind the first space
pub columns_once : (texts : List (Bor (List ℕ))) (names : List ℕ) (r : Option (Bor (List ℕ) × Bor (List ℕ))) → IsSplitOnceResult 32 names r
    → MatchOption r (columns_told texts names ≡ column_told texts names ∷ []) (λ x. columns_told texts names ≡ column_told texts x.0.now ∷ columns_told texts x.1.now)
columns_once texts names None h = ap (map (column_told texts)) (slice_split_none (λ c. eqb c 32) names (lacks names (split_parts 32 names None h (lit< tt))))
columns_once texts names (Some x) h =
    let parts = split_parts 32 names (Some x) h (lit< tt) in
    ap (columns_told texts) parts.0 ∙ ap (map (column_told texts)) (slice_split_at (λ c. eqb c 32) x.0.now 32 x.1.now (lacks x.0.now parts.1) refl)
