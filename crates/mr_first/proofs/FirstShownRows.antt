-- Places of the first schema are places of the second.
use Rattle.std.proofs.Common.{◌≡◌, zero, suc, ◌≤◌, pos, negsuc, false, leb, leb-true, Result, Ok, Err, sym, refl, ◌∙◌, arith}
use Rattle.std.specs.Prelude.{IfErr}
use Rattle.std.proofs.lemmas.Bool.{false_from_ne_true, le-leb, true≢false}
use Rattle.sqlite_value.specs.declared.value.Value.{Value}
use Rattle.sqlite_value.specs.declared.value.Value.TheVariants.{Null, Int, Real, Text, Blob}
use Rattle.mr_rows.specs.CellLimits.{is_place_cell}
use Rattle.mr_first.specs.FirstCells.{is_first_place_cell}

-- what is no place of the second schema is none of the first
pub no_place : (v : Value) → is_place_cell false v ≡ false → is_first_place_cell v ≡ false
no_place Null h = refl
no_place (Int (pos k)) h = false_from_ne_true (leb k 8) (λ e. let low : k ≤ 8 = leb-true k 8 e in true≢false (sym (le-leb k 16 (omega (arith, low))) ∙ h))
no_place (Int (negsuc zero)) h = absurd (cc)
no_place (Int (negsuc (suc n))) h = refl
no_place (Real x) h = refl
no_place (Text t) h = refl
no_place (Blob b) h = refl

-- what holds whatever is refused
pub in_any_error : {X E S : Type 0} (r : Result X E) → S → IfErr r (λ _. S)
in_any_error (Ok x) s = tt
in_any_error (Err e) s = s
