-- Columns of a row, and those behind them.
use Rattle.std.proofs.Common.{◌≡◌, ℕ, zero, suc, ◌+◌, [], ◌∷◌, length, Result, Ok, Err, Bool, true, false, ◌&&◌, List, ◌++◌, refl, sym, ap, ◌∙◌, arith}
use Rattle.std.specs.Prelude.{take, drop, OnOk}
use Rattle.sqlite_value.specs.Order.{Row, column}
use Rattle.mr_rows.specs.Columns.{Columns, AreSpelled, both}
use Rattle.mr_rows.specs.Shown.{columns_from}

pub length_columns : (at n : ℕ) (r : Row) → length (columns_from at n r) ≡ n
length_columns at zero r = refl
length_columns at (suc n) r = ap suc (length_columns (at + 1) n r)

one_more : (m n : ℕ) → suc m + n ≡ suc (m + n)
one_more m n = omega arith

pub take_columns : (at m n : ℕ) (r : Row) → take m (columns_from at (m + n) r) ≡ columns_from at m r
take_columns at zero n r = refl
take_columns at (suc m) n r = ap (λ k. take (suc m) (columns_from at k r)) (one_more m n) ∙ ap (λ xs. column r at ∷ xs) (take_columns (at + 1) m n r)

pub drop_columns : (at m n : ℕ) (r : Row) → drop m (columns_from at (m + n) r) ≡ columns_from (at + m) n r
drop_columns at zero n r =
    let all : 0 + n ≡ n = omega arith in
    let here : at ≡ at + 0 = omega arith in
    λ i. columns_from (here i) (all i) r
drop_columns at (suc m) n r =
    let later : at + 1 + m ≡ at + suc m = omega arith in
    ap (λ k. drop (suc m) (columns_from at k r)) (one_more m n) ∙ drop_columns (at + 1) m n r ∙ ap (λ k. columns_from k n r) later

-- tests of which one fails
pub fails_first : (b a : Bool) → a ≡ false → (a && b) ≡ false
fails_first b a fails = ap (λ x. x && b) fails

pub fails_second : (a b : Bool) → b ≡ false → (a && b) ≡ false
fails_second true b fails = fails
fails_second false b fails = refl

-- ---- cells in front, and those behind them

take_front : {X : Type 0} (xs ys : List X) → take (length xs) (xs ++ ys) ≡ xs
take_front [] ys = refl
take_front (x ∷ xs) ys = ap (λ zs. x ∷ zs) (take_front xs ys)

drop_front : {X : Type 0} (xs ys : List X) → drop (length xs) (xs ++ ys) ≡ ys
drop_front [] ys = refl
drop_front (x ∷ xs) ys = drop_front xs ys

-- two values are read back off their cells
pub again_both : {A B : Type 0} (a : Columns A) (b : Columns B) → AreSpelled a → (x : A) (y : B)
    → a.value_in (a.cells x) ≡ x → b.value_in (b.cells y) ≡ y → (both a b).value_in ((both a b).cells (x, y)) ≡ (x, y)
again_both a b spelled x y of_x of_y =
    let wide = sym (spelled x).0 in
    let first = ap (λ n. a.value_in (take n (a.cells x ++ b.cells y))) wide ∙ ap a.value_in (take_front (a.cells x) (b.cells y)) ∙ of_x in
    let second = ap (λ n. b.value_in (drop n (a.cells x ++ b.cells y))) wide ∙ ap b.value_in (drop_front (a.cells x) (b.cells y)) ∙ of_y in
    λ i. (first i, second i)

-- what holds whatever a call answers
pub on_ok_any : {X E : Type 0} {P : Type 0} (r : Result X E) → P → OnOk r P
on_ok_any (Ok x) p = p
on_ok_any (Err e) p = tt
