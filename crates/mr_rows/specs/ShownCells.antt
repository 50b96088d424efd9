-- Cells that pass a test are spelled as what is read of them, and only such cells.
use Rattle.std.proofs.Common.{◌≡◌, ℕ, zero, suc, ℤ, pos, negsuc, [], ◌∷◌, ◌++◌, length, length-append, Bool, true, false, ◌&&◌, refl, sym, ap, subst, ◌∙◌, arith}
use Rattle.std.proofs.Math.Bool.{and-true}
use Rattle.std.proofs.lemmas.Bool.{and_parts, and_from}
use Rattle.std.proofs.lemmas.Bool.Decides.{nat_tests}
use Rattle.std.proofs.lemmas.Slice.Eq.{bytes_eq-Decides}
use Rattle.std.specs.Bool.{Decides}
use Rattle.std.specs.Prelude.{◌==◌}
use Rattle.sqlite_value.specs.declared.value.Value.{Value}
use Rattle.sqlite_value.specs.declared.value.Value.TheVariants.{Null, Int, Real, Text, Blob}
use Rattle.sqlite_value.specs.Order.{Row, column, bytes}
use Rattle.mr_model.specs.Texts as texts
use Rattle.mr_model.specs.Texts.{within}
use Rattle.mr_model.specs.Calendar.{is_date, date_text, date_in}
use Rattle.mr_model.specs.Writes.{is_id, greatest_count}
use Rattle.mr_rows.specs.RowCells.{nat_of, whole_of, flag_number, place_number, place_in}
use Rattle.mr_rows.specs.RowLimits.{is_day_text, is_place_of}
use Rattle.mr_rows.specs.CellLimits.{is_number_cell, is_text, is_empty_text, is_mark_cell, is_id_cells, is_place_cell}
use Rattle.mr_rows.specs.Columns.{ShowsCells}

-- ---- cells that pass a test

-- one cell
pub one : {test limit : Bool} {x v : Value} → (test ≡ true → (x ≡ v) × (limit ≡ true)) → (x ≡ v → limit ≡ true → test ≡ true) → ShowsCells test (x ∷ []) (v ∷ []) limit
one is back = record { long = refl; told = (λ h. (ap (λ y. y ∷ []) (is h).0, (is h).1), λ s. back (ap (λ r. column r 0) s.0) s.1) }

-- a cell of a kind that is never read
pub other : {limit : Bool} {x v : Value} → (x ≡ v → ⊥) → ShowsCells false (x ∷ []) (v ∷ []) limit
other apart = one (λ h. absurd (cc)) (λ e _. absurd (apart e))

-- lists that are joined alike
split : (xs ys more others : Row) → length xs ≡ length ys → xs ++ more ≡ ys ++ others → (xs ≡ ys) × (more ≡ others)
split [] [] more others long same = (refl, same)
split [] (y ∷ ys) more others long same = absurd (cc)
split (x ∷ xs) [] more others long same = absurd (cc)
split (x ∷ xs) (y ∷ ys) more others long same = let rest = split xs ys more others (cc) (cc) in let head : x ≡ y = cc in (cc (rest.0), rest.1)

-- cells, and then others
pub also : {t u l m : Bool} {xs more ys others : Row} → ShowsCells t xs ys l → ShowsCells u more others m → ShowsCells (t && u) (xs ++ more) (ys ++ others) (l && m)
also {t} {u} {l} {m} {xs} {more} {ys} {others} a b = record {
  long = length-append xs more ∙ grind (arith, a.long, b.long) ∙ sym (length-append ys others);
  told = (
    λ h. let p = a.told.0 (and_parts t u h).0 in let q = b.told.0 (and_parts t u h).1 in (cc (p.0, q.0), and_from l m p.1 q.1),
    λ s. let p = split xs ys more others a.long s.0 in let q = and_parts l m s.1 in and_from t u (a.told.1 (p.0, q.0)) (b.told.1 (p.1, q.1)),
  );
}

-- without a limit that is always kept
pub sure : (l : Bool) {t : Bool} {xs ys : Row} → ShowsCells t xs ys (l && true) → ShowsCells t xs ys l
sure l {t} {xs} {ys} s = subst (ShowsCells t xs ys) (and-true l) s

-- ---- numbers

-- a number that is spelled by this rule, which makes none below 0
numbers : (low high : ℕ) (spelled : ℕ → ℤ) (limit : ℕ → Bool) → ((n : ℕ) → spelled 0 ≡ negsuc n → ⊥) → ((n : ℕ) → Decides (within low high n) ((spelled n ≡ pos n) × (limit n ≡ true))) → (v : Value)
    → ShowsCells (is_number_cell low high v) (Int (spelled (nat_of v)) ∷ []) (v ∷ []) (limit (nat_of v))
numbers low high spelled limit above told (Int (pos n)) = one (λ h. (ap Int ((told n).0 h).0, ((told n).0 h).1)) (λ e l. (told n).1 (cc, l))
numbers low high spelled limit above told (Int (negsuc n)) = other (λ e. above n (cc))
numbers low high spelled limit above told Null = other (λ e. cc)
numbers low high spelled limit above told (Real x) = other (λ e. cc)
numbers low high spelled limit above told (Text t) = other (λ e. cc)
numbers low high spelled limit above told (Blob b) = other (λ e. cc)

-- a number from low to high
pub number : (low high : ℕ) (v : Value) → ShowsCells (is_number_cell low high v) (Int (pos (nat_of v)) ∷ []) (v ∷ []) (within low high (nat_of v))
number low high v = numbers low high pos (within low high) (λ n e. cc) (λ n. (λ h. (refl, h), λ s. s.1)) v

-- one that is known
pub given : (n : ℕ) (v : Value) → ShowsCells (is_number_cell n n v) (Int (pos n) ∷ []) (v ∷ []) true
given n v = numbers n n (λ _. pos n) (λ _. true) (λ k e. cc) (λ k. (λ h. (ap pos (grind (arith, nat_tests)), refl), λ s. let same : n ≡ k = cc in grind (arith, nat_tests))) v

-- a mark, which is 0 or 1
pub mark_cell : (v : Value) → ShowsCells (is_mark_cell v) (Int (flag_number (nat_of v == 1)) ∷ []) (v ∷ []) true
mark_cell v = numbers 0 1 (λ n. flag_number (n == 1)) (λ _. true) (λ n e. cc) (λ n. (λ h. (grind (arith, nat_tests), refl), λ s. grind (arith, nat_tests, s.0))) v

-- two cells of an id
pub id_cells : (v w : Value) → ShowsCells (is_id_cells v w) (Int (pos (nat_of v)) ∷ Int (pos (nat_of w)) ∷ []) (v ∷ w ∷ []) (is_id (record { server = nat_of v; n = nat_of w }))
id_cells v w = also (number 1 99 v) (number 1 greatest_count w)

-- the place of a cancel, or of a booking
pub place : (cancels : Bool) (v : Value) → ShowsCells (is_place_cell cancels v) (Int (place_number (place_in (whole_of v))) ∷ []) (v ∷ []) (is_place_of cancels (place_in (whole_of v)))
place cancels (Int (pos k)) = one (λ h. (refl, h)) (λ _ l. l)
place cancels (Int (negsuc zero)) = one (λ h. (refl, h)) (λ _ l. l)
place cancels (Int (negsuc (suc zero))) = one (λ h. (refl, h)) (λ _ l. l)
place cancels (Int (negsuc (suc (suc zero)))) = one (λ h. (refl, h)) (λ _ l. l)
place cancels (Int (negsuc (suc (suc (suc n))))) = other (λ e. cc)
place cancels Null = other (λ e. cc)
place cancels (Real x) = other (λ e. cc)
place cancels (Text t) = other (λ e. cc)
place cancels (Blob b) = other (λ e. cc)

-- ---- texts

-- a text that is spelled by this rule
spelled_texts : (test : texts.Text → Bool) (spelled : texts.Text → texts.Text) (limit : texts.Text → Bool) → ((t : texts.Text) → Decides (test t) ((spelled t ≡ t) × (limit t ≡ true))) → (v : Value)
    → ShowsCells (is_text test v) (Text (spelled (bytes v)) ∷ []) (v ∷ []) (limit (bytes v))
spelled_texts test spelled limit told (Text t) = one (λ h. (ap Text ((told t).0 h).0, ((told t).0 h).1)) (λ e l. (told t).1 (cc, l))
spelled_texts test spelled limit told Null = other (λ e. cc)
spelled_texts test spelled limit told (Int n) = other (λ e. cc)
spelled_texts test spelled limit told (Real x) = other (λ e. cc)
spelled_texts test spelled limit told (Blob b) = other (λ e. cc)

-- a text that passes a test
pub text : (test : texts.Text → Bool) (v : Value) → ShowsCells (is_text test v) (Text (bytes v) ∷ []) (v ∷ []) (test (bytes v))
text test v = spelled_texts test (λ t. t) test (λ t. (λ h. (refl, h), λ s. s.1)) v

-- a day's
pub day : (v : Value) → ShowsCells (is_text is_day_text v) (Text (date_text (date_in (bytes v))) ∷ []) (v ∷ []) (is_date (date_in (bytes v)))
day v = spelled_texts is_day_text (λ t. date_text (date_in t)) (λ t. is_date (date_in t)) told v
  where
    told : (t : texts.Text) → Decides (is_day_text t) ((date_text (date_in t) ≡ t) × (is_date (date_in t) ≡ true))
    told t = let same = bytes_eq-Decides (date_text (date_in t)) t in (λ h. let both = and_parts (is_date (date_in t)) _ h in (same.0 both.1, both.0), λ s. and_from _ _ s.1 (same.1 s.0))

-- the empty one
pub empty : (v : Value) → ShowsCells (is_text is_empty_text v) (Text [] ∷ []) (v ∷ []) true
empty v = spelled_texts is_empty_text (λ _. []) (λ _. true) told v
  where
    told : (t : texts.Text) → Decides (is_empty_text t) (([] ≡ t) × (true ≡ true))
    told [] = (λ h. (refl, refl), λ s. refl)
    told (c ∷ cs) = (λ h. absurd (cc), λ s. absurd (cc (s.0)))
