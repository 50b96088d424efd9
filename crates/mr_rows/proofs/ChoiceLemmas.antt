-- The text of choices, 17 bytes at a time.
use Rattle.std.proofs.Common.{◌≡◌, ℕ, suc, ◌+◌, ◌-◌, ◌<◌, ◌≤◌, length, take, drop, length-take, length-drop, min, true, false, Bool, ◌&&◌, ◌||◌, Result, sym, ap, ◌∙◌, arith}
use Rattle.std.proofs.lemmas.Bool.{and_parts, false_from_ne_true}
use Rattle.std.proofs.lemmas.Result.{IfErr-weaker}
use Rattle.std.proofs.lemmas.Slice.Eq.{bytes_eq-Decides}
use Rattle.std.specs.Prelude.{bytes_eq, IfErr, nat_le, nat_lt, slice_index, ◌==◌}
use Rattle.std.specs.Str.{IsUtf8, is_utf8}
use Rattle.std.proofs.lemmas.Str.{IsUtf8-from_is_utf8}
use Rattle.mr_model.specs.Texts.{Text}
use Rattle.mr_model.specs.Calendar.{time_in, time_text}
use Rattle.sqlite_value.specs.declared.value.Value.{Value}
use Rattle.sqlite_value.specs.declared.value.Value.TheVariants as cell
use Rattle.mr_rows.specs.RowLimits.{is_day_text, is_start_text, begins_with_slot, are_choices, is_choices}
use Rattle.mr_rows.specs.CellLimits.{is_text}
use Rattle.mr_rows.proofs.CellLemmas.{day_utf8, start_utf8, no_text}

-- what isn't text is none of either
pub day_of_text : (t : Text) → (IsUtf8 t → ⊥) → is_day_text t ≡ false
day_of_text t bad = false_from_ne_true _ (λ is. bad (IsUtf8-from_is_utf8 t (day_utf8 t is)))

pub start_of_text : (n : ℕ) (t : Text) → (IsUtf8 t → ⊥) → is_start_text n t ≡ false
start_of_text n t bad = false_from_ne_true _ (λ is. bad (IsUtf8-from_is_utf8 t (start_utf8 n t is)))

-- what is shorter than a slot doesn't begin with one
pub too_short : (n : ℕ) (t : Text) → length t < 16 → begins_with_slot n t ≡ false
too_short n t low = false_from_ne_true _ (λ is. absurd (let long = five (and_parts (is_day_text (take 10 t) && slice_index t 10 == 32) _ is).1 in omega (arith, long, low)))
  where
    -- a time has five bytes
    five : is_start_text n (take 5 (drop 11 t)) ≡ true → 16 ≤ length t
    five start =
        let time = take 5 (drop 11 t) in
        let both = and_parts (nat_lt (time_in time) 1440 && bytes_eq (time_text (time_in time)) time) _ start in
        let own = (bytes_eq-Decides (time_text (time_in time)) time).0 (and_parts (nat_lt (time_in time) 1440) _ both.0).1 in
        let long : 5 ≡ min 5 (length t - 11) = ap length own ∙ length-take 5 (drop 11 t) ∙ ap (min 5) (length-drop 11 t) in
        omega (arith, long)

-- choices of a cell's text
pub choices_told : (n : ℕ) (t bytes : Text) (v : Value) → v ≡ cell.Text t → bytes ≡ t → is_utf8 t ≡ true → are_choices 17 n bytes ≡ is_text (is_choices n) v
choices_told n t bytes v is same ok = ap (are_choices 17 n) same ∙ sym (ap (λ b. b && are_choices 17 n t) ok) ∙ sym (ap (is_text (is_choices n)) is)

pub choices_unread : {X E : Type 0} (other : E → Type 0) (n : ℕ) (v : Value) (r : Result X E)
    → IfErr r (λ e. other e → is_text is_utf8 v ≡ false) → IfErr r (λ e. other e → is_text (is_choices n) v ≡ false)
choices_unread other n v r told = IfErr-weaker r _ _ (λ e none o. no_text is_utf8 (is_choices n) (λ t h. (and_parts (is_utf8 t) _ h).0) v (none o)) told

-- ---- one slot after the other

abbrev Follows : ℕ → ℕ → Text → Bool
Follows n long t = begins_with_slot long t && (nat_le (length t) 16 || (slice_index t 16 == 32 && are_choices n long (drop 17 t)))

-- as long as there may be one more, a slot stands in front, and then nothing or a space and the others
pub one_more : (n k long : ℕ) (t : Text) → k < n → are_choices (n - k) long t ≡ Follows (n - (k + 1)) long t
unfolding are_choices
one_more n k long t low = let more : n - k ≡ suc (n - (k + 1)) = omega arith in ap (λ m. are_choices m long t) more

-- and then there are too many
pub too_many : (n k long : ℕ) (text t : Text) → n ≤ k → are_choices n long text ≡ are_choices (n - k) long t → are_choices n long text ≡ false
unfolding are_choices
too_many n k long text t all so = let none : n - k ≡ 0 = omega arith in so ∙ ap (λ m. are_choices m long t) none
