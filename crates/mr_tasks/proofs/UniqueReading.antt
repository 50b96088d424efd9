-- A script is read in one way.
use Rattle.std.proofs.Common.{◌≡◌, refl, sym, ap, subst, ◌∙◌, ℕ, ◌+◌, ◌<◌, true, false, List, [], ◌∷◌, ◌++◌, length, ◌⊎◌}
use Rattle.std.proofs.Common.{inl, inr, suc-ne-zero, not-suc-le-zero, le_of_suc-le-suc, append-nil, append_assoc}
use Rattle.std.proofs.lemmas.Bool.{true≢false, false≢true, cases_order}
use Rattle.std.specs.Prelude.{Ok, Err}
use Rattle.mr_model.specs.Texts.{Text}
use Rattle.mr_model.specs.View.{AskSheet, AskCalendar, AskOutcome, AskErrors}
use Rattle.mr_model.specs.Step.{AddRoom, Submit, Cancel, Commit, Truncate, AskPosition, Ask}
use Rattle.mr_model.specs.World.{Step, Add, Make, Deliver}
use Rattle.mr_tasks.specs.RehearsalScript.{is_passed_over, has_line, step_line, script_lines, IsScriptLine, IsBad, TakesLine, AreStepsOf, begun, taken, IsBadLine, ReadsOneWay}
use Rattle.mr_tasks.proofs.ScriptLines.{one_step}

-- ---- the last line

end_text : List Text → Text
end_text [] = []
end_text (x ∷ []) = x
end_text (x ∷ y ∷ ys) = end_text (y ∷ ys)

fronts : List Text → List Text
fronts [] = []
fronts (x ∷ []) = []
fronts (x ∷ y ∷ ys) = x ∷ fronts (y ∷ ys)

end_pushed : (xs : List Text) (x : Text) → end_text (xs ++ x ∷ []) ≡ x
unfolding end_text
end_pushed [] x = refl
end_pushed (y ∷ []) x = refl
end_pushed (y ∷ z ∷ zs) x = end_pushed (z ∷ zs) x

fronts_pushed : (xs : List Text) (x : Text) → fronts (xs ++ x ∷ []) ≡ xs
unfolding fronts
fronts_pushed [] x = refl
fronts_pushed (y ∷ []) x = refl
fronts_pushed (y ∷ z ∷ zs) x = ap (λ (ts : List Text). y ∷ ts) (fronts_pushed (z ∷ zs) x)

not_empty : (xs : List Text) (x : Text) → [] ≡ xs ++ x ∷ [] → ⊥
not_empty [] x e = suc-ne-zero 0 (sym (ap length e))
not_empty (y ∷ ys) x e = suc-ne-zero (length (ys ++ x ∷ [])) (sym (ap length e))

-- what was read of a script that ends in this line
record EndsBy (lines : List Text) (line : Text) (after : List Step) : Type 0 where
  before : List Step
  read : AreStepsOf lines before
  takes : TakesLine before line after

ends_by : (lines : List Text) (line : Text) {whole : List Text} {after : List Step} → AreStepsOf whole after → whole ≡ lines ++ line ∷ [] → EndsBy lines line after
ends_by lines line begun e = absurd (not_empty lines line e)
ends_by lines line {after = after} (taken {lines = ls} {before = b} {line = l} r t) e =
    record {
      before = b;
      read = subst (λ ts. AreStepsOf ts b) (sym (fronts_pushed ls l) ∙ ap fronts e ∙ fronts_pushed lines line) r;
      takes = subst (λ (u : Text). TakesLine b u after) (sym (end_pushed ls l) ∙ ap end_text e ∙ end_pushed lines line) t;
    }

-- ---- one line

begins_otherwise : (s : Step) → has_line s ≡ true → is_passed_over (step_line s) ≡ false
begins_otherwise (Add server) h = refl
begins_otherwise (Step.Do server (AddRoom room)) h = refl
begins_otherwise (Step.Do server (Submit b)) h = refl
begins_otherwise (Step.Do server (Cancel room id)) h = refl
begins_otherwise (Step.Do server (Ask room (AskSheet day))) h = refl
begins_otherwise (Step.Do server (Ask room (AskCalendar part))) h = refl
begins_otherwise (Step.Do server (Ask room (AskOutcome id))) h = refl
begins_otherwise (Step.Do server (Ask room AskErrors)) h = refl
begins_otherwise (Step.Do server (Commit count)) h = refl
begins_otherwise (Step.Do server (Truncate count)) h = refl
begins_otherwise (Step.Do server AskPosition) h = refl
begins_otherwise (Make from to max_lines) h = refl
begins_otherwise (Deliver batch to bytes) h = refl
begins_otherwise _ h = absurd (false≢true h)

never_both : (line : Text) (s : Step) → is_passed_over line ≡ true → IsScriptLine line s → ⊥
never_both line s passed stands = true≢false (sym passed ∙ ap is_passed_over stands.spelled ∙ begins_otherwise s stands.of_table)

takes_one : (before a b : List Step) (line : Text) → TakesLine before line a → TakesLine before line b → a ≡ b
takes_one before a b line (inl (p, e)) (inl (q, f)) = e ∙ sym f
takes_one before a b line (inl (p, e)) (inr (s, next, f)) = absurd (never_both line s p next)
takes_one before a b line (inr (s, next, e)) (inl (q, f)) = absurd (never_both line s q next)
takes_one before a b line (inr (s, n, e)) (inr (t, m, f)) = e ∙ ap (λ (x : Step). before ++ x ∷ []) (one_step line s t n m) ∙ sym f

-- ---- a whole script

one_reading : {lines : List Text} {a : List Step} → AreStepsOf lines a → (b : List Step) → AreStepsOf lines b → a ≡ b
one_reading begun b r = empty_read r refl
  where
    empty_read : {ls : List Text} {steps : List Step} → AreStepsOf ls steps → [] ≡ ls → [] ≡ steps
    empty_read begun e = refl
    empty_read (taken {lines = ls} {line = l} r t) e = absurd (not_empty ls l e)
one_reading {a = a} (taken {lines = ls} {before = m} {line = l} r t) b q =
    let end = ends_by ls l q refl in
    takes_one m a b l t (subst (λ (x : List Step). TakesLine x l b) (sym (one_reading r end.before end.read)) end.takes)

fronts_append : (xs : List Text) (y : Text) (ys : List Text) → fronts (xs ++ y ∷ ys) ≡ xs ++ fronts (y ∷ ys)
unfolding fronts
fronts_append [] y ys = refl
fronts_append (x ∷ []) y ys = refl
fronts_append (x ∷ z ∷ zs) y ys = ap (λ (ts : List Text). x ∷ ts) (fronts_append (z ∷ zs) y ys)

record IsFrontRead (xs : List Text) : Type 0 where
  steps : List Step
  read : AreStepsOf xs steps

-- what was read of a script, was read of each front of its lines
front_read : {lines : List Text} {steps : List Step} → AreStepsOf lines steps → (xs ys : List Text) → lines ≡ xs ++ ys → IsFrontRead xs
front_read begun [] ys e = record { steps = []; read = begun }
front_read begun (x ∷ xs) ys e = absurd (suc-ne-zero (length (xs ++ ys)) (sym (ap length e)))
front_read {steps = a} (taken {lines = ls} {line = l} r t) xs [] e = record { steps = a; read = subst (λ ts. AreStepsOf ts a) (e ∙ append-nil xs) (taken r t) }
front_read (taken {lines = ls} {line = l} r t) xs (y ∷ ys) e = front_read r xs (fronts (y ∷ ys)) (sym (fronts_pushed ls l) ∙ ap fronts e ∙ fronts_append xs y ys)

bad_not_taken : (before after : List Step) (line : Text) → IsBad line → TakesLine before line after → ⊥
bad_not_taken before after line bad (inl (passed, e)) = false≢true (sym bad.not_passed ∙ passed)
bad_not_taken before after line bad (inr (s, next, e)) = bad.not_of_table s next

bad_not_read : (lines : List Text) (number : ℕ) (steps : List Step) → IsBadLine lines number → AreStepsOf lines steps → ⊥
bad_not_read lines number steps b r =
    let front = front_read r (b.before ++ b.line ∷ []) b.behind (b.stands_at ∙ sym (append_assoc b.before (b.line ∷ []) b.behind)) in
    let end = ends_by b.before b.line front.read refl in
    bad_not_taken b.steps front.steps b.line b.bad (subst (λ (x : List Step). TakesLine x b.line front.steps) (one_reading end.read b.steps b.read_before) end.takes)

first_or : Text → List Text → Text
first_or d [] = d
first_or d (x ∷ xs) = x

rest_of : List Text → List Text
rest_of [] = []
rest_of (x ∷ xs) = xs

longer : (xs ys : List Text) (x y : Text) (us vs : List Text) → xs ++ x ∷ us ≡ ys ++ y ∷ vs → length xs < length ys → (zs : List Text) × (ys ≡ xs ++ x ∷ zs)
unfolding first_or rest_of
longer xs [] x y us vs e low = absurd (not-suc-le-zero low)
longer [] (v ∷ ys) x y us vs e low = (ys, ap (λ u. u ∷ ys) (sym (ap (first_or x) e)))
longer (w ∷ xs) (v ∷ ys) x y us vs e low =
    let (zs, same) = longer xs ys x y us vs (ap rest_of e) (le_of_suc-le-suc low) in
    (zs, ap (λ (ts : List Text). v ∷ ts) same ∙ ap (λ u. u ∷ (xs ++ x ∷ zs)) (sym (ap (first_or x) e)))

first_bad : (lines : List Text) (m n : ℕ) (a : IsBadLine lines m) (b : IsBadLine lines n) → length a.before < length b.before → ⊥
first_bad lines m n a b low =
    let (zs, same) = longer a.before b.before a.line b.line a.behind b.behind (sym a.stands_at ∙ b.stands_at) low in
    bad_not_read b.before m b.steps
    (record { before = a.before; line = a.line; behind = zs; steps = a.steps; stands_at = same; counted = a.counted; read_before = a.read_before; bad = a.bad }) b.read_before

one_bad : (lines : List Text) (m n : ℕ) → IsBadLine lines m → IsBadLine lines n → m ≡ n
one_bad lines m n a b = go (cases_order (length a.before) (length b.before))
  where
    go : (length a.before ≡ length b.before) ⊎ ((length a.before < length b.before) ⊎ (length b.before < length a.before)) → m ≡ n
    go (inl same) = sym a.counted ∙ ap (λ i. i + 1) same ∙ b.counted
    go (inr (inl low)) = absurd (first_bad lines m n a b low)
    go (inr (inr low)) = absurd (first_bad lines n m b a low)

pub reads_one_way : ReadsOneWay
reads_one_way bytes (Ok a) (Ok b) p q = ap Ok (one_reading p b q)
reads_one_way bytes (Ok a) (Err n) p q = absurd (bad_not_read (script_lines bytes) n a q p)
reads_one_way bytes (Err m) (Ok b) p q = absurd (bad_not_read (script_lines bytes) m b p q)
reads_one_way bytes (Err m) (Err n) p q = ap Err (one_bad (script_lines bytes) m n p q)
