-- A script is read line by line.
use Rattle.std.proofs.Common.{◌≡◌, refl, sym, ap, subst, ◌∙◌, ℕ, zero, suc, ◌+◌, ◌<◌, true, List, [], ◌∷◌, ◌++◌, length, map}
use Rattle.std.proofs.Common.{take, get_or, inl, inr, arith, Bor, Option, Some, None, not-suc-le-zero, le_of_suc-le-suc}
use Rattle.std.proofs.lemmas.List.{map_push}
use Rattle.std.proofs.lemmas.Iterator.{YieldsList}
use Rattle.std.proofs.lemmas.Iterator.Consumers.{YieldsList-so_far, YieldsList-turn, YieldsList-end}
use Rattle.std.specs.Iterator.{Yields}
use Rattle.std.specs.List.{enumerate_from}
use Rattle.mr_model.specs.Texts.{Text}
use Rattle.mr_model.specs.World.{Step}
use Rattle.mr_tasks.specs.RehearsalScript.{is_passed_over, IsScriptLine, IsBad, AreStepsOf, taken, IsBadLine}

-- the lines so far, as an iterator gave them
abbrev pub numbered : List (ℕ × Bor Text) → List (ℕ × Text)
numbered xs = map (λ x. (x.0, x.1.now)) xs

abbrev pub texts_of : List (ℕ × Text) → List Text
texts_of ls = map (λ l. l.1) ls

pub texts_more : (xs : List (ℕ × Bor Text)) (x : ℕ × Bor Text) → texts_of (numbered (xs ++ x ∷ [])) ≡ texts_of (numbered xs) ++ x.1.now ∷ []
texts_more xs x = ap texts_of (map_push (λ y. (y.0, y.1.now)) xs x) ∙ map_push (λ (l : ℕ × Text). l.1) (numbered xs) (x.0, x.1.now)

pub texts-enumerate : (k : ℕ) (ls : List Text) → texts_of (enumerate_from k ls) ≡ ls
texts-enumerate k [] = refl
texts-enumerate k (l ∷ ls) = ap (λ (ms : List Text). l ∷ ms) (texts-enumerate (k + 1) ls)

-- where a line stands among the others
pub record StandsAt (ls before : List Text) (line : Text) (number : ℕ) : Type 0 where
  pub behind : List Text
  pub stands_at : ls ≡ before ++ line ∷ behind
  pub counted : length before ≡ number

length-texts : (ls : List (ℕ × Text)) → length (texts_of ls) ≡ length ls
length-texts [] = refl
length-texts (l ∷ ls) = ap suc (length-texts ls)

at_turn : (k n : ℕ) (ls : List Text) (x : ℕ × Text) → n < length (enumerate_from k ls) → x ≡ get_or (enumerate_from k ls) n x
    → (behind : List Text) × (ls ≡ texts_of (take n (enumerate_from k ls)) ++ x.1 ∷ behind) × (x.0 ≡ k + n) × (length (take n (enumerate_from k ls)) ≡ n)
at_turn k n [] x low e = absurd (not-suc-le-zero low)
at_turn k zero (l ∷ ls) x low e = (ls, sym (ap (λ (y : ℕ × Text). y.1 ∷ ls) e), ap (λ y. y.0) e ∙ omega arith, refl)
at_turn k (suc n) (l ∷ ls) x low e =
    let (behind, stands, number, long) = at_turn (k + 1) n ls x (le_of_suc-le-suc low) e in
    (behind, ap (λ (ms : List Text). l ∷ ms) stands, number ∙ omega arith, ap suc long)

-- the line of an iteration stands behind those before it
pub turn : (ls : List Text) (done : List (ℕ × Text)) (x : ℕ × Text) → done ≡ take (length done) (enumerate_from 0 ls)
    → (length done < length (enumerate_from 0 ls)) × (x ≡ get_or (enumerate_from 0 ls) (length done) x) → StandsAt ls (texts_of done) x.1 x.0
turn ls done x so_far t =
    let (behind, stands, number, long) = at_turn 0 (length done) ls x t.0 t.1 in
    record {
      behind = behind;
      stands_at = stands ∙ ap (λ (ms : List (ℕ × Text)). texts_of ms ++ x.1 ∷ behind) (sym so_far);
      counted = length-texts done ∙ sym (number ∙ omega arith);
    }

-- ---- how far a script was read

pub passes_over : (lines : List Text) (steps : List Step) (line : Text) → AreStepsOf lines steps → is_passed_over line ≡ true → AreStepsOf (lines ++ line ∷ []) steps
passes_over lines steps line way passed = taken way (inl (passed, refl))

pub takes_step : (lines : List Text) (steps : List Step) (line : Text) (step : Step) → AreStepsOf lines steps → IsScriptLine line step → AreStepsOf (lines ++ line ∷ []) (steps ++ step ∷ [])
takes_step lines steps line step way stands = taken way (inr (step, stands, refl))

pub ends_at_bad : (lines before : List Text) (steps : List Step) (line : Text) (index number : ℕ) → AreStepsOf before steps
    → IsBad line → StandsAt lines before line index → index + 1 ≡ number → IsBadLine lines number
ends_at_bad lines before steps line index number way bad at e =
    record {
      before = before;
      line = line;
      behind = at.behind;
      steps = steps;
      stands_at = at.stands_at;
      counted = ap (λ i. i + 1) at.counted ∙ e;
      read_before = way;
      bad = bad;
    }

length-numbered : (xs : List (ℕ × Bor Text)) → length (numbered xs) ≡ length xs
length-numbered [] = refl
length-numbered (x ∷ xs) = ap suc (length-numbered xs)

-- ---- what an iterator over numbered lines gives

pub line_turn : {S : Type 0} {steps : S → Option (ℕ × Bor Text) → S → Type 0} {s : S} (ls : List Text) → YieldsList steps (λ p. (p.0, p.1.now)) s (enumerate_from 0 ls)
    → (xs : List (ℕ × Bor Text)) (t : S) → Yields steps s xs t → (r : Option (ℕ × Bor Text)) (u : S) (x : ℕ × Bor Text) → r ≡ Some x → steps t r u
    → StandsAt ls (texts_of (numbered xs)) x.1.now x.0
line_turn ls e xs t y r u x is went =
    turn ls (numbered xs) (x.0, x.1.now)
    (YieldsList-so_far e xs t y ∙ ap (λ n. take n (enumerate_from 0 ls)) (sym (length-numbered xs)))
    (subst (λ n. (n < length (enumerate_from 0 ls)) × ((x.0, x.1.now) ≡ get_or (enumerate_from 0 ls) n (x.0, x.1.now))) (sym (length-numbered xs)) (YieldsList-turn e xs t y r u x is went))

pub lines_end : {S : Type 0} {steps : S → Option (ℕ × Bor Text) → S → Type 0} {s : S} (ls : List Text) → YieldsList steps (λ p. (p.0, p.1.now)) s (enumerate_from 0 ls)
    → (xs : List (ℕ × Bor Text)) (t : S) → Yields steps s xs t → (r : Option (ℕ × Bor Text)) (u : S) → r ≡ None → steps t r u
    → texts_of (numbered xs) ≡ ls
lines_end ls e xs t y r u is went = ap texts_of (YieldsList-end e xs t y r u is went).0 ∙ texts-enumerate 0 ls
