-- Words are cut off a text exactly where they stand in it.
use Rattle.std.proofs.Common.{◌≡◌, refl, sym, ap, ◌∙◌, ℕ, ◌^◌, ◌<◌, Bool, true, false, not, ◌&&◌, ◌||◌, [], ◌∷◌, ◌++◌, ◌⊎◌, inl, inr}
use Rattle.std.proofs.Common.{arith, eqb-true, ne_eqb, length, get_or, ◌≢◌, zero, suc, not-suc-le-zero, suc-ne-zero, Some, None}
use Rattle.std.proofs.lemmas.Bool.{and_parts, false≢true, not-true, cond-true, cond-false, cases_Bool, and_from, and_right, or_from, not_from_false}
use Rattle.std.proofs.lemmas.Fmt.{decimal_nonempty}
use Rattle.std.proofs.lemmas.Slice.Eq.{bytes_eq-Decides}
use Rattle.std.specs.Prelude.{decimal}
use Rattle.std.specs.Str.{bytes_eq}
use Rattle.std.specs.List.{list_all, list_any}
use Rattle.mr_model.specs.Texts.{Text, is_space, first_word, after_word, within, only_if}
use Rattle.mr_model.proofs.WordsReadBack.{Plain, decimal-plain, number-decimal}
use Rattle.mr_model.proofs.BatchesReadBack.{only_if_some}
use Rattle.mr_tasks.specs.RehearsalScript.{is_word}
use Rattle.mr_base.specs.Readings.{number_from_to}
use Rattle.mr_tasks.specs.LineSteps.{cut_first_word}

abbrev NoSpace : Text → Type 0
NoSpace t = list_all (λ d. not (is_space d)) t ≡ true

first_word_of : (w rest : Text) → NoSpace w → first_word (w ++ 32 ∷ rest) ≡ w
first_word_of [] rest h = refl
first_word_of (c ∷ cs) rest h =
    let p = and_parts (not (is_space c)) (list_all (λ d. not (is_space d)) cs) h in
    cond-false (is_space c) [] (c ∷ first_word (cs ++ 32 ∷ rest)) (not-true (is_space c) p.0) ∙ ap (λ (t : Text). c ∷ t) (first_word_of cs rest p.1)

after_word_of : (w rest : Text) → NoSpace w → after_word (w ++ 32 ∷ rest) ≡ rest
after_word_of [] rest h = refl
after_word_of (c ∷ cs) rest h =
    let p = and_parts (not (is_space c)) (list_all (λ d. not (is_space d)) cs) h in
    cond-false (is_space c) (cs ++ 32 ∷ rest) (after_word (cs ++ 32 ∷ rest)) (not-true (is_space c) p.0) ∙ after_word_of cs rest p.1

or_true : (b : Bool) → (b || true) ≡ true
or_true true = refl
or_true false = refl

has_space : (w rest : Text) → list_any is_space (w ++ 32 ∷ rest) ≡ true
has_space [] rest = refl
has_space (c ∷ cs) rest = ap (λ b. is_space c || b) (has_space cs rest) ∙ or_true (is_space c)

no_space : (w : Text) → is_word w ≡ true → NoSpace w
no_space [] h = refl
no_space (c ∷ cs) h = h

-- a word with a space behind it is cut off
pub cut_of : (w rest : Text) → is_word w ≡ true → cut_first_word (w ++ 32 ∷ rest) ≡ Some (w, rest)
cut_of w rest h =
    let t : Text = w ++ 32 ∷ rest in
    let first : first_word t ≡ w = first_word_of w rest (no_space w h) in
    let after : after_word t ≡ rest = after_word_of w rest (no_space w h) in
    ap (λ u. only_if (is_word u && list_any is_space t) (u, after_word t)) first
    ∙ ap (λ b. only_if (b && list_any is_space t) (w, after_word t)) h
    ∙ ap (λ b. only_if b (w, after_word t)) (has_space w rest)
    ∙ ap (λ (u : Text). Some (w, u)) after

joined_cons : (c : ℕ) (cs : Text) → (list_any is_space cs ≡ true → cs ≡ first_word cs ++ 32 ∷ after_word cs) → list_any is_space (c ∷ cs) ≡ true
    → ((is_space c ≡ true) ⊎ (is_space c ≡ false)) → c ∷ cs ≡ first_word (c ∷ cs) ++ 32 ∷ after_word (c ∷ cs)
joined_cons c cs ih h (inl e) =
    ap (λ d. d ∷ cs) (eqb-true c 32 e)
    ∙ sym (ap (λ (u : Text). u ++ 32 ∷ after_word (c ∷ cs)) (cond-true (is_space c) [] (c ∷ first_word cs) e)
    ∙ ap (λ (u : Text). 32 ∷ u) (cond-true (is_space c) cs (after_word cs) e))
joined_cons c cs ih h (inr e) =
    let more : list_any is_space cs ≡ true = sym (ap (λ b. b || list_any is_space cs) e) ∙ h in
    ap (λ (u : Text). c ∷ u) (ih more)
    ∙ sym (ap (λ (u : Text). u ++ 32 ∷ after_word (c ∷ cs)) (cond-false (is_space c) [] (c ∷ first_word cs) e)
    ∙ ap (λ (u : Text). (c ∷ first_word cs) ++ 32 ∷ u) (cond-false (is_space c) cs (after_word cs) e))

joined : (t : Text) → list_any is_space t ≡ true → t ≡ first_word t ++ 32 ∷ after_word t
joined [] h = absurd (false≢true h)
joined (c ∷ cs) h = joined_cons c cs (joined cs) h (cases_Bool (is_space c))

-- what is cut off is a word, and stands before the rest
pub cut_parts : (t w rest : Text) → cut_first_word t ≡ Some (w, rest) → (is_word w ≡ true) × (t ≡ w ++ 32 ∷ rest)
cut_parts t w rest e =
    let o = only_if_some (is_word (first_word t) && list_any is_space t) (first_word t, after_word t) (w, rest) e in
    let tests = and_parts (is_word (first_word t)) (list_any is_space t) o.0 in
    let first : first_word t ≡ w = ap (λ p. p.0) o.1 in
    let after : after_word t ≡ rest = ap (λ p. p.1) o.1 in
    (sym (ap is_word first) ∙ tests.0, joined t tests.1 ∙ ap (λ (u : Text). u ++ 32 ∷ after_word t) first ∙ ap (λ (u : Text). w ++ 32 ∷ u) after)

-- ---- numbers

-- a number within its range is read from its text
pub number_from_decimal : (low high n : ℕ) → within low high n ≡ true → n < 2 ^ 64 → number_from_to low high (decimal n) ≡ Some n
number_from_decimal low high n h small =
    ap (λ m. only_if (within low high m && bytes_eq (decimal m) (decimal n)) m) (number-decimal n small)
    ∙ ap (λ b. only_if (b && bytes_eq (decimal n) (decimal n)) n) h
    ∙ ap (λ b. only_if b n) ((bytes_eq-Decides (decimal n) (decimal n)).1 refl)

nonempty_word : (t : Text) → 0 < length t → Plain t → is_word t ≡ true
nonempty_word [] h p = absurd (not-suc-le-zero h)
nonempty_word (c ∷ cs) h p = plain_no_space (c ∷ cs) p
  where
    plain_no_space : (u : Text) → Plain u → NoSpace u
    plain_no_space [] q = refl
    plain_no_space (d ∷ ds) q = and_from (not (is_space d)) (list_all (λ x. not (is_space x)) ds) (not_from_false (is_space d) (ne_eqb d 32 (λ e. omega arith))) (plain_no_space ds q.1)

pub decimal_word : (n : ℕ) → n < 2 ^ 64 → is_word (decimal n) ≡ true
decimal_word n h = nonempty_word (decimal n) (decimal_nonempty n h) (decimal-plain n h)

-- ---- a text that was split at its first space

-- no byte of the text is a space
abbrev pub LacksSpace : Text → Type 0
LacksSpace t = (i : ℕ) → i < length t → get_or t i 0 ≢ 32

lacks_tail : (c : ℕ) (cs : Text) → LacksSpace (c ∷ cs) → LacksSpace cs
lacks_tail c cs h i low = h (suc i) (omega (arith, low))

lacks_head : (c : ℕ) (cs : Text) → LacksSpace (c ∷ cs) → is_space c ≡ false
lacks_head c cs h = ne_eqb c 32 (h zero (omega arith))

none_is_space : (t : Text) → LacksSpace t → list_any is_space t ≡ false
none_is_space [] h = refl
none_is_space (c ∷ cs) h = or_from (is_space c) (list_any is_space cs) (lacks_head c cs h) (none_is_space cs (lacks_tail c cs h))

all_no_space : (t : Text) → LacksSpace t → NoSpace t
all_no_space [] h = refl
all_no_space (c ∷ cs) h = and_from (not (is_space c)) (list_all (λ d. not (is_space d)) cs) (not_from_false (is_space c) (lacks_head c cs h)) (all_no_space cs (lacks_tail c cs h))

lacking_word : (w : Text) → LacksSpace w → 0 < length w → is_word w ≡ true
lacking_word [] h low = absurd (not-suc-le-zero low)
lacking_word (c ∷ cs) h low = all_no_space (c ∷ cs) h

-- no space: no word is cut off
pub cut_nothing : (t : Text) → LacksSpace t → cut_first_word t ≡ None
cut_nothing t h = ap (λ b. only_if b (first_word t, after_word t)) (and_right (is_word (first_word t)) (list_any is_space t) (none_is_space t h))

-- a space at the front: no word either
pub cut_no_word : (t w rest : Text) → t ≡ w ++ 32 ∷ rest → length w ≡ 0 → cut_first_word t ≡ None
cut_no_word t [] rest e low = ap cut_first_word e
cut_no_word t (c ∷ cs) rest e low = absurd (suc-ne-zero (length cs) low)

pub cut_word : (t w rest : Text) → t ≡ w ++ 32 ∷ rest → LacksSpace w → 0 < length w → cut_first_word t ≡ Some (w, rest)
cut_word t w rest e h low = ap cut_first_word e ∙ cut_of w rest (lacking_word w h low)
