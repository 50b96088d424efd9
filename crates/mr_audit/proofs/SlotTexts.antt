-- The slots of a text of choices, word by word.
use Rattle.std.proofs.Common.{◌≡◌, refl, sym, ap, ◌∙◌, subst, ℕ, zero, suc, ◌+◌, ◌*◌, ◌-◌, ◌<◌, ◌≤◌, Bool, true, false, cond, [], ◌∷◌, ◌++◌, length, ◌⊎◌, inl, inr, Some, None, arith}
use Rattle.std.specs.List.{slice_get}
use Rattle.mr_model.specs.Texts.{Text, is_space, first_word, after_word, behind, word_at}
use Rattle.mr_model.specs.Slots.{slot_in}
use Rattle.mr_model.specs.Exchange.{slots_at}
use Rattle.mr_agree.specs.Agreeing.{slots_in}

-- ---- a space behind the text changes no word

word_with_space : (t : Text) → first_word (t ++ 32 ∷ []) ≡ first_word t
word_with_space [] = refl
word_with_space (c ∷ cs) = ap (λ w. cond (is_space c) [] (c ∷ w)) (word_with_space cs)

after_with_space : (t : Text) → (after_word (t ++ 32 ∷ []) ≡ after_word t ++ 32 ∷ []) ⊎ ((after_word (t ++ 32 ∷ []) ≡ []) × (after_word t ≡ []))
after_with_space [] = inr (refl, refl)
after_with_space (c ∷ cs) = go (is_space c) (after_with_space cs)
  where
    go : (b : Bool) → (after_word (cs ++ 32 ∷ []) ≡ after_word cs ++ 32 ∷ []) ⊎ ((after_word (cs ++ 32 ∷ []) ≡ []) × (after_word cs ≡ []))
        → (cond b (cs ++ 32 ∷ []) (after_word (cs ++ 32 ∷ [])) ≡ cond b cs (after_word cs) ++ 32 ∷ []) ⊎ ((cond b (cs ++ 32 ∷ []) (after_word (cs ++ 32 ∷ [])) ≡ []) × (cond b cs (after_word cs) ≡ []))
    go true h = inl refl
    go false h = h

words_with_space : (j : ℕ) (t : Text) → word_at j (t ++ 32 ∷ []) ≡ word_at j t
words_with_space zero t = word_with_space t
words_with_space (suc j) t = go (after_with_space t) (words_with_space j (after_word t))
  where
    go : (after_word (t ++ 32 ∷ []) ≡ after_word t ++ 32 ∷ []) ⊎ ((after_word (t ++ 32 ∷ []) ≡ []) × (after_word t ≡ []))
        → word_at j (after_word t ++ 32 ∷ []) ≡ word_at j (after_word t) → word_at j (after_word (t ++ 32 ∷ [])) ≡ word_at j (after_word t)
    go (inl e) ih = ap (word_at j) e ∙ ih
    go (inr p) ih = ap (word_at j) (p.0 ∙ sym p.1)

pub behind_more : (j : ℕ) (t : Text) → behind (suc j) t ≡ after_word (behind j t)
behind_more zero t = refl
behind_more (suc j) t = behind_more j (after_word t)

-- a word more is passed
pub behind_step : (n k : ℕ) (t rest after : Text) → k < n → behind n t ≡ behind (n - k) rest → after ≡ after_word rest → behind n t ≡ behind (n - (k + 1)) after
behind_step n k t rest after h e a =
    let one_more : n - k ≡ suc (n - (k + 1)) = omega arith in
    e ∙ ap (λ j. behind j rest) one_more ∙ ap (behind (n - (k + 1))) (sym a)

pub behind_end : (n k : ℕ) (t rest : Text) → n ≤ k → behind n t ≡ behind (n - k) rest → rest ≡ behind n t
behind_end n k t rest h e = let none : n - k ≡ 0 = omega arith in sym (e ∙ ap (λ j. behind j rest) none)

-- ---- slots by their numbers

slot_there : (n i k : ℕ) (l : Text) → k < n → slice_get (slots_at n i l) k ≡ Some (slot_in (word_at (i + 2 * k) l) (word_at (i + 2 * k + 1) l))
slot_there zero i k l h = absurd (omega (arith, h))
slot_there (suc n) i zero l h =
    let e : i ≡ i + 2 * 0 = omega arith in
    λ x. Some (slot_in (word_at (e x) l) (word_at (e x + 1) l))
slot_there (suc n) i (suc k) l h =
    let e : (i + 2) + 2 * k ≡ i + 2 * suc k = omega arith in
    slot_there n (i + 2) k l (omega (arith, h)) ∙ (λ x. Some (slot_in (word_at (e x) l) (word_at (e x + 1) l)))

slot_missing : (n i k : ℕ) (l : Text) → n ≤ k → slice_get (slots_at n i l) k ≡ None
slot_missing zero i k l h = refl
slot_missing (suc n) i zero l h = absurd (omega (arith, h))
slot_missing (suc n) i (suc k) l h = slot_missing n (i + 2) k l (omega (arith, h))

pub no_slot : (t : Text) (k n : ℕ) → n ≡ Rattle.std.proofs.Common.◌/◌ (length t + 1) 17 → n ≤ k → slice_get (slots_in t) k ≡ None
no_slot t k n e h = slot_missing _ 0 k (t ++ 32 ∷ []) (subst (λ m. m ≤ k) e h)

pub slot_of_words : (t day rest time : Text) (k n : ℕ) → n ≡ Rattle.std.proofs.Common.◌/◌ (length t + 1) 17 → k < n → day ≡ first_word (behind (2 * k) t)
    → rest ≡ after_word (behind (2 * k) t) → time ≡ first_word rest → slice_get (slots_in t) k ≡ Some (slot_in day time)
slot_of_words t day rest time k n e h d r m =
    let second : behind (2 * k + 1) t ≡ rest = ap (λ j. behind j t) (Rattle.std.proofs.Common.add-one (2 * k)) ∙ behind_more (2 * k) t ∙ sym r in
    let zeroth : 0 + 2 * k ≡ 2 * k = omega arith in
    slot_there _ 0 k (t ++ 32 ∷ []) (subst (λ m. k < m) e h)
    ∙ (λ i. Some (slot_in (words_with_space (zeroth i) t i) (words_with_space (zeroth i + 1) t i)))
    ∙ (λ i. Some (slot_in (sym d i) (first_word (second i))))
    ∙ (λ i. Some (slot_in day (sym m i)))
