-- The text of what was taken is read word by word exactly where the definitions read it.
use Rattle.std.proofs.Common.{◌≡◌, refl, sym, ap, ◌∙◌, subst, ℕ, ◌^◌, ◌<◌, ◌≤◌, true, leb, ◌∷◌, ◌++◌, arith, Option, Some, None, lit<, lit≤, leb-true, append_assoc, append-nil}
use Rattle.std.proofs.lemmas.Bool.{and_parts, and_from}
use Rattle.std.proofs.lemmas.Slice.Eq.{bytes_eq-Decides}
use Rattle.std.specs.Prelude.{codes}
use Rattle.std.specs.Str.{bytes_eq, IsUtf8}
use Rattle.std.specs.Fmt.{decimal}
use Rattle.mr_model.specs.Texts.{Text, within, only_if, number_in, number_at, first_word, behind}
use Rattle.mr_model.proofs.WordsReadBack.{all_append, first_word_of, after_word_of, decimal-plain, number-decimal}
use Rattle.mr_model.proofs.BatchesReadBack.{only_if_some, own_text, only_own}
use Rattle.mr_base.proofs.Readers.{same_reading}
use Rattle.mr_wire.specs.Fields.{◌>>=◌, number_off, behind_word}
use Rattle.mr_wire.proofs.FieldLaws.{bind_some, number_off_takes, number_off_again}
use Rattle.mr_wire.proofs.LineLaws.{behind_takes, behind_again}
use Rattle.mr_wire.proofs.Ascii.{is_text, number_low}
use Rattle.mr_peer.specs.Took.{greatest_told, are_told, took_text, took_numbers, read_took}
use Rattle.mr_peer.specs.TookWords.{last_word, took_on}
use Rattle.mr_model.proofs.LowBytes.{Low}

-- the text, with what stands behind each word in brackets
abbrev in_words : ℕ × ℕ → Text
in_words n = codes "took" ++ 32 ∷ (decimal n.0 ++ 32 ∷ (codes "writes" ++ 32 ∷ (decimal n.1 ++ 32 ∷ last_word)))

same_text : (n : ℕ × ℕ) → took_text n ≡ in_words n
same_text n = simp (append_assoc, append-nil)

below : (n : ℕ) → within 0 greatest_told n ≡ true → n < 2 ^ 64
below n h =
    let most : n ≤ greatest_told = leb-true n greatest_told (and_parts (leb 0 n) (leb n greatest_told) h).1 in
    omega (arith, most)

-- ---- word by word

words_take : (text : Text) (x : ℕ × ℕ) → took_on text ≡ Some x → (are_told x ≡ true) × (text ≡ in_words x)
unfolding took_on
words_take text x e =
    let a = bind_some (behind_word (codes "took") text) (λ rest. number_off 0 greatest_told rest >>= λ w. behind_word (codes "writes") w.1
    >>= λ next. number_off 0 greatest_told next >>= λ c. only_if (bytes_eq c.1 last_word) (w.0, c.0)) x e in
    let b = bind_some (number_off 0 greatest_told a.0) (λ w. behind_word (codes "writes") w.1 >>= λ next. number_off 0 greatest_told next >>= λ c. only_if (bytes_eq c.1 last_word) (w.0, c.0)) x a.2 in
    let d = bind_some (behind_word (codes "writes") b.0.1) (λ next. number_off 0 greatest_told next >>= λ c. only_if (bytes_eq c.1 last_word) (b.0.0, c.0)) x b.2 in
    let f = bind_some (number_off 0 greatest_told d.0) (λ c. only_if (bytes_eq c.1 last_word) (b.0.0, c.0)) x d.2 in
    let w = b.0.0 in
    let c = f.0.0 in
    let made : ℕ × ℕ = (w, c) in
    let last = only_if_some (bytes_eq f.0.1 last_word) made x f.2 in
    let tw = number_off_takes 0 greatest_told a.0 b.0 b.1 in
    let tc = number_off_takes 0 greatest_told d.0 f.0 f.1 in
    let is : text ≡ in_words made =
    behind_takes (codes "took") text a.0 a.1
    ∙ ap (λ (t : Text). codes "took" ++ 32 ∷ t) (tw.1
    ∙ ap (λ (t : Text). decimal w ++ 32 ∷ t) (behind_takes (codes "writes") b.0.1 d.0 d.1
    ∙ ap (λ (t : Text). codes "writes" ++ 32 ∷ t) (tc.1
    ∙ ap (λ (t : Text). decimal c ++ 32 ∷ t) ((bytes_eq-Decides f.0.1 last_word).0 last.0)))) in
    subst (λ (y : ℕ × ℕ). (are_told y ≡ true) × (text ≡ in_words y)) {x = made} last.1
    (and_from (within 0 greatest_told w) (within 0 greatest_told c) tw.0 tc.0, is)

words_again : (x : ℕ × ℕ) → are_told x ≡ true → took_on (in_words x) ≡ Some x
unfolding took_on
words_again x ok =
    let p = and_parts (within 0 greatest_told x.0) (within 0 greatest_told x.1) ok in
    let end = decimal x.1 ++ 32 ∷ last_word in
    let behind_writes = codes "writes" ++ 32 ∷ end in
    ap (λ o. o >>= λ (rest : Text). number_off 0 greatest_told rest >>= λ w. behind_word (codes "writes") w.1
    >>= λ next. number_off 0 greatest_told next >>= λ c. only_if (bytes_eq c.1 last_word) (w.0, c.0))
    (behind_again (codes "took") (decimal x.0 ++ 32 ∷ behind_writes) (lit≤ tt, (lit≤ tt, (lit≤ tt, (lit≤ tt, tt)))))
    ∙ ap (λ o. o >>= λ (w : ℕ × Text). behind_word (codes "writes") w.1 >>= λ next. number_off 0 greatest_told next >>= λ c. only_if (bytes_eq c.1 last_word) (w.0, c.0))
    (number_off_again 0 greatest_told x.0 behind_writes p.0 (lit< tt))
    ∙ ap (λ o. o >>= λ (next : Text). number_off 0 greatest_told next >>= λ c. only_if (bytes_eq c.1 last_word) (x.0, c.0))
    (behind_again (codes "writes") end (lit≤ tt, (lit≤ tt, (lit≤ tt, (lit≤ tt, (lit≤ tt, (lit≤ tt, tt)))))))
    ∙ ap (λ o. o >>= λ (c : ℕ × Text). only_if (bytes_eq c.1 last_word) (x.0, c.0)) (number_off_again 0 greatest_told x.1 last_word p.1 (lit< tt))
    ∙ ap (λ b. only_if b x) ((bytes_eq-Decides last_word last_word).1 refl)

-- ---- as the definitions read it

first_number : (w : ℕ) (rest : Text) → w < 2 ^ 64 → number_at 1 (codes "took" ++ 32 ∷ (decimal w ++ 32 ∷ rest)) ≡ w
first_number w rest small = ap number_in (first_word_of (decimal w) rest (decimal-plain w small)) ∙ number-decimal w small

second_number : (w c : ℕ) (rest : Text) → w < 2 ^ 64 → c < 2 ^ 64
    → number_at 3 (codes "took" ++ 32 ∷ (decimal w ++ 32 ∷ (codes "writes" ++ 32 ∷ (decimal c ++ 32 ∷ rest)))) ≡ c
second_number w c rest small low =
    ap (λ t. number_in (first_word (behind 1 t))) (after_word_of (decimal w) (codes "writes" ++ 32 ∷ (decimal c ++ 32 ∷ rest)) (decimal-plain w small))
    ∙ ap number_in (first_word_of (decimal c) rest (decimal-plain c low)) ∙ number-decimal c low

numbers_again : (x : ℕ × ℕ) → are_told x ≡ true → took_numbers (in_words x) ≡ x
numbers_again x ok =
    let p = and_parts (within 0 greatest_told x.0) (within 0 greatest_told x.1) ok in
    let one = first_number x.0 (codes "writes" ++ 32 ∷ (decimal x.1 ++ 32 ∷ last_word)) (below x.0 p.0) in
    let two = second_number x.0 x.1 last_word (below x.0 p.0) (below x.1 p.1) in
    λ i. (one i, two i)

read_again : (x : ℕ × ℕ) → are_told x ≡ true → read_took (in_words x) ≡ Some x
read_again x ok = only_own are_told took_text (took_numbers (in_words x)) x (in_words x) (numbers_again x ok) ok (same_text x)

read_takes : (text : Text) (x : ℕ × ℕ) → read_took text ≡ Some x → (are_told x ≡ true) × (text ≡ in_words x)
read_takes text x e = let o = own_text are_told took_text (took_numbers text) x text e in (o.0, sym o.1 ∙ same_text x)

pub took_is : (text : Text) → took_on text ≡ read_took text
took_is text =
    same_reading (took_on text) (read_took text)
    (λ x e. let t = words_take text x e in ap read_took t.1 ∙ read_again x t.0)
    (λ x e. let t = read_takes text x e in ap took_on t.1 ∙ words_again x t.0)

-- ---- it is ASCII

words_low : (x : ℕ × ℕ) → are_told x ≡ true → Low (in_words x)
words_low x ok =
    let p = and_parts (within 0 greatest_told x.0) (within 0 greatest_told x.1) ok in
    let top : (n : ℕ) → within 0 greatest_told n ≡ true → n ≤ greatest_told = λ n h. leb-true n greatest_told (and_parts (leb 0 n) (leb n greatest_told) h).1 in
    let one = number_low x.0 greatest_told (top x.0 p.0) (lit< tt) in
    let two = number_low x.1 greatest_told (top x.1 p.1) (lit< tt) in
    let end : Low (32 ∷ last_word) = (lit< tt, (lit< tt, (lit< tt, (lit< tt, (lit< tt, (lit< tt, (lit< tt, (lit< tt, (lit< tt, tt))))))))) in
    let tail : Low (decimal x.1 ++ 32 ∷ last_word) = all_append (λ c. c < 128) (decimal x.1) (32 ∷ last_word) two end in
    let middle : Low (32 ∷ (codes "writes" ++ 32 ∷ (decimal x.1 ++ 32 ∷ last_word))) =
    (lit< tt, (lit< tt, (lit< tt, (lit< tt, (lit< tt, (lit< tt, (lit< tt, (lit< tt, tail)))))))) in
    (lit< tt, (lit< tt, (lit< tt, (lit< tt, (lit< tt, all_append (λ c. c < 128) (decimal x.0) _ one middle)))))

-- what is no text tells nothing
pub no_text : (bytes : Text) → (IsUtf8 bytes → ⊥) → read_took bytes ≡ None
no_text bytes bad = go (read_took bytes) refl
  where
    go : (o : Option (ℕ × ℕ)) → read_took bytes ≡ o → read_took bytes ≡ None
    go None e = e
    go (Some x) e = let t = read_takes bytes x e in absurd (bad (subst IsUtf8 (sym t.1) (is_text (in_words x) (words_low x t.0))))
