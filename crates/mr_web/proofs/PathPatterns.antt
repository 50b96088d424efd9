-- A path that a search finds a row for fits the row's pattern.
use Rattle.std.proofs.Common.{◌≡◌, ◌⊎◌, ◌∙◌, inl, inr, ℕ, zero, suc, List, [], ◌∷◌, ◌++◌, Bool, true, false, cond, length, take, drop}
use Rattle.std.proofs.Common.{Option, Some, None, refl, sym, ap, subst, arith, ◌==◌, ◌-◌, ◌<◌, ◌&&◌, ◌||◌, take-append-drop, ltb}
use Rattle.std.proofs.lemmas.Bool.{ltb-true, eqb-true, and_parts}
use Rattle.matchit.specs.Rows.{RowsOf, param_token, catch_all_token}
use Rattle.matchit.specs.Seek.{seek, own, step, or_else, param_step, with_suffix, longest_suffix, longest_from, better, cuts, segment, has_slash, same_text, slash}
use Rattle.std.specs.List.{ends_with}
use Rattle.std.specs.Bool.{nat_eq}

-- ---- what fits a pattern

-- the bytes of a pattern stand for themselves, and a parameter takes bytes of which none is a slash, or at the end all
abbrev pub Fits : List ℕ → List ℕ → Type 0
Fits [] path = path ≡ []
Fits (x ∷ t) path =
    ((x < 128) × (q : List ℕ) × (path ≡ x ∷ q) × Fits t q)
    ⊎ ((x ≡ param_token) × (t ≡ []))
    ⊎ ((x ≡ param_token) × (u : List ℕ) × (w : List ℕ) × (q : List ℕ) × (t ≡ slash ∷ u) × (path ≡ w ++ q) × (has_slash w ≡ false) × Fits t q)

-- a parameter is the last, or a slash follows
abbrev pub ends_part : List ℕ → Bool
ends_part [] = true
ends_part (y ∷ t) = y == slash

-- of ASCII bytes and parameters, each of which is the last or before a slash
abbrev pub is_plain : List ℕ → Bool
is_plain [] = true
is_plain (x ∷ t) = (ltb x 128 || (x == param_token && ends_part t)) && is_plain t

or_split : (a b : Bool) → (a || b) ≡ true → (a ≡ true) ⊎ (b ≡ true)
or_split true b h = inl refl
or_split false b h = inr h

pub plain_parts : (x : ℕ) (t : List ℕ) → is_plain (x ∷ t) ≡ true
    → ((x < 128) ⊎ ((x ≡ param_token) × (ends_part t ≡ true))) × (is_plain t ≡ true)
plain_parts x t h =
    let both = and_parts (ltb x 128 || (x == param_token && ends_part t)) (is_plain t) h in (
      elim (or_split (ltb x 128) (x == param_token && ends_part t) both.0) [
        | inl low ↦ inl (ltb-true x 128 low)
        | inr param ↦ let p = and_parts (x == param_token) (ends_part t) param in inr (eqb-true x param_token p.0, p.1)
      ],
      both.1,
    )

ends_cases : (t : List ℕ) → ends_part t ≡ true → (t ≡ []) ⊎ ((u : List ℕ) × (t ≡ slash ∷ u))
ends_cases [] h = inl refl
ends_cases (y ∷ t) h = inr (t, ap (λ z. z ∷ t) (eqb-true y slash h))

-- a byte more on both sides
fits_byte : (x : ℕ) (t q : List ℕ) → is_plain (x ∷ t) ≡ true → Fits t q → Fits (x ∷ t) (x ∷ q)
fits_byte x t q plain f = elim (plain_parts x t plain).0 [
  | inl low ↦ inl (low, q, refl, f)
  | inr param ↦ elim (ends_cases t param.1) [
    | inl last ↦ inr (inl (param.0, last))
    | inr part ↦
        let none : has_slash (x ∷ []) ≡ false = ap (λ y. has_slash (y ∷ [])) param.0 in
        inr (inr (param.0, part.0, x ∷ [], q, part.1, refl, none, f))
  ]
]

-- a parameter takes the first n bytes, of which none is a slash
fits_word : (t path : List ℕ) (n : ℕ) → ends_part t ≡ true → has_slash (take n path) ≡ false → Fits t (drop n path) → Fits (param_token ∷ t) path
fits_word t path n ends none f = elim (ends_cases t ends) [
  | inl last ↦ inr (inl (refl, last))
  | inr part ↦ inr (inr (refl, part.0, take n path, drop n path, part.1, sym (take-append-drop n path), none, f))
]

-- ---- before the end of the first segment there is no slash

no_slash_before : (path : List ℕ) (n : ℕ) → n < length (segment path) → has_slash (take n path) ≡ false
no_slash_before path zero h = refl
no_slash_before [] (suc n) h = absurd (omega (arith, h))
no_slash_before (b ∷ rest) (suc n) h = by (no_slash_before rest n) (b == slash) refl
  where
    by : (n < length (segment rest) → has_slash (take n rest) ≡ false) → (v : Bool) → (b == slash) ≡ v → cond (b == slash) true (has_slash (take n rest)) ≡ false
    by later true e =
        let one : length (segment (b ∷ rest)) ≡ 1 = ap (λ v. length (cond v (b ∷ []) (b ∷ segment rest))) e in
        absurd (omega (arith, h, one))
    by later false e =
        let more : length (segment (b ∷ rest)) ≡ suc (length (segment rest)) = ap (λ v. length (cond v (b ∷ []) (b ∷ segment rest))) e in
        ap (λ v. cond v true (has_slash (take n rest))) e ∙ later (omega (arith, h, more))

no_slash_take : (path : List ℕ) (n : ℕ) → has_slash path ≡ false → has_slash (take n path) ≡ false
no_slash_take path zero h = refl
no_slash_take [] (suc n) h = refl
no_slash_take (b ∷ rest) (suc n) h = by (no_slash_take rest n) (b == slash) refl
  where
    by : (has_slash rest ≡ false → has_slash (take n rest) ≡ false) → (v : Bool) → (b == slash) ≡ v → cond (b == slash) true (has_slash (take n rest)) ≡ false
    by more true e = let bad : true ≡ false = sym (ap (λ v. cond v true (has_slash rest)) e) ∙ h in let no : ⊥ = cc in absurd no
    by more false e =
        let later : has_slash rest ≡ false = sym (ap (λ v. cond v true (has_slash rest)) e) ∙ h in
        ap (λ v. cond v true (has_slash (take n rest))) e ∙ more later

-- ---- a search answers a key whose pattern fits

-- P of the key, if there is one
abbrev pub IfKey : {K : Type 0} → (K → Type 0) → Option K → Type 0
IfKey P None = Unit {0}
IfKey P (Some k) = P k

module _ {K : Type 0} (R : K → Type 0) where
  -- each row is plain, and R holds of its key where its pattern fits the path
  abbrev pub EachRow : List ℕ → RowsOf K → Type 0
  EachRow path [] = Unit {0}
  EachRow path ((t, k) ∷ rest) = ((is_plain t ≡ true) × (Fits t path → R k)) × EachRow path rest

  -- the same of what stands behind a parameter
  abbrev EachAfter : List ℕ → RowsOf K → Type 0
  EachAfter path [] = Unit {0}
  EachAfter path ((t, k) ∷ rest) =
      ((is_plain t ≡ true) × (ends_part t ≡ true) × (Fits (param_token ∷ t) path → R k)) × EachAfter path rest

  own_fits : (rs : RowsOf K) → EachRow [] rs → IfKey R (own rs)
  own_fits [] h = tt
  own_fits (([], k) ∷ rest) h = h.0.1 refl
  own_fits ((x ∷ t, k) ∷ rest) h = own_fits rest h.1

  else_fits : (a b : Option K) → IfKey R a → IfKey R b → IfKey R (or_else a b)
  else_fits None b h g = g
  else_fits (Some k) b h g = h

  step_fits : (b : ℕ) (q : List ℕ) (rs : RowsOf K) → EachRow (b ∷ q) rs → EachRow q (step b rs)
  step_fits b q [] h = tt
  step_fits b q (([], k) ∷ rest) h = step_fits b q rest h.1
  step_fits b q ((x ∷ t, k) ∷ rest) h = by (step_fits b q rest h.1) (x == b) refl
    where
      by : EachRow q (step b rest) → (v : Bool) → (x == b) ≡ v → EachRow q (cond v ((t, k) ∷ step b rest) (step b rest))
      by others true e =
          let same : x ≡ b = eqb-true x b e in
          (((plain_parts x t h.0.0).1, λ f. h.0.1 (subst (λ y. Fits (x ∷ t) (y ∷ q)) same (fits_byte x t q h.0.0 f))), others)
      by others false e = others

  param_rows : (path : List ℕ) (rs : RowsOf K) → EachRow path rs → EachAfter path (step param_token rs)
  param_rows path [] h = tt
  param_rows path (([], k) ∷ rest) h = param_rows path rest h.1
  param_rows path ((x ∷ t, k) ∷ rest) h = by (param_rows path rest h.1) (x == param_token) refl
    where
      by : EachAfter path (step param_token rest) → (v : Bool) → (x == param_token) ≡ v → EachAfter path (cond v ((t, k) ∷ step param_token rest) (step param_token rest))
      by others true e =
          let same : x ≡ param_token = eqb-true x param_token e in
          let plain = plain_parts x t h.0.0 in
          let ends : ends_part t ≡ true = elim plain.0 [
            | inl low ↦ absurd (omega (arith, low, same))
            | inr param ↦ param.1
          ] in
          ((plain.1, ends, λ f. h.0.1 (subst (λ y. Fits (y ∷ t) path) (sym same) f)), others)
      by others false e = others

  no_catch_all : (path : List ℕ) (rs : RowsOf K) → EachRow path rs → IfKey R (own (step catch_all_token rs))
  no_catch_all path [] h = tt
  no_catch_all path (([], k) ∷ rest) h = no_catch_all path rest h.1
  no_catch_all path ((x ∷ t, k) ∷ rest) h = by (no_catch_all path rest h.1) (x == catch_all_token) refl
    where
      by : IfKey R (own (step catch_all_token rest)) → (v : Bool) → (x == catch_all_token) ≡ v → IfKey R (own (cond v ((t, k) ∷ step catch_all_token rest) (step catch_all_token rest)))
      by others true e =
          let same : x ≡ catch_all_token = eqb-true x catch_all_token e in
          elim (plain_parts x t h.0.0).0 [
            | inl low ↦ absurd (omega (arith, low, same))
            | inr param ↦ absurd (omega (arith, param.0, same))
          ]
      by others false e = others

  -- behind a parameter that takes the first n bytes
  after_rows : (path : List ℕ) (n : ℕ) → has_slash (take n path) ≡ false → (rs : RowsOf K) → EachAfter path rs → EachRow (drop n path) rs
  after_rows path n none [] h = tt
  after_rows path n none ((t, k) ∷ rest) h =
      ((h.0.0, λ f. h.0.2 (fits_word t path n h.0.1 none f)), after_rows path n none rest h.1)

  suffix_rows : (path s : List ℕ) (rs : RowsOf K) → EachAfter path rs → EachAfter path (with_suffix s rs)
  suffix_rows path s [] h = tt
  suffix_rows path s ((t, k) ∷ rest) h =
      elim (same_text (segment t) s) as (λ v. EachAfter path (cond v ((t, k) ∷ with_suffix s rest) (with_suffix s rest))) [
        | true ↦ (h.0, suffix_rows path s rest h.1)
        | false ↦ suffix_rows path s rest h.1
      ]

  -- a suffix leaves at least one byte of the segment
  suffix_shorter : (seg best : List ℕ) (rs : RowsOf K) → ((length best ≡ 0) ⊎ (length best < length seg))
      → (length (longest_from seg best rs) ≡ 0) ⊎ (length (longest_from seg best rs) < length seg)
  suffix_shorter seg best [] h = h
  suffix_shorter seg best ((t, k) ∷ rest) h =
      suffix_shorter seg (better seg best (segment t)) rest (by (ltb (length best) (length (segment t)) && cuts seg (segment t)) refl)
    where
      by : (v : Bool) → (ltb (length best) (length (segment t)) && cuts seg (segment t)) ≡ v
          → (length (better seg best (segment t)) ≡ 0) ⊎ (length (better seg best (segment t)) < length seg)
      by true e =
          let cut = and_parts (ltb (length best) (length (segment t))) (cuts seg (segment t)) e in
          let short = ltb-true _ _ (and_parts (ltb (length (segment t)) (length seg)) (ends_with nat_eq seg (segment t)) cut.1).0 in
          inr (subst (λ v. length (cond v (segment t) best) < length seg) (sym e) short)
      by false e = subst (λ v. (length (cond v (segment t) best) ≡ 0) ⊎ (length (cond v (segment t) best) < length seg)) (sym e) h

  -- what a parameter at the front of the path goes on with
  abbrev GoesOn : List ℕ → ℕ × RowsOf K → Type 0
  GoesOn q r = EachRow (drop (r.0 - 1) q) r.1

  param_fits : (b : ℕ) (q : List ℕ) (rs : RowsOf K) → EachAfter (b ∷ q) rs → GoesOn q (param_step rs (b ∷ q))
  unfolding param_step
  param_fits b q rs h = by_suffix (ltb 0 (length suffix)) refl
    where
      path : List ℕ
      path = b ∷ q

      suffix : List ℕ
      suffix = longest_suffix (segment path) rs

      cut : ℕ
      cut = length (segment path) - length suffix

      taken : (n : ℕ) → 0 < n → has_slash (take n path) ≡ false → (some : RowsOf K) → EachAfter path some → EachRow (drop (n - 1) q) some
      taken zero pos none some rows = absurd (omega (arith, pos))
      taken (suc n) pos none some rows =
          let e : suc n - 1 ≡ n = omega arith in
          subst (λ m. EachRow (drop m q) some) (sym e) (after_rows path (suc n) none some rows)

      by_slash : (v : Bool) → has_slash path ≡ v → GoesOn q (cond {A = ℕ × RowsOf K} v (0, []) (length path, rs))
      by_slash true e = tt
      by_slash false e = taken (length path) (omega arith) (no_slash_take path (length path) e) rs h

      by_suffix : (v : Bool) → ltb 0 (length suffix) ≡ v → GoesOn q (cond {A = ℕ × RowsOf K} v
          (cut, with_suffix suffix rs) (cond (has_slash path) (0, []) (length path, rs)))
      by_suffix true e =
          let some : 0 < length suffix = ltb-true 0 (length suffix) e in
          let short : length suffix < length (segment path) = elim (suffix_shorter (segment path) [] rs (inl refl)) [
            | inl none ↦ absurd (omega (arith, some, none))
            | inr less ↦ less
          ] in
          taken cut (omega (arith, short)) (no_slash_before path cut (omega (arith, some, short))) (with_suffix suffix rs)
          (suffix_rows path suffix rs h)
      by_suffix false e = by_slash (has_slash path) refl

  pub seek_fits : (n : ℕ) (rs : RowsOf K) (path : List ℕ) → EachRow (drop n path) rs → IfKey R (seek n rs path)
  unfolding seek
  seek_fits zero rs [] h = own_fits rs h
  seek_fits (suc n) rs [] h = own_fits rs h
  seek_fits (suc n) rs (b ∷ q) h = seek_fits n rs q h
  seek_fits zero rs (b ∷ q) h =
      else_fits _ _ (seek_fits 0 (step b rs) q (step_fits b q rs h))
      (else_fits _ _ (seek_fits _ _ q (param_fits b q (step param_token rs) (param_rows (b ∷ q) rs h)))
      (no_catch_all (b ∷ q) rs h))
