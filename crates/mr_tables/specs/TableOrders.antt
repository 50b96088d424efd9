-- Rows in the order of their keys, and the orders of keys.
use Rattle.std.proofs.Common.{◌≡◌, refl, sym, ◌∙◌, ℕ, ◌<◌, Bool, true, false, ◌&&◌, eqb, ltb, List, [], ◌∷◌, ◌⊎◌, inl, inr, arith, lt-ltb, ltb-true, eq-eqb, eqb-true}
use Rattle.std.proofs.lemmas.Bool.{true≢false, and_parts, and_from, or_cases, or_left, or_right, cases_order}
use Rattle.std.proofs.lemmas.Slice.Eq.{bytes_eq-Decides}
use Rattle.std.specs.Str.{bytes_eq}
use Rattle.mr_model.specs.Texts.{Text}
use Rattle.mr_model.specs.Writes.{Id}
use Rattle.mr_model.specs.Replica.{text_before}
use Rattle.mr_model.specs.Changes.{IdBefore}
use Rattle.mr_model.proofs.Members.{Sorted}
use Rattle.mr_model.proofs.OrderedSets.{name_trans, name_total}
use Rattle.mr_tables.specs.Change.{id_before}

-- a test that orders keys: no key is before itself, and of two different ones one is before the other
pub record IsOrder (K : Type 0) (before : K → K → Bool) : Type 0 where
  pub irreflexive : (a : K) → before a a ≡ true → ⊥
  pub transitive : (a b c : K) → before a b ≡ true → before b c ≡ true → before a c ≡ true
  pub total : (a b : K) → before a b ≡ false → before b a ≡ false → a ≡ b

-- rows in the order of their keys
abbrev pub InOrder : {R K : Type 0} → (K → K → Bool) → (R → K) → List R → Type 0
InOrder before key rows = Sorted (λ x y. before (key x) (key y) ≡ true) rows

-- ---- the orders of keys

pub id_before-true : (a b : Id) → id_before a b ≡ true → IdBefore a b
id_before-true a b h = go (or_cases (ltb a.server b.server) (eqb a.server b.server && ltb a.n b.n) h)
  where
    go : (ltb a.server b.server ≡ true) ⊎ ((eqb a.server b.server && ltb a.n b.n) ≡ true) → IdBefore a b
    go (inl e) = inl (ltb-true a.server b.server e)
    go (inr e) = let p = and_parts (eqb a.server b.server) (ltb a.n b.n) e in inr (eqb-true a.server b.server p.0, ltb-true a.n b.n p.1)

pub id_before_from : (a b : Id) → IdBefore a b → id_before a b ≡ true
id_before_from a b (inl l) = or_left (ltb a.server b.server) (eqb a.server b.server && ltb a.n b.n) (lt-ltb a.server b.server l)
id_before_from a b (inr p) =
    or_right (ltb a.server b.server) (eqb a.server b.server && ltb a.n b.n) (and_from (eqb a.server b.server) (ltb a.n b.n) (eq-eqb a.server b.server p.0) (lt-ltb a.n b.n p.1))

pub id_order : IsOrder Id id_before
id_order = record { irreflexive = irreflexive; transitive = transitive; total = total }
  where
    irreflexive : (a : Id) → id_before a a ≡ true → ⊥
    irreflexive a h = go (id_before-true a a h)
      where
        go : IdBefore a a → ⊥
        go (inl l) = omega (arith, l)
        go (inr p) = omega (arith, p.1)

    transitive : (a b c : Id) → id_before a b ≡ true → id_before b c ≡ true → id_before a c ≡ true
    transitive a b c h g = id_before_from a c (go (id_before-true a b h) (id_before-true b c g))
      where
        go : IdBefore a b → IdBefore b c → IdBefore a c
        go (inl p) (inl q) = inl (omega (arith, p, q))
        go (inl p) (inr q) = inl (let e = q.0 in omega (arith, p, e))
        go (inr p) (inl q) = inl (let e = p.0 in omega (arith, q, e))
        go (inr p) (inr q) = inr (p.0 ∙ q.0, omega (arith, p.1, q.1))

    total : (a b : Id) → id_before a b ≡ false → id_before b a ≡ false → a ≡ b
    total a b h g = go (cases_order a.server b.server)
      where
        counts : a.server ≡ b.server → (a.n ≡ b.n) ⊎ ((a.n < b.n) ⊎ (b.n < a.n)) → a ≡ b
        counts s (inl n) = λ i. record { server = s i; n = n i }
        counts s (inr (inl l)) = absurd (true≢false (sym (id_before_from a b (inr (s, l))) ∙ h))
        counts s (inr (inr l)) = absurd (true≢false (sym (id_before_from b a (inr (sym s, l))) ∙ g))

        go : (a.server ≡ b.server) ⊎ ((a.server < b.server) ⊎ (b.server < a.server)) → a ≡ b
        go (inl s) = counts s (cases_order a.n b.n)
        go (inr (inl l)) = absurd (true≢false (sym (id_before_from a b (inl l)) ∙ h))
        go (inr (inr l)) = absurd (true≢false (sym (id_before_from b a (inl l)) ∙ g))

pub number_order : IsOrder ℕ ltb
number_order = record { irreflexive = λ a h. let l : a < a = ltb-true a a h in omega (arith, l); transitive = transitive; total = total }
  where
    transitive : (a b c : ℕ) → ltb a b ≡ true → ltb b c ≡ true → ltb a c ≡ true
    transitive a b c h g = let l = ltb-true a b h in let m = ltb-true b c g in lt-ltb a c (omega (arith, l, m))

    total : (a b : ℕ) → ltb a b ≡ false → ltb b a ≡ false → a ≡ b
    total a b h g = go (cases_order a b)
      where
        go : (a ≡ b) ⊎ ((a < b) ⊎ (b < a)) → a ≡ b
        go (inl e) = e
        go (inr (inl l)) = absurd (true≢false (sym (lt-ltb a b l) ∙ h))
        go (inr (inr l)) = absurd (true≢false (sym (lt-ltb b a l) ∙ g))

pub name_order : IsOrder Text text_before
name_order = record { irreflexive = irreflexive; transitive = name_trans; total = total }
  where
    irreflexive : (t : Text) → text_before t t ≡ true → ⊥
    irreflexive [] h = true≢false (sym h)
    irreflexive (c ∷ cs) h = go (or_cases (ltb c c) (eqb c c && text_before cs cs) h) (irreflexive cs)
      where
        go : (ltb c c ≡ true) ⊎ ((eqb c c && text_before cs cs) ≡ true) → (text_before cs cs ≡ true → ⊥) → ⊥
        go (inl e) ih = let l : c < c = ltb-true c c e in omega (arith, l)
        go (inr e) ih = ih (and_parts (eqb c c) (text_before cs cs) e).1

    total : (a b : Text) → text_before a b ≡ false → text_before b a ≡ false → a ≡ b
    total a b h g = go (bytes_eq a b) refl
      where
        go : (c : Bool) → bytes_eq a b ≡ c → a ≡ b
        go true e = (bytes_eq-Decides a b).0 e
        go false e = absurd (true≢false (sym (name_total a b h (λ s. true≢false (sym ((bytes_eq-Decides a b).1 s) ∙ e))) ∙ g))
