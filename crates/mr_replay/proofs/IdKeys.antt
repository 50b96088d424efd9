-- Ids as keys: their order tells them apart just as the test of the definitions does.
use Rattle.std.proofs.Common.{◌≡◌, ℕ, Bool, true, ap, refl, sym, ◌∙◌, subst}
use Rattle.std.specs.BTreeMap.{is_at}
use Rattle.std.specs.Cmp.{IsTotalOrder, IsEquivalence, nat_cmp_total, eq_by_cmp_equiv}
use Rattle.std.specs.declared.cmp.Ordering.{Ordering}
use Rattle.std.specs.declared.cmp.Ordering.TheVariants.{Less, Equal, Greater}
use Rattle.std.specs.Ordering.{nat_cmp, is_eq, is_lt}
use Rattle.std.proofs.lemmas.Cmp.{on_total, then_total}
use Rattle.std.proofs.lemmas.Map.Lookups.{CmpEqualImpliesEq, exact_pairs, exact_unsigned}
use Rattle.mr_model.specs.Writes.{Id, same_id}
use Rattle.mr_model.proofs.Members.{same_id-true, same_id_from}
use Rattle.mr_model.proofs.MembersAlike.{bool_same}
use Rattle.mr_base.specs.Ids.{id_cmp}

-- ids that compare alike are one
pub exact_ids : CmpEqualImpliesEq id_cmp
exact_ids a b h = ap (λ (p : ℕ × ℕ). record { server = p.0; n = p.1 }) (exact_pairs nat_cmp nat_cmp exact_unsigned exact_unsigned (a.server, a.n) (b.server, b.n) h)

-- ids are in a total order, by server and then by number
pub ids_total : IsTotalOrder id_cmp
ids_total = then_total (on_total (λ (i : Id). i.server) nat_cmp_total) (on_total (λ (i : Id). i.n) nat_cmp_total)

-- the order's own test of equal keys
abbrev pub at : Id → Id → Bool
at i j = is_at (id_cmp i) j

pub at_equivalence : IsEquivalence at
at_equivalence = eq_by_cmp_equiv ids_total

pub is_eq-Equal : (o : Ordering) → is_eq o ≡ true → o ≡ Equal
is_eq-Equal Less e = let never : ⊥ = cc in absurd never
is_eq-Equal Equal e = refl
is_eq-Equal Greater e = let never : ⊥ = cc in absurd never

pub is_lt-Less : (o : Ordering) → is_lt o ≡ true → o ≡ Less
is_lt-Less Less e = refl
is_lt-Less Equal e = let never : ⊥ = cc in absurd never
is_lt-Less Greater e = let never : ⊥ = cc in absurd never

pub at_one : (i j : Id) → at i j ≡ true → i ≡ j
at_one i j e = exact_ids i j (is_eq-Equal (id_cmp i j) e)

at_same : (i j : Id) → at i j ≡ same_id i j
at_same i j = bool_same (at i j) (same_id i j) (λ e. same_id_from i j (at_one i j e)) (λ e. ap (λ k. at i k) (sym (same_id-true i j e)) ∙ at_equivalence.refl i)

-- it is the test of the definitions
pub at_is : at ≡ same_id
at_is t i j = at_same i j t

pub same_id_equivalence : IsEquivalence same_id
same_id_equivalence = subst (λ (f : Id → Id → Bool). IsEquivalence f) at_is at_equivalence
