-- Keys as an index compares them: two are alike just if they are one.
use Rattle.std.proofs.Common.{◌≡◌, ℕ, pos, [], ◌∷◌, ◌++◌, Ordering, Less, Equal, Greater, refl, sym, ap, ◌∙◌, arith}
use Rattle.std.specs.Ordering.{ordering_then, int_cmp}
use Rattle.std.proofs.lemmas.Cmp.{tied_itself}
use Rattle.std.proofs.lemmas.Map.Lookups.{exact_bytes}
use Rattle.sqlite_value.specs.declared.value.Value.{Value}
use Rattle.sqlite_value.specs.declared.value.Value.TheVariants.{Int, Text}
use Rattle.sqlite_value.specs.Order.{Row, value_cmp}
use Rattle.sqlite_value.specs.Keys.{plain, first_key, prefix_cmp}
use Rattle.sqlite_value.proofs.OrderLemmas.{value_cmp_total, value_cmp-Int, value_cmp-Text}
use Rattle.mr_model.specs.Texts as texts
use Rattle.mr_model.specs.Writes.{Id}
use Rattle.mr_changes.specs.Found.{id_key}

then_equal : (c : Ordering) → ordering_then c Equal ≡ c
then_equal Less = refl
then_equal Equal = refl
then_equal Greater = refl

both_equal : (p q : Ordering) → ordering_then p q ≡ Equal → (p ≡ Equal) × (q ≡ Equal)
both_equal Less q h = absurd (cc)
both_equal Equal q h = (refl, h)
both_equal Greater q h = absurd (cc)

same_number : (a b : ℕ) → value_cmp (Int (pos a)) (Int (pos b)) ≡ Equal → a ≡ b
same_number a b h = go (sym (value_cmp-Int (pos a) (pos b)) ∙ h)
  where
    go : int_cmp (pos a) (pos b) ≡ Equal → a ≡ b
    go e = grind (arith)

prefix_one : (v w : Value) (rest : Row) → prefix_cmp plain (v ∷ rest) (w ∷ []) ≡ value_cmp v w
unfolding first_key
prefix_one v w rest = then_equal (value_cmp v w)

prefix_two : (v w x y : Value) (rest : Row) → prefix_cmp plain (v ∷ w ∷ rest) (x ∷ y ∷ []) ≡ ordering_then (value_cmp v x) (value_cmp w y)
unfolding first_key
prefix_two v w x y rest = ap (ordering_then (value_cmp v x)) (then_equal (value_cmp w y))

-- ---- keys of one column

pub number_alike : (a b : ℕ) (rest : Row) → prefix_cmp plain (Int (pos a) ∷ rest) (Int (pos b) ∷ []) ≡ Equal → a ≡ b
number_alike a b rest h = same_number a b (sym (prefix_one _ _ rest) ∙ h)

pub text_alike : (a b : texts.Text) (rest : Row) → prefix_cmp plain (Text a ∷ rest) (Text b ∷ []) ≡ Equal → a ≡ b
text_alike a b rest h = exact_bytes a b (sym (value_cmp-Text a b) ∙ sym (prefix_one _ _ rest) ∙ h)

pub value_same : (v : Value) (rest : Row) → prefix_cmp plain (v ∷ rest) (v ∷ []) ≡ Equal
value_same v rest = prefix_one v v rest ∙ tied_itself value_cmp_total v

-- ---- ids

pub id_alike : (a b : Id) (rest : Row) → prefix_cmp plain (id_key a ++ rest) (id_key b) ≡ Equal → a ≡ b
id_alike a b rest h =
    let both = both_equal _ _ (sym (prefix_two _ _ _ _ rest) ∙ h) in
    let server = same_number a.server b.server both.0 in
    let n = same_number a.n b.n both.1 in
    λ i. record { server = server i; n = n i }

pub id_same : (a : Id) (rest : Row) → prefix_cmp plain (id_key a ++ rest) (id_key a) ≡ Equal
id_same a rest = prefix_two _ _ _ _ rest ∙ (λ i. ordering_then (tied_itself value_cmp_total (Int (pos a.server)) i) (tied_itself value_cmp_total (Int (pos a.n)) i))
