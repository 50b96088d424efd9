-- The order of names.
use Rattle.std.proofs.Common.{◌≡◌, ◌||◌, ◌&&◌, ◌==◌, nat_lt, arith, Bool, true, false, [], ◌∷◌, ap, refl, sym, ◌∙◌}
use Rattle.std.specs.Ordering.{is_lt, nat_cmp, ordering_then}
use Rattle.std.specs.declared.cmp.Ordering.{Ordering}
use Rattle.std.specs.declared.cmp.Ordering.TheVariants.{Less, Equal, Greater}
use Rattle.std.specs.Cmp.{nat_cmp_is}
use Rattle.std.proofs.lemmas.Bool.Decides.{nat_tests}
use Rattle.std.specs.Cmp.Lexicographic.{slice_cmp}
use Rattle.mr_model.specs.Texts.{Text}
use Rattle.mr_model.specs.Replica.{text_before}

-- the order of names is that of lists of bytes
pub before-cmp : (a b : Text) → is_lt (slice_cmp nat_cmp a b) ≡ text_before a b
before-cmp [] [] = refl
before-cmp [] (d ∷ ds) = refl
before-cmp (c ∷ cs) [] = refl
before-cmp (c ∷ cs) (d ∷ ds) = go (nat_lt c d) refl (c == d) refl (before-cmp cs ds)
  where
    at : (o : Ordering) → o ≡ nat_cmp c d → is_lt (ordering_then (nat_cmp c d) (slice_cmp nat_cmp cs ds)) ≡ is_lt (ordering_then o (slice_cmp nat_cmp cs ds))
    at o e = ap (λ x. is_lt (ordering_then x (slice_cmp nat_cmp cs ds))) (sym e)

    go : (b : Bool) → nat_lt c d ≡ b → (e : Bool) → (c == d) ≡ e → is_lt (slice_cmp nat_cmp cs ds) ≡ text_before cs ds
        → is_lt (ordering_then (nat_cmp c d) (slice_cmp nat_cmp cs ds)) ≡ (nat_lt c d || (c == d && text_before cs ds))
    go true p e q rest = at Less (nat_cmp_is c d Less (grind (arith, nat_tests))) ∙ ap (λ x. x || (c == d && text_before cs ds)) (sym p)
    go false p true q rest = at Equal (nat_cmp_is c d Equal (grind (arith, nat_tests))) ∙ rest ∙ (λ i. sym p i || (sym q i && text_before cs ds))
    go false p false q rest = at Greater (nat_cmp_is c d Greater (grind (arith, nat_tests))) ∙ (λ i. sym p i || (sym q i && text_before cs ds))
