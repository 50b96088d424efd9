-- The tests of equal lists of slots, by any other test of them.
use Rattle.std.proofs.Common.{◌≡◌, ◌↔◌, Bool, true, false, List, IsTrue, refl, sym, ◌∙◌, subst}
use Rattle.mr_model.specs.Slots.{Slot}
use Rattle.mr_model.specs.Writes.{same_slots}
use Rattle.mr_model.proofs.WriteTest.{same_slots-true, same_slots_refl}

same_as_itself : (a b : List Slot) → a ≡ b → same_slots a b ≡ true
same_as_itself a b e = subst (λ (x : List Slot). same_slots a x ≡ true) e (same_slots_refl a)

-- what is true of equal lists alone is the test of them
pub same_test : (a b : List Slot) (test : Bool) → (IsTrue test ↔ (a ≡ b)) → test ≡ same_slots a b
same_test a b true h = sym (same_as_itself a b (h.0 refl))
same_test a b false h = by_cases (same_slots a b) refl
  where
    by_cases : (s : Bool) → same_slots a b ≡ s → false ≡ same_slots a b
    by_cases true f = h.1 (same_slots-true a b f) ∙ sym f
    by_cases false f = sym f
