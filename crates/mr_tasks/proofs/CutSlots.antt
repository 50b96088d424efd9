-- Slots that are cut off a text one after the other.
use Rattle.std.proofs.Common.{◌≡◌, refl, sym, ap, ◌∙◌, ℕ, suc, List, [], ◌∷◌, ◌++◌, Option, Some, None, append_assoc, append-nil}
use Rattle.mr_model.specs.Texts.{Text}
use Rattle.mr_model.specs.Step.{SlotWords}
use Rattle.mr_wire.specs.Fields.{◌>>=◌}
use Rattle.mr_tasks.specs.LineSteps.{cut_slot, with_slot, cut_slots}

-- what comes of cutting more slots off, where these were cut off before
abbrev pub behind_slots : List SlotWords → Option (List SlotWords × Text) → Option (List SlotWords × Text)
behind_slots before o = o >>= λ p. Some (before ++ p.0, p.1)

behind_none : (o : Option (List SlotWords × Text)) → o ≡ behind_slots [] o
behind_none None = refl
behind_none (Some p) = refl

behind_one : (before : List SlotWords) (s : SlotWords) (o : Option (List SlotWords × Text)) → behind_slots before (with_slot s o) ≡ behind_slots (before ++ s ∷ []) o
behind_one before s None = refl
behind_one before s (Some p) = ap (λ (ss : List SlotWords). Some (ss, p.1)) (sym (append_assoc before (s ∷ []) p.0))

pub slots_begun : (k m : ℕ) (t : Text) (before : List SlotWords) → before ≡ [] → m ≡ k → cut_slots k t ≡ behind_slots before (cut_slots m t)
slots_begun k m t before none same =
    behind_none (cut_slots k t) ∙ ap (λ i. behind_slots [] (cut_slots i t)) (sym same) ∙ ap (λ (ss : List SlotWords). behind_slots ss (cut_slots m t)) (sym none)

pub slots_more : (m n : ℕ) (t rest : Text) (s : SlotWords) (before after : List SlotWords) (whole : Option (List SlotWords × Text)) → m ≡ suc n
    → whole ≡ behind_slots before (cut_slots m t) → cut_slot t ≡ Some (s, rest) → after ≡ before ++ s ∷ [] → whole ≡ behind_slots after (cut_slots n rest)
slots_more m n t rest s before after whole next e found grown =
    e ∙ ap (λ i. behind_slots before (cut_slots i t)) next
    ∙ ap (λ (o : Option (SlotWords × Text)). behind_slots before (o >>= λ p. with_slot p.0 (cut_slots n p.1))) found
    ∙ behind_one before s (cut_slots n rest) ∙ ap (λ (ss : List SlotWords). behind_slots ss (cut_slots n rest)) (sym grown)

pub slots_none : (m n : ℕ) (t : Text) (before : List SlotWords) (whole : Option (List SlotWords × Text)) → m ≡ suc n
    → whole ≡ behind_slots before (cut_slots m t) → cut_slot t ≡ None → whole ≡ None
slots_none m n t before whole next e nothing =
    e ∙ ap (λ i. behind_slots before (cut_slots i t)) next
    ∙ ap (λ (o : Option (SlotWords × Text)). behind_slots before (o >>= λ p. with_slot p.0 (cut_slots n p.1))) nothing

pub slots_all : (m : ℕ) (t : Text) (before : List SlotWords) (whole : Option (List SlotWords × Text)) → m ≡ 0
    → whole ≡ behind_slots before (cut_slots m t) → whole ≡ Some (before, t)
slots_all m t before whole ended e =
    e ∙ ap (λ i. behind_slots before (cut_slots i t)) ended ∙ ap (λ (ss : List SlotWords). Some (ss, t)) (append-nil before)
