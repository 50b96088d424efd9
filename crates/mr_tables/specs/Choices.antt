-- Slots read off a text.
use Rattle.std.specs.Prelude.{◌≡◌, ◌++◌, if◌then◌else◌, List, [], ◌∷◌, flat_map, Option, Some, None, IsTrue}
use Rattle.std.specs.Borrow.{Bor}
use Rattle.std.specs.List.{AllByRecursion}
use Rattle.mr_model.specs.Texts.{Text, words, is_space}
use Rattle.mr_model.specs.Slots.{Slot, is_slot, slot_words}

-- a text that is lent, if there is one
abbrev pub lent : Option (Bor Text) → Option Text
lent None = None
lent (Some text) = Some text.now

-- what stands behind the first space, if there is one
abbrev pub after_space : Text → Option Text
after_space [] = None
after_space (c ∷ cs) = if is_space c then Some cs else after_space cs

-- the text of these slots, which are within the limits
pub record IsTextOf (text : Text) (ss : List Slot) : Type 0 where
  pub slots : AllByRecursion (λ s. IsTrue (is_slot s)) ss
  pub text_is : text ≡ words (flat_map slot_words ss)

-- the text of the slots that follow another one, if there are any
abbrev pub rest_text : List Slot → Option Text
rest_text [] = None
rest_text (s ∷ ss) = Some (words (flat_map slot_words (s ∷ ss)))

pub record IsRestOf (rest : Option Text) (ss : List Slot) : Type 0 where
  pub slots : AllByRecursion (λ s. IsTrue (is_slot s)) ss
  pub rest_is : rest ≡ rest_text ss

-- some of them are read, and what is left is the text of the others
abbrev pub IsUnderWay : List Slot → List Slot → Option Text → Type 0
IsUnderWay ss read rest = (left : List Slot) × (ss ≡ read ++ left) × IsRestOf rest left

-- the answer is that slot, and what follows is the text of these
abbrev pub GivesSlot : Option (Slot × Option (Bor Text)) → Slot → List Slot → Type 0
GivesSlot None s ss = ⊥
GivesSlot (Some x) s ss = (x.0 ≡ s) × IsRestOf (lent x.1) ss
