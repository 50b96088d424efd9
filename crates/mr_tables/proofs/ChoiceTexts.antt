-- The text of choices, written slot by slot.
use Rattle.std.proofs.Common.{◌≡◌, sym, ap, ◌∙◌, List, [], ◌∷◌, ◌++◌, append_assoc, append-nil}
use Rattle.std.specs.Prelude.{flat_map}
use Rattle.mr_model.specs.Texts.{Text, words}
use Rattle.mr_model.specs.Calendar.{date_text, time_text}
use Rattle.mr_model.specs.Slots.{Slot, slot_words}
use Rattle.mr_tables.specs.ExecutionRows.{slot_text, more_slots}

behind_word : (t : Text) (ss : List Slot) → words (t ∷ flat_map slot_words ss) ≡ t ++ more_slots ss
behind_word t [] = sym (append-nil t)
behind_word t (s ∷ ss) =
    ap (λ (u : Text). t ++ 32 ∷ (date_text s.day ++ 32 ∷ u)) (behind_word (time_text s.start) ss)
    ∙ ap (λ (u : Text). t ++ 32 ∷ u) (sym (append_assoc (date_text s.day) (32 ∷ time_text s.start) (more_slots ss)))

pub choices-text : (wish : Slot) (others : List Slot) → words (flat_map slot_words (wish ∷ others)) ≡ slot_text wish ++ more_slots others
choices-text wish others =
    ap (λ (u : Text). date_text wish.day ++ 32 ∷ u) (behind_word (time_text wish.start) others)
    ∙ sym (append_assoc (date_text wish.day) (32 ∷ time_text wish.start) (more_slots others))
