-- The rows of writes that follow each other in the order of execution, told by their numbers in it and by their places.
use Rattle.std.specs.Prelude.{ℕ, ◌+◌, if◌then◌else◌, nat_le, List, [], ◌∷◌, flat_map, Option}
use Rattle.mr_model.specs.Texts.{Text, words}
use Rattle.mr_model.specs.Slots.{Slot, slot_words}
use Rattle.mr_model.specs.Writes.{Id, Write}
use Rattle.mr_model.specs.Tables.{LogRow, PlaceRow, log_row_with, place_row_for}
use Rattle.mr_replay.specs.Places.{UndoRow}

-- the commit number of the write that is the k-th of the order: 0 where it is tentative
abbrev pub seq_on : ℕ → ℕ → ℕ
seq_on commits k = if nat_le k commits then k else 0

-- ---- the rows of the k-th write, at the place that undoes it, with the cancel that took it back

abbrev pub log_row_on : ℕ → ℕ → Write → UndoRow → LogRow
log_row_on commits k w u = log_row_with w u.place (seq_on commits k)

abbrev pub place_row_on : ℕ → ℕ → Write → UndoRow → Option Id → PlaceRow
place_row_on commits k w u by = place_row_for w w.action u.place by (nat_le k commits) (seq_on commits k)

-- ---- writes that follow each other, the first of them being the k-th

abbrev pub log_rows : ℕ → ℕ → List Write → List UndoRow → List LogRow
log_rows commits k [] us = []
log_rows commits k (w ∷ ws) [] = []
log_rows commits k (w ∷ ws) (u ∷ us) = log_row_on commits k w u ∷ log_rows commits (k + 1) ws us

abbrev pub place_rows : ℕ → ℕ → List Write → List UndoRow → List (Option Id) → List PlaceRow
place_rows commits k [] us bys = []
place_rows commits k (w ∷ ws) [] bys = []
place_rows commits k (w ∷ ws) (u ∷ us) [] = []
place_rows commits k (w ∷ ws) (u ∷ us) (by ∷ bys) = place_row_on commits k w u by ∷ place_rows commits (k + 1) ws us bys

-- ---- choices

-- the text of a slot
abbrev pub slot_text : Slot → Text
slot_text s = words (slot_words s)

-- slots behind another, each with a space in front
abbrev pub more_slots : List Slot → Text
more_slots ss = flat_map (λ s. 32 ∷ slot_text s) ss
