-- What writers append, piece by piece.
use Rattle.std.specs.Prelude.{List, [], ◌∷◌, ◌++◌, length, codes, decimal, flat_map}
use Rattle.mr_model.specs.Texts.{Text}
use Rattle.mr_model.specs.Calendar.{date_text, time_text}
use Rattle.mr_model.specs.Slots.{Slot}
use Rattle.mr_model.specs.Writes.{Id, Stamp, Meeting, Action, Books, Cancels, Write}

-- a slot's day and time, each with a space behind it
unfoldable pub slot_front : Slot → Text
slot_front s = date_text s.day ++ 32 ∷ (time_text s.start ++ 32 ∷ [])

abbrev pub slots_front : List Slot → Text
slots_front ss = flat_map slot_front ss

-- a write's line up to its room
unfoldable pub front_text : Text → Stamp → Text → Text
front_text word stamp room =
    word ++ 32 ∷ (decimal stamp.server ++ 32 ∷ (decimal stamp.n ++ 32 ∷ (decimal stamp.time ++ 32 ∷ room)))

-- a booking's choices, up to its title
unfoldable pub choices_front : Slot → List Slot → Text
choices_front wish others = slot_front wish ++ (decimal (length others) ++ 32 ∷ slots_front others)

-- what stands behind the room of a booking, with its LF
unfoldable pub meeting_text : Meeting → Text
meeting_text m = 32 ∷ (decimal m.length ++ 32 ∷ (choices_front m.wish m.alternatives ++ (m.title ++ 10 ∷ [])))

-- what stands behind the room of a cancel, with its LF
unfoldable pub target_text : Id → Text
target_text t = 32 ∷ (decimal t.server ++ 32 ∷ (decimal t.n ++ 10 ∷ []))

-- the first word of a write's line
abbrev pub action_word : Action → Text
action_word (Books m) = codes "W"
action_word (Cancels t) = codes "X"

abbrev pub action_text : Action → Text
action_text (Books m) = meeting_text m
action_text (Cancels t) = target_text t

-- all of it
unfoldable pub write_text : Write → Text
write_text w = front_text (action_word w.action) w.stamp w.room ++ action_text w.action
