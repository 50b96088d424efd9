-- Submissions: JSON objects with exactly the members of one.
use Rattle.std.specs.Prelude.{ℕ, List, [], ◌∷◌, Option, Some, None, codes, decimal, if◌then◌else◌, ◌==◌, option_and_then, option_map}
use Rattle.serde_json.specs.Data.{Data, Items, no_items, item}
use Rattle.serde_json.specs.Find.{get, as_number, as_u64, as_array}
use Rattle.mr_model.specs.Texts.{Text}
use Rattle.mr_model.specs.Step.{Submission, SlotWords}
use Rattle.mr_web.specs.JsonBodies.{json_of, members_in, text_at}

abbrev pub number_member : Text → Data → Option ℕ
number_member key d = option_and_then as_u64 (option_and_then as_number (get key d))

-- ---- alternatives

abbrev pub slot_with : Option Text → Option Text → Option SlotWords
slot_with None time = None
slot_with (Some day) None = None
slot_with (Some day) (Some time) = Some (record { day = day; time = time })

-- a slot is an object of a day and a start, and nothing else
abbrev pub slot_in_json : Data → Option SlotWords
slot_in_json d = if members_in d == 2 then slot_with (text_at (codes "day") d) (text_at (codes "start") d) else None

abbrev pub slot_before : Option SlotWords → Option (List SlotWords) → Option (List SlotWords)
slot_before None more = None
slot_before (Some s) None = None
slot_before (Some s) (Some more) = Some (s ∷ more)

-- a list of slots
abbrev pub slots_of : Items → Option (List SlotWords)
slots_of no_items = Some []
slots_of (item d ds) = slot_before (slot_in_json d) (slots_of ds)

-- a submission names alternatives, or it has none
abbrev pub alternatives_of : Option Data → Option (List SlotWords)
alternatives_of None = Some []
alternatives_of (Some d) = option_and_then slots_of (as_array d)

-- ---- submissions

-- what a submission says beside its alternatives
pub record Wish : Type 0 where
  pub room : Text
  pub title : Text
  pub minutes : ℕ
  pub day : Text
  pub time : Text

abbrev pub wish_of : Data → Option Wish
wish_of d =
    option_and_then (λ room.
    option_and_then (λ title.
    option_and_then (λ minutes.
    option_and_then (λ day.
    option_map (λ time. record { room = room; title = title; minutes = minutes; day = day; time = time })
    (text_at (codes "start") d))
    (text_at (codes "day") d))
    (number_member (codes "length") d))
    (text_at (codes "title") d))
    (text_at (codes "room") d)

-- five members, and a sixth where there are alternatives
abbrev pub members_wanted : Option Data → ℕ
members_wanted None = 5
members_wanted (Some d) = 6

abbrev pub submitted : Wish → List SlotWords → Submission
submitted w slots =
    record {
      room = w.room;
      title = w.title;
      length = decimal w.minutes;
      wish = record { day = w.day; time = w.time };
      alternatives = slots;
    }

abbrev pub submission_with : Option Wish → Option (List SlotWords) → Option Submission
submission_with None slots = None
submission_with (Some w) None = None
submission_with (Some w) (Some slots) = Some (submitted w slots)

abbrev pub submission_in : Data → Option Submission
submission_in d =
    if members_in d == members_wanted (get (codes "alternatives") d)
    then submission_with (wish_of d) (alternatives_of (get (codes "alternatives") d)) else None

-- the submission that a body is, as the library reads it
abbrev pub submission_in_body : Text → Option Submission
submission_in_body body = option_and_then submission_in (json_of body)
