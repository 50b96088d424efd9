-- Which refusal stands first where a request is made of its parts.
use Rattle.std.specs.Prelude.{ℕ, Bool, not, ◌&&◌, nat_le, nat_lt, List, [], ◌∷◌, length, Result}
use Rattle.mr_model.specs.Texts.{Text}
use Rattle.mr_model.specs.Slots.{Slot}
use Rattle.mr_model.specs.Writes.{is_room_name, is_title, greatest_alternatives}
use Rattle.mr_model.specs.Requests.{Request, is_length_for}
use Rattle.mr_base.specs.Answers.{unless_faulty}
use Rattle.mr_base.specs.declared.refusals.Refusal.{Refusal}
use Rattle.mr_base.specs.declared.refusals.Refusal.TheVariants.{BadLength, BadRoomName, BadTitle, TooManyAlternatives}

-- how many item lines a batch may be asked for
abbrev pub is_line_count : ℕ → Bool
is_line_count n = nat_le 1 n && nat_le n 100_000

-- the value, where the length and the number of alternatives are within the limits, else the first refusal that applies
abbrev pub limited : {T : Type 0} → ℕ → Slot → List Slot → T → Result T Refusal
limited minutes wish alternatives value =
    unless_faulty
    ((not (is_length_for minutes (wish ∷ alternatives)), BadLength)
    ∷ (nat_lt greatest_alternatives (length alternatives), TooManyAlternatives) ∷ []) value

-- the request with these words, or the first refusal that applies
abbrev pub request_of : Text → Text → ℕ → Slot → List Slot → Result Request Refusal
request_of room title minutes wish alternatives =
    unless_faulty
    ((not (is_length_for minutes (wish ∷ alternatives)), BadLength) ∷ (not (is_room_name room), BadRoomName)
    ∷ (not (is_title title), BadTitle) ∷ (nat_lt greatest_alternatives (length alternatives), TooManyAlternatives) ∷ [])
    (record { room = room; meeting = record { title = title; length = minutes; wish = wish; alternatives = alternatives } })
