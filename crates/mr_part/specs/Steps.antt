-- The steps of the definitions, for calls that get values in place of texts.
use Rattle.std.specs.Prelude.{◌≡◌, Bool, true, false, not, ◌==◌, nat_lt, if◌then◌else◌, List, [], ◌∷◌, length, None, is_none}
use Rattle.std.specs.List.{list_any}
use Rattle.mr_model.specs.Texts.{Text}
use Rattle.mr_model.specs.Calendar.{read_date, read_time}
use Rattle.mr_model.specs.Writes.{Id, Stamp, Cancels, Write, is_room_name, is_title, id_in, is_id_text, greatest_alternatives, greatest_count, greatest_time}
use Rattle.mr_model.specs.Requests.{Request, stamped}
use Rattle.mr_model.specs.Refusals.{Refusal, BadDay, BadTime, BadLength, BadRoomName, BadTitle, TooManyAlternatives, UnknownRoom, NoSuchRequest, ClockExhausted, CountExhausted, first_refusal}
use Rattle.mr_model.specs.Replica.{Replica, count_of, clock_of, knows_room}
use Rattle.mr_model.specs.Replies.{Reply}
use Rattle.mr_model.specs.View.{view_of, outcome_reply, told_of, whole_list}
use Rattle.mr_model.specs.Step.{After, Submission, refuse, step_unless, after_write, next_stamp, choice_words, meeting_of, is_bad_length, knows_booking, submit, cancel}

-- a request becomes the next write of the replica, or is refused
abbrev pub submit_request : Request → Replica → After
submit_request q r =
    step_unless r
    (first_refusal
    ((not (knows_room r q.room), UnknownRoom) ∷ (clock_of r == greatest_time, ClockExhausted)
    ∷ (count_of r r.server == greatest_count, CountExhausted) ∷ []))
    (after_write r (stamped (next_stamp r) q))

-- the outcome of the write of this id, which is of that room
abbrev pub outcome_at_room : Text → Replica → Id → Reply
outcome_at_room room r id = outcome_reply (told_of id (whole_list (view_of r room)))

-- which is of the request's room
abbrev pub outcome_in : Request → Replica → Id → Reply
outcome_in q r id = outcome_at_room q.room r id

-- ---- a submission in words

-- what may be at fault with the words
abbrev pub word_faults : Submission → List (Bool × Refusal)
word_faults s =
    (list_any (λ c. is_none (read_date c.day)) (choice_words s), BadDay)
    ∷ (list_any (λ c. is_none (read_time c.time)) (choice_words s), BadTime)
    ∷ (is_bad_length s, BadLength)
    ∷ (not (is_room_name s.room), BadRoomName)
    ∷ (not (is_title s.title), BadTitle)
    ∷ (nat_lt greatest_alternatives (length s.alternatives), TooManyAlternatives) ∷ []

-- the request with these words
abbrev pub request_in : Submission → Request
request_in s = record { room = s.room; meeting = meeting_of s }

-- a submission whose words are a request's is that request
abbrev pub SubmissionsAreRequests : Type 0
SubmissionsAreRequests = (r : Replica) (s : Submission) → first_refusal (word_faults s) ≡ None → submit r s ≡ submit_request (request_in s) r

-- ---- a cancel

-- the write of this stamp that cancels the booking with this id
abbrev pub cancel_with : Text → Id → Stamp → Write
cancel_with room id stamp = record { stamp = stamp; room = room; action = Cancels id }

-- the cancel of a booking that is known becomes the next write of the replica, or is refused
abbrev pub cancel_request : Text → Id → Replica → After
cancel_request room id r =
    step_unless r
    (first_refusal
    ((not (knows_room r room), UnknownRoom) ∷ (not (knows_booking r room id), NoSuchRequest) ∷ (clock_of r == greatest_time, ClockExhausted)
    ∷ (count_of r r.server == greatest_count, CountExhausted) ∷ []))
    (after_write r (cancel_with room id (next_stamp r)))

-- a cancel whose words are a room's name and an id is that of this id
abbrev pub CancelsAreRequests : Type 0
CancelsAreRequests =
    (r : Replica) (room id : Text) → is_room_name room ≡ true → is_id_text id ≡ true → cancel r room id ≡ cancel_request room (id_in id) r

-- where the second is no id, it is refused
abbrev pub OtherCancelsAreRefused : Type 0
OtherCancelsAreRefused =
    (r : Replica) (room id : Text) → is_room_name room ≡ true → is_id_text id ≡ false
    → cancel r room id ≡ refuse r (if knows_room r room then NoSuchRequest else UnknownRoom)
