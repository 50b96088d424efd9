-- A submission in words, read as a request.
use Rattle.std.specs.Prelude.{ℕ, max, Bool, List, [], ◌∷◌, Option, Some, None, option_and_then, is_none, Result, Ok, Err}
use Rattle.mr_model.specs.Calendar.{read_date, read_time}
use Rattle.mr_model.specs.Requests.{Request}
use Rattle.mr_model.specs.Refusals.{Refusal, first_refusal}
use Rattle.mr_model.specs.Step.{SlotWords, Submission}
use Rattle.mr_part.specs.Steps.{word_faults, request_in}

-- the value, unless something is refused
abbrev pub ok_unless : {T : Type 0} → Option Refusal → T → Result T Refusal
ok_unless (Some e) value = Err e
ok_unless None value = Ok value

-- the day, or the time, of a choice can't be read
abbrev pub lacks_day : SlotWords → Bool
lacks_day c = is_none (read_date c.day)

abbrev pub lacks_time : SlotWords → Bool
lacks_time c = is_none (read_time c.time)

-- the latest of this start and those of the choices, where each time can be read
abbrev pub latest_from : ℕ → List SlotWords → Option ℕ
latest_from latest [] = Some latest
latest_from latest (c ∷ cs) = option_and_then (λ start. latest_from (max latest start) cs) (read_time c.time)

abbrev pub latest_start : Submission → Option ℕ
latest_start s = option_and_then (λ start. latest_from start s.alternatives) (read_time s.wish.time)

-- the request with these words, or the smallest fault of the words
abbrev pub request_or_fault : Submission → Result Request Refusal
request_or_fault s = ok_unless (first_refusal (word_faults s)) (request_in s)
