-- What a request asks, with the readings of the libraries.
use Rattle.std.specs.Prelude.{◌≡◌, ℕ, Bool, List, Option, Some, None, Result, Ok, Err, not, if◌then◌else◌, ◌==◌, nat_lt, length, take, bytes_eq, ok_or}
use Rattle.httparse.specs.Grammar.{RequestHead}
use Rattle.mr_model.specs.Texts.{Text}
use Rattle.mr_model.specs.Replica.{Replica}
use Rattle.mr_model.specs.Step.{Command}
use Rattle.mr_model.specs.Http.{Head, Field, Readings, Route, Response, Served, Asked, Faulty, Runs, is_post, method_name, command_of, body_length, greatest_body, bad_request, not_found, too_large, not_allowed, asked as asked_of}
use Rattle.mr_http.specs.Heads.{IsHead, HasNoHead}
use Rattle.mr_http.specs.HeaderFields.{fields_of}
use Rattle.mr_web.specs.Cancellations.{cancellation_of}
use Rattle.mr_web.specs.Routes.{route_of}
use Rattle.mr_web.specs.Submissions.{submission_in_body}

-- ---- readings

-- a head as the definitions speak of it, with what stands behind it
abbrev pub head_of : RequestHead → Text → Head
head_of h rest =
    record {
      method = h.method;
      target = h.target;
      is_version_1_1 = h.minor == 1;
      fields = fields_of h.fields;
      behind = rest;
    }

-- the head at the front of an input, or that none is there
abbrev pub ReadsHead : Text → Option Head → Type 0
ReadsHead input None = HasNoHead input
ReadsHead input (Some head) = (h : RequestHead) × (rest : Text) × IsHead input h rest × (head ≡ head_of h rest)

-- the readings of the libraries, where this is the head of the input at hand
abbrev pub readings : Option Head → Readings
readings head = record { head = λ input. head; route = route_of; submission = submission_in_body; cancellation = cancellation_of }

-- the input is served, with the readings of the libraries
abbrev pub IsInputServed : Text → Replica → Text → ℕ → Replica → Type 0
IsInputServed input old output status new = (head : Option Head) × ReadsHead input head × Served (readings head) input old output status new

-- what the input asks
abbrev pub Asks : Text → Asked → Type 0
Asks input asked = (head : Option Head) × ReadsHead input head × (asked ≡ asked_of (readings head) input)

-- ---- the checks of a head, in their order

-- the length of a body, or what is at fault with it
abbrev pub limited_length : Option ℕ → Result ℕ Response
limited_length None = Err bad_request
limited_length (Some n) = if nat_lt greatest_body n then Err too_large else Ok n

-- the length of the body, or what is at fault with the method, the fields or the length
abbrev pub checked : Bool → Text → List Field → Result ℕ Response
checked post method fields =
    if not (bytes_eq method (method_name post)) then Err (not_allowed (method_name post)) else limited_length (body_length post fields)

abbrev pub with_route : Route → Result ℕ Response → Result (Route × ℕ) Response
with_route route (Err f) = Err f
with_route route (Ok n) = Ok (route, n)

-- the route and the length of the body, or the first fault
abbrev pub head_asks : Option Route → Text → List Field → Result (Route × ℕ) Response
head_asks None method fields = Err not_found
head_asks (Some route) method fields = with_route route (checked (is_post route) method fields)

abbrev pub asked_by : RequestHead → Result (Route × ℕ) Response
asked_by h = head_asks (route_of h.target) h.method (fields_of h.fields)

-- ---- the body

-- the body, or that it ends early
abbrev pub body_in : ℕ → Text → Result Text Response
body_in n rest = if nat_lt (length rest) n then Err bad_request else Ok (take n rest)

-- the command of a route with this body
abbrev pub command_in : Route → Text → Result Command Response
command_in route body = ok_or (command_of (readings None) route body) bad_request

abbrev pub as_asked : Result Command Response → Asked
as_asked (Err f) = Faulty f
as_asked (Ok c) = Runs c

abbrev pub after_body : Route → Result Text Response → Result Command Response
after_body route (Err f) = Err f
after_body route (Ok body) = command_in route body

abbrev pub after_head : Text → Result (Route × ℕ) Response → Result Command Response
after_head rest (Err f) = Err f
after_head rest (Ok a) = after_body a.0 (body_in a.1 rest)
