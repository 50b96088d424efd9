-- What the code's values mean.
use Rattle.std.specs.Prelude.{◌≡◌, ◌⊎◌, ◌++◌, ℕ, List, map, Option, Some, None, Result, Ok, Err, take}
use Rattle.std.specs.Io.KnownBytes.{Appends, Keeps}
use Rattle.std.specs.String.{string_bytes}
use Rattle.mr_model.specs.Texts.{Text}
use Rattle.mr_model.specs.Replica.{Replica}
use Rattle.mr_model.specs.Tables.{Tables, Stands}
use Rattle.mr_model.specs.Step as model
use Rattle.mr_model.specs.Http.{Route, Response, Faulty, Runs, bad_request, not_found, not_allowed, too_large, method_name, response_text}
use Rattle.mr_http.specs.declared.faults.ReadFault.{ReadFault}
use Rattle.mr_http.specs.declared.faults.ReadFault.TheVariants as read
use Rattle.mr_http.specs.declared.faults.WebFault.{WebFault}
use Rattle.mr_http.specs.declared.faults.WebFault.TheVariants as fault
use Rattle.mr_service.specs.declared.commands.Command.{Command}
use Rattle.mr_service.specs.declared.commands.SlotWords.{SlotWords}
use Rattle.mr_service.specs.Asked.{command_seen, words_of}
use Rattle.mr_web.specs.RequestAsks.{IsInputServed, Asks}
use Rattle.mr_web.specs.Submissions.{Wish}
use Rattle.mr_web.specs.RouteViews.{route_view}
use Rattle.mr_web.specs.declared.cancellations.CancelWords.{CancelWords}
use Rattle.mr_web.specs.declared.checks.CheckedHead.{CheckedHead}
use Rattle.mr_web.specs.declared.rejections.Rejection.{Rejection}
use Rattle.mr_web.specs.declared.rejections.Rejection.TheVariants as rejection
use Rattle.mr_web.specs.declared.rejections.Stop.{Stop}
use Rattle.mr_web.specs.declared.rejections.Stop.TheVariants as stop
use Rattle.mr_web.specs.declared.replies.Answer.{Answer}
use Rattle.mr_web.specs.declared.replies.Bytes.{Bytes}
use Rattle.mr_web.specs.declared.replies.Bytes.TheVariants as bytes
use Rattle.mr_web.specs.declared.submissions.WishMembers.{WishMembers}

-- ---- checks

-- the response to the first check that fails
abbrev pub response_to : Rejection → Response
response_to rejection.BadRequest = bad_request
response_to rejection.NotFound = not_found
response_to (rejection.NotAllowed post) = not_allowed (method_name post)
response_to rejection.TooLarge = too_large

-- what a function returned is what the checks give, unless memory ran out
abbrev pub FailsAs : {Y : Type 0} → Stop → Result Y Response → Type 0
FailsAs (stop.Fault read.Read) expected = ⊥
FailsAs (stop.Fault read.Memory) expected = Unit {0}
FailsAs (stop.Rejected r) expected = expected ≡ Err (response_to r)

abbrev pub GivesView : {X Y : Type 0} → (X → Y) → Result X Stop → Result Y Response → Type 0
GivesView view (Ok x) expected = expected ≡ Ok (view x)
GivesView view (Err e) expected = FailsAs e expected

abbrev pub asked_view : CheckedHead → Route × ℕ
asked_view a = (route_view a.route, a.length)

-- ---- submissions

abbrev pub wish_view : WishMembers → Wish
wish_view w = record { room = w.room.now; title = w.title.now; minutes = w.minutes; day = w.day.now; time = w.time.now }

abbrev pub slots_view : List SlotWords → List model.SlotWords
slots_view slots = map words_of slots

-- the slots are added behind those that were there, or what was read is no list of slots, unless memory ran out
abbrev pub AddsSlots : Option (List model.SlotWords) → List SlotWords → List SlotWords → Result (Unit {0}) Stop → Type 0
AddsSlots slots old new (Ok u) = (more : List model.SlotWords) × (slots ≡ Some more) × (slots_view new ≡ slots_view old ++ more)
AddsSlots slots old new (Err (stop.Fault read.Read)) = ⊥
AddsSlots slots old new (Err (stop.Fault read.Memory)) = Unit {0}
AddsSlots slots old new (Err (stop.Rejected r)) = (slots ≡ None) × (r ≡ rejection.BadRequest)

-- ---- cancellations

abbrev pub cancellation_view : CancelWords → Text × Text
cancellation_view c = (string_bytes c.room, string_bytes c.id)

-- ---- replies

abbrev pub bytes_view : Bytes → Text
bytes_view (bytes.Made v) = v.items
bytes_view (bytes.Fixed b) = b.now

-- the answer tells the response
abbrev pub IsAnswerOf : Response → Answer → Type 0
IsAnswerOf response a = (bytes_view a.bytes ≡ response_text response) × (a.status ≡ response.status)

-- ---- one request

-- what reading a request tells of the input
abbrev pub Settles : Text → Result Command Stop → Type 0
Settles input (Ok c) = Asks input (Runs (command_seen c))
Settles input (Err (stop.Rejected r)) = Asks input (Faulty (response_to r))
Settles input (Err (stop.Fault f)) = Unit {0}

-- the answer to a request that asks no command, where there is one
abbrev pub StopsWith : Stop → Result Answer ReadFault → Type 0
StopsWith (stop.Rejected r) (Ok a) = IsAnswerOf (response_to r) a
StopsWith (stop.Rejected r) (Err f) = ⊥
StopsWith (stop.Fault f) (Ok a) = ⊥
StopsWith (stop.Fault f) (Err g) = g ≡ f

-- the input is served, and the tables stand for what the replica then is
abbrev pub ServedTo : Text → Replica → Tables → Text → ℕ → Type 0
ServedTo input old after output status = (new : Replica) × IsInputServed input old output status new × Stands after new

-- each way in which an answer is made
abbrev pub AnswersTo : Text → Tables → Tables → Replica → Result Answer ReadFault → Type 0
AnswersTo input before after old (Ok a) = ServedTo input old after (bytes_view a.bytes) a.status
AnswersTo input before after old (Err read.Read) = after ≡ before
AnswersTo input before after old (Err read.Memory) =
    (after ≡ before) ⊎ ((output : Text) × (status : ℕ) × ServedTo input old after output status)

-- a fault of serving: of reading, of writing, or want of memory
abbrev pub IsServeFault : WebFault → Type 0
IsServeFault fault.Read = Unit {0}
IsServeFault fault.Write = Unit {0}
IsServeFault fault.Memory = Unit {0}
IsServeFault _ = ⊥

-- each way in which serving ends, for what the writer held and holds, and for a replica that the tables stood for
abbrev pub EndsServed : Option (List ℕ) → Option (List ℕ) → Text → Tables → Tables → Replica → Result ℕ WebFault → Type 0
EndsServed held holds input before after old (Ok status) =
    (output : Text) × ServedTo input old after output status × Appends held holds output
EndsServed held holds input before after old (Err fault.Read) = Keeps held holds × (after ≡ before)
EndsServed held holds input before after old (Err fault.Write) =
    (output : Text) × (status : ℕ) × (n : ℕ) × ServedTo input old after output status × Appends held holds (take n output)
EndsServed held holds input before after old (Err fault.Memory) =
    Keeps held holds × ((after ≡ before) ⊎ ((output : Text) × (status : ℕ) × ServedTo input old after output status))
EndsServed held holds input before after old (Err fault.BadReply) = ⊥
EndsServed held holds input before after old (Err (fault.Peer status)) = ⊥
EndsServed held holds input before after old (Err (fault.Own refusal)) = ⊥
