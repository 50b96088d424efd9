-- From the bytes that were read to what the input asks, and from that to what is served.
use Rattle.std.proofs.Common.{◌≡◌, ◌++◌, ◌<◌, ℕ, List, [], Bool, true, false, not, length, take, Option, Some, None, IfSome, Result, Ok, Err, inl, refl, sym, ap, ◌∙◌, subst, eq-eqb, append-nil}
use Rattle.std.proofs.KnownBytes.{Keeps-refl}
use Rattle.std.specs.Prelude.{nat_lt, if◌then◌else◌, bytes_eq, ok_or}
use Rattle.std.specs.Io.KnownBytes.{Consumes, IsAtEnd}
use Rattle.httparse.specs.Grammar.{RequestHead}
use Rattle.mr_model.specs.Texts.{Text}
use Rattle.mr_model.specs.Replica.{Replica}
use Rattle.mr_model.specs.Replies.{Reply}
use Rattle.mr_model.specs.Tables.{Tables, Stands}
use Rattle.mr_model.specs.Step as model
use Rattle.mr_model.specs.Http.{Head, Route, Submissions, Cancellations, Day, Request, ErrorLog, PositionOf, Pull, Push, Response, Asked, Faulty, Runs, ServesAsked, is_post, method_name}
use Rattle.mr_model.specs.Http.{command_of, body_length, greatest_body, bad_request, not_allowed, too_large, ask_command, ask_length, ask_route, response_of, response_text, asked as asked_of}
use Rattle.mr_service.specs.declared.commands.Command.{Command}
use Rattle.mr_service.specs.Asked.{command_seen as command_view}
use Rattle.mr_http.specs.Faults.{web_fault}
use Rattle.mr_http.specs.Heads.{IsHead, HasNoHead, FindsHead}
use Rattle.mr_http.specs.Inputs.{OfInput}
use Rattle.mr_http.specs.declared.faults.ReadFault.{ReadFault}
use Rattle.mr_http.specs.declared.faults.ReadFault.TheVariants as fault
use Rattle.mr_http.proofs.HeadLemmas.{head_more}
use Rattle.mr_http.proofs.BodyLemmas.{short_same, take_same}
use Rattle.mr_http.proofs.Known.{if_some_map, of_input, of_input_unit}
use Rattle.mr_web.specs.Routes.{route_of}
use Rattle.mr_web.specs.RequestAsks.{head_of, readings, Asks, limited_length, with_route, head_asks, asked_by, body_in, command_in, as_asked, after_body, after_head}
use Rattle.mr_web.specs.Views.{GivesView, FailsAs, Settles, ServedTo, AnswersTo, EndsServed, IsServeFault, StopsWith, IsAnswerOf, response_to, bytes_view}
use Rattle.mr_web.specs.RepliesWritten.{Writes}
use Rattle.mr_web.specs.declared.replies.Answer.{Answer}
use Rattle.mr_web.specs.declared.rejections.Stop.{Stop}
use Rattle.mr_web.specs.declared.rejections.Stop.TheVariants as stop

-- ---- the definitions' order of checks is that of the head's checks, the body and the command

-- the head is of no weight for a command
command_same : (head : Option Head) (route : Route) (body : Text) → command_of (readings head) route body ≡ command_of (readings None) route body
command_same head Submissions body = refl
command_same head Cancellations body = refl
command_same head (Day room day) body = refl
command_same head (Request room id) body = refl
command_same head (ErrorLog room) body = refl
command_same head PositionOf body = refl
command_same head Pull body = refl
command_same head Push body = refl

asks_command : (o : Option model.Command) → ask_command o ≡ as_asked (ok_or o bad_request)
asks_command None = refl
asks_command (Some c) = refl

asks_body : (head : Option Head) (route : Route) (behind : Text) (n : ℕ) (short : Bool)
    → (if short then Faulty bad_request else ask_command (command_of (readings head) route (take n behind)))
    ≡ as_asked (after_body route (if short then Err bad_request else Ok (take n behind)))
asks_body head route behind n true = refl
asks_body head route behind n false = ap ask_command (command_same head route (take n behind)) ∙ asks_command (command_of (readings None) route (take n behind))

asks_limited : (head : Option Head) (route : Route) (behind : Text) (n : ℕ) (large : Bool)
    → (if large then Faulty too_large
    else (if nat_lt (length behind) n then Faulty bad_request else ask_command (command_of (readings head) route (take n behind))))
    ≡ as_asked (after_head behind (with_route route (if large then Err too_large else Ok n)))
asks_limited head route behind n true = refl
asks_limited head route behind n false = asks_body head route behind n (nat_lt (length behind) n)

asks_length : (head : Option Head) (route : Route) (behind : Text) (o : Option ℕ)
    → ask_length (readings head) route behind o ≡ as_asked (after_head behind (with_route route (limited_length o)))
asks_length head route behind None = refl
asks_length head route behind (Some n) = asks_limited head route behind n (nat_lt greatest_body n)

asks_method : (head : Option Head) (route : Route) (behind : Text) (f : Response) (o : Option ℕ) (same : Bool)
    → (if not same then Faulty f else ask_length (readings head) route behind o)
    ≡ as_asked (after_head behind (with_route route (if not same then Err f else limited_length o)))
asks_method head route behind f o true = asks_length head route behind o
asks_method head route behind f o false = refl

asks_route : (head : Option Head) (h : Head) (o : Option Route)
    → ask_route (readings head) h o ≡ as_asked (after_head h.behind (head_asks o h.method h.fields))
asks_route head h None = refl
asks_route head h (Some route) =
    asks_method head route h.behind (not_allowed (method_name (is_post route))) (body_length (is_post route) h.fields)
    (bytes_eq h.method (method_name (is_post route)))

-- what an input with this head asks
pub asks_by : (input : Text) (h : RequestHead) (rest : Text) → h.minor ≡ 1
    → asked_of (readings (Some (head_of h rest))) input ≡ as_asked (after_head rest (asked_by h))
asks_by input h rest version =
    let head = head_of h rest in
    ap (λ v. if not v then Faulty bad_request else ask_route (readings (Some head)) head (route_of h.target)) (eq-eqb h.minor 1 version)
    ∙ asks_route (Some head) head (route_of h.target)

-- ---- from the bytes that were read to the input

-- a body is cut alike where more input follows only behind it
body_same : (n : ℕ) (rest ys : List ℕ) → (length rest < n → ys ≡ []) → body_in n (rest ++ ys) ≡ body_in n rest
body_same n rest ys ends =
    ap (λ b. if b then Err bad_request else Ok (take n (rest ++ ys))) (short_same n rest ys ends)
    ∙ ap (λ t. if nat_lt (length rest) n then Err bad_request else Ok t) (take_same n rest ys ends)

-- the known input asks what the bytes behind the head give
asks_as : (known left : Option (List ℕ)) (b rest : List ℕ) (h : RequestHead) (a : Route × ℕ) (o : Asked)
    → Consumes known left b → IsHead b h rest → (length rest < a.1 → IsAtEnd left) → asked_by h ≡ Ok a
    → as_asked (after_body a.0 (body_in a.1 rest)) ≡ o → IfSome known (λ input. Asks input o)
asks_as None left b rest h a o p head ends asked gives = tt
asks_as (Some x) None b rest h a o p head ends asked gives = absurd p
asks_as (Some x) (Some y) b rest h a o p head ends asked gives =
    let reads : IsHead x h (rest ++ y) = subst (λ l. IsHead l h (rest ++ y)) (sym p) (head_more b y h rest head) in
    let equal : o ≡ asked_of (readings (Some (head_of h (rest ++ y)))) x =
    sym gives ∙ ap (λ r. as_asked (after_body a.0 r)) (sym (body_same a.1 rest y ends))
    ∙ ap (λ r. as_asked (after_head (rest ++ y) r)) (sym asked) ∙ sym (asks_by x h (rest ++ y) head.version) in
    (Some (head_of h (rest ++ y)), (h, rest ++ y, reads, refl), equal)

-- the same of any input
settles_as : (known left : Option (List ℕ)) (b rest : List ℕ) (h : RequestHead) (a : Route × ℕ) (o : Asked)
    → Consumes known left b → IsHead b h rest → (length rest < a.1 → IsAtEnd left) → asked_by h ≡ Ok a
    → as_asked (after_body a.0 (body_in a.1 rest)) ≡ o → OfInput known (λ input. Asks input o)
settles_as known left b rest h a o p head ends asked gives =
    of_input known b (λ input. Asks input o) (asks_as known left b rest h a o p head ends asked gives)
    (asks_as (Some b) (Some []) b rest h a o (sym (append-nil b)) head (λ few. refl) asked gives)

-- a check of the head alone fails: of the known input
asks_refused : (known left : Option (List ℕ)) (b rest : List ℕ) (h : RequestHead) (f : Response)
    → Consumes known left b → IsHead b h rest → asked_by h ≡ Err f → IfSome known (λ input. Asks input (Faulty f))
asks_refused None left b rest h f p head asked = tt
asks_refused (Some x) None b rest h f p head asked = absurd p
asks_refused (Some x) (Some y) b rest h f p head asked =
    let reads : IsHead x h (rest ++ y) = subst (λ l. IsHead l h (rest ++ y)) (sym p) (head_more b y h rest head) in
    let equal : Faulty f ≡ asked_of (readings (Some (head_of h (rest ++ y)))) x =
    ap (λ r. as_asked (after_head (rest ++ y) r)) (sym asked) ∙ sym (asks_by x h (rest ++ y) head.version) in
    (Some (head_of h (rest ++ y)), (h, rest ++ y, reads, refl), equal)

-- the same of any input
settles_refused : (known left : Option (List ℕ)) (b rest : List ℕ) (h : RequestHead) (f : Response)
    → Consumes known left b → IsHead b h rest → asked_by h ≡ Err f → OfInput known (λ input. Asks input (Faulty f))
settles_refused known left b rest h f p head asked =
    of_input known b (λ input. Asks input (Faulty f)) (asks_refused known left b rest h f p head asked)
    (asks_refused (Some b) (Some []) b rest h f (sym (append-nil b)) head asked)

-- an input with no head
pub settles_none : (known : Option (List ℕ)) (b : List ℕ) → FindsHead known b None → OfInput known (λ input. Asks input (Faulty bad_request))
settles_none known b none =
    let P : List ℕ → Type 0 = λ input. Asks input (Faulty bad_request) in
    of_input known b P (if_some_map known HasNoHead P (λ input h. (None, h, refl)) none.1) (None, none.0, refl)

-- what a body gives settles the input
pub settles_result : (known left : Option (List ℕ)) (b rest : List ℕ) (h : RequestHead) (a : Route × ℕ) (body : List ℕ) (r : Result Command Stop)
    → Consumes known left b → IsHead b h rest → (length rest < a.1 → IsAtEnd left) → asked_by h ≡ Ok a → body_in a.1 rest ≡ Ok body
    → GivesView command_view r (command_in a.0 body) → OfInput known (λ input. Settles input r)
settles_result known left b rest h a body (Ok c) p head ends asked cut gives =
    settles_as known left b rest h a _ p head ends asked (ap (λ x. as_asked (after_body a.0 x)) cut ∙ ap as_asked gives)
settles_result known left b rest h a body (Err (stop.Rejected e)) p head ends asked cut gives =
    settles_as known left b rest h a _ p head ends asked (ap (λ x. as_asked (after_body a.0 x)) cut ∙ ap as_asked gives)
settles_result known left b rest h a body (Err (stop.Fault f)) p head ends asked cut gives = of_input_unit known

-- ---- serving

-- a command's step and its reply serve the input
pub served_by : (input : Text) (old new : Replica) (after : Tables) (c : model.Command) (reply : Reply) → Asks input (Runs c)
    → model.IsStep old c reply new → Stands after new
    → ServedTo input old after (response_text (response_of reply)) (response_of reply).status
served_by input old new after c reply asks step stands =
    let done : ServesAsked (Runs c) old (response_of reply) new = (reply, step, refl) in (
      new,
      (
        asks.0,
        asks.1,
        record {
          response = response_of reply;
          served = subst (λ q. ServesAsked q old (response_of reply) new) asks.2 done;
          is_output = refl;
          is_status = refl;
        },
      ),
      stands,
    )

-- the fault's response serves the input, and nothing is done
pub served_faulty : (input : Text) (old : Replica) (tables : Tables) (f : Response) → Asks input (Faulty f) → Stands tables old
    → ServedTo input old tables (response_text f) f.status
served_faulty input old tables f asks stands =
    let done : ServesAsked (Faulty f) old f old = (refl, refl) in (
      old,
      (
        asks.0,
        asks.1,
        record {
          response = f;
          served = subst (λ q. ServesAsked q old f old) asks.2 done;
          is_output = refl;
          is_status = refl;
        },
      ),
      stands,
    )

-- an answer that tells a response serves what the response serves
pub served_told : (input : Text) (old : Replica) (after : Tables) (f : Response) (a : Answer) → IsAnswerOf f a
    → ServedTo input old after (response_text f) f.status → ServedTo input old after (bytes_view a.bytes) a.status
served_told input old after f a tells served =
    subst (λ s. ServedTo input old after (bytes_view a.bytes) s) (sym tells.1)
    (subst (λ t. ServedTo input old after t f.status) (sym tells.0) served)

-- ---- a request that is settled before its body gives a command

pub settles_head_stop : (known left : Option (List ℕ)) (b rest : List ℕ) (h : RequestHead) (e : Stop)
    → Consumes known left b → IsHead b h rest → FailsAs e (asked_by h) → OfInput known (λ input. Settles input (Err e))
settles_head_stop known left b rest h (stop.Rejected r) p head asked = settles_refused known left b rest h (response_to r) p head asked
settles_head_stop known left b rest h (stop.Fault f) p head asked = of_input_unit known

pub settles_body_stop : (known left : Option (List ℕ)) (b rest : List ℕ) (h : RequestHead) (a : Route × ℕ) (e : Stop)
    → Consumes known left b → IsHead b h rest → (length rest < a.1 → IsAtEnd left) → asked_by h ≡ Ok a → FailsAs e (body_in a.1 rest)
    → OfInput known (λ input. Settles input (Err e))
settles_body_stop known left b rest h a (stop.Rejected r) p head ends asked cut =
    settles_as known left b rest h a _ p head ends asked (ap (λ x. as_asked (after_body a.0 x)) cut)
settles_body_stop known left b rest h a (stop.Fault f) p head ends asked cut = of_input_unit known

pub serve_faults : (f : ReadFault) → IsServeFault (web_fault f)
serve_faults fault.Read = tt
serve_faults fault.Memory = tt

-- with a fault while an answer was made nothing is written
pub ends_fault : (input : Text) (before after : Tables) (old : Replica) (held : Option (List ℕ)) (f : ReadFault)
    → AnswersTo input before after old (Err f) → EndsServed held held input before after old (Err (web_fault f))
ends_fault input before after old held fault.Read same = (Keeps-refl held, same)
ends_fault input before after old held fault.Memory answers = (Keeps-refl held, answers)

-- nor is an answer, of whichever request
pub none_written : (held : Option (List ℕ)) (f : ReadFault) (IsOne : Text → ℕ → Type 0) → Writes held held IsOne (Err (web_fault f))
none_written held fault.Read IsOne = Keeps-refl held
none_written held fault.Memory IsOne = Keeps-refl held

-- a request that asks no command leaves the tables as they are
pub answers_stopped : (input : Text) (old : Replica) (tables : Tables) (s : Stop) (r : Result Answer ReadFault) → StopsWith s r
    → Settles input (Err s) → Stands tables old → AnswersTo input tables tables old r
answers_stopped input old tables (stop.Rejected r) (Ok a) tells asks stands =
    served_told input old tables (response_to r) a tells (served_faulty input old tables (response_to r) asks stands)
answers_stopped input old tables (stop.Rejected r) (Err f) tells asks stands = absurd tells
answers_stopped input old tables (stop.Fault f) (Ok a) tells asks stands = absurd tells
answers_stopped input old tables (stop.Fault f) (Err fault.Read) tells asks stands = refl
answers_stopped input old tables (stop.Fault f) (Err fault.Memory) tells asks stands = inl refl
