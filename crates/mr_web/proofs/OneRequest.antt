-- One request over a keeper, put together of its parts.
use Rattle.std.proofs.Common.{inl, inr, refl, ℕ, Option, Result, Ok, Err}
use Rattle.mr_model.specs.Http.{Faulty, Response, Runs, response_of}
use Rattle.mr_model.specs.Replica.{Replica}
use Rattle.mr_model.specs.Replies.{Reply}
use Rattle.mr_model.specs.Tables.{Tables, Stands}
use Rattle.mr_model.specs.Texts.{Text}
use Rattle.mr_store.specs.declared.keeper.Keeper.{Ghosts}
use Rattle.mr_http.specs.Inputs.{OfInput}
use Rattle.mr_http.specs.declared.faults.ReadFault.{ReadFault}
use Rattle.mr_http.specs.declared.faults.ReadFault.TheVariants as fault
use Rattle.mr_http.proofs.Known.{of_input_map}
use Rattle.mr_service.specs.Asked.{command_seen}
use Rattle.mr_service.specs.Served.{IsServed}
use Rattle.mr_service.specs.declared.commands.Command.{Command}
use Rattle.mr_service.proofs.ReplyHalves.{replied_by}
use Rattle.mr_web.specs.RequestAsks.{Asks}
use Rattle.mr_web.specs.RequestServed.{AsksOnce, IsOfResponse, IsRequest}
use Rattle.mr_web.specs.Views.{AnswersTo, Settles, StopsWith, IsAnswerOf, response_to}
use Rattle.mr_web.specs.RepliesWritten.{IsAnswer, MakesReply, Responds}
use Rattle.mr_web.specs.declared.rejections.Stop.{Stop}
use Rattle.mr_web.specs.declared.rejections.Stop.TheVariants as why
use Rattle.mr_web.specs.declared.replies.Answer.{Answer}
use Rattle.mr_web.proofs.ServedInputs.{answers_stopped, served_by, served_told}

-- the answer is made of the reply, unless memory ran out
abbrev pub IsMade : Reply → Result Answer ReadFault → Type 0
IsMade reply (Ok answer) = IsAnswerOf (response_of reply) answer
IsMade reply (Err fault.Read) = ⊥
IsMade reply (Err fault.Memory) = Unit {0}

made_answers : {K : Type 0} (k : Ghosts K) (old new : K) (command : Command) (reply : Reply) (result : Result Answer ReadFault)
    → IsServed k old new (command_seen command) reply → IsMade reply result → (input : Text) → Asks input (Runs (command_seen command))
    → k.is_clean new → k.is_open new → (a : Replica) → Stands (k.tables old) a → AnswersTo input (k.tables old) (k.tables new) a result
made_answers k old new command reply (Ok answer) served made input asks c o a stands =
    let s = served.step c o a stands in
    served_told input a (k.tables new) (response_of reply) answer made
    (served_by input a s.0 (k.tables new) (command_seen command) reply asks s.1 s.2)
made_answers k old new command reply (Err fault.Read) served made input asks c o a stands = absurd made
made_answers k old new command reply (Err fault.Memory) served made input asks c o a stands =
    let s = served.step c o a stands in
    inr (_, _, served_by input a s.0 (k.tables new) (command_seen command) reply asks s.1 s.2)

-- ---- what is answered, whether or not a failure has shut the keeper

made_answer : {K : Type 0} (k : Ghosts K) (old new : K) (command : Command) (reply : Reply) (result : Result Answer ReadFault)
    → IsServed k old new (command_seen command) reply → IsMade reply result → (input : Text) → Asks input (Runs (command_seen command))
    → MakesReply (IsAnswer k old new input) result
made_answer k old new command reply (Ok answer) served made input asks =
    let said : Responds k old new (Runs (command_seen command)) (response_of reply) =
    (reply, refl, replied_by k old new (command_seen command) reply served) in
    (Runs (command_seen command), response_of reply, asks, said, made.0, made.1)
made_answer k old new command reply (Err e) served made input asks = tt

stopped_answer : {K : Type 0} (k : Ghosts K) (at : K) (s : Stop) (result : Result Answer ReadFault) → StopsWith s result
    → (input : Text) → Settles input (Err s) → MakesReply (IsAnswer k at at input) result
stopped_answer k at (why.Rejected r) (Ok answer) tells input asks =
    let said : Responds k at at (Faulty (response_to r)) (response_to r) = refl in
    (Faulty (response_to r), response_to r, asks, said, tells.0, tells.1)
stopped_answer k at (why.Rejected r) (Err f) tells input asks = absurd tells
stopped_answer k at (why.Fault f) (Ok answer) tells input asks = absurd tells
stopped_answer k at (why.Fault f) (Err g) tells input asks = tt

-- ---- what was asked, once

once_asked : {K : Type 0} (k : Ghosts K) (old new : K) (command : Command) (reply : Reply) (result : Result Answer ReadFault)
    → IsServed k old new (command_seen command) reply → IsMade reply result
    → (known : Option Text) → OfInput known (λ input. Settles input (Ok command)) → AsksOnce k old new known MakesReply result
once_asked k old new command reply (Ok answer) served made known asks = inr (command_seen command, reply, served, asks, made)
once_asked k old new command reply (Err fault.Read) served made known asks = absurd made
once_asked k old new command reply (Err fault.Memory) served made known asks = inr (command_seen command, reply, served, asks, tt)

-- a text that answers what is at fault with the input
abbrev pub IsOfFault : Text → Text → ℕ → Type 0
IsOfFault input output status = (f : Response) × Asks input (Faulty f) × IsOfResponse f output status

fault_made : (s : Stop) (result : Result Answer ReadFault) → StopsWith s result → (input : Text) → Settles input (Err s)
    → MakesReply (IsOfFault input) result
fault_made (why.Rejected r) (Ok answer) tells input asks = (response_to r, asks, tells)
fault_made (why.Rejected r) (Err f) tells input asks = absurd tells
fault_made (why.Fault f) (Ok answer) tells input asks = absurd tells
fault_made (why.Fault f) (Err g) tells input asks = tt

once_on : {K X Y E F : Type 0} (k : Ghosts K) (old new : K) (known : Option Text) (first : Result X E) (result : Result Y F)
    (G : (Text → ℕ → Type 0) → Result X E → Type 0) (H : (Text → ℕ → Type 0) → Result Y F → Type 0) → AsksOnce k old new known G first
    → ((IsOne : Text → ℕ → Type 0) → G IsOne first → H IsOne result) → AsksOnce k old new known H result
once_on k old new known first result G H (inl (same, told)) gives = inl (same, of_input_map known _ _ (λ input. gives (IsOfFault input)) told)
once_on k old new known first result G H (inr (command, reply, served, asks, given)) gives =
    inr (command, reply, served, asks, gives (IsOfResponse (response_of reply)) given)

-- ---- requests

-- the command that the input asks was given to the replica
pub request_served : {K : Type 0} (k : Ghosts K) (old new : K) (command : Command) (reply : Reply) (result : Result Answer ReadFault)
    → IsServed k old new (command_seen command) reply → IsMade reply result
    → (known : Option Text) → OfInput known (λ input. Settles input (Ok command)) → IsRequest k old new known result AnswersTo MakesReply
request_served k old new command reply result served made known asks =
    record {
      clean = served.clean;
      opens = served.opens;
      serves = of_input_map known _ _ (made_answers k old new command reply result served made) asks;
      answered = of_input_map known _ _ (made_answer k old new command reply result served made) asks;
      once = once_asked k old new command reply result served made known asks;
    }

-- the request asks no command, or wasn't read
pub request_stopped : {K : Type 0} (k : Ghosts K) (at : K) (known : Option Text) (stop : Stop) (result : Result Answer ReadFault)
    → StopsWith stop result → OfInput known (λ input. Settles input (Err stop)) → IsRequest k at at known result AnswersTo MakesReply
request_stopped k at known stop result stops asks =
    record {
      clean = λ c. c;
      opens = λ c o. o;
      serves = of_input_map known _ _ (λ input is c o a stands. answers_stopped input a (k.tables at) stop result stops is stands) asks;
      answered = of_input_map known _ _ (stopped_answer k at stop result stops) asks;
      once = inl (refl, of_input_map known _ _ (fault_made stop result stops) asks);
    }

-- what is made of the result leaves the keeper as it is
pub request_on : {K X Y E F : Type 0} (k : Ghosts K) (old new : K) (known : Option Text) (first : Result X E) (result : Result Y F)
    (P : Text → Tables → Tables → Replica → Result X E → Type 0)
    (Q : Text → Tables → Tables → Replica → Result Y F → Type 0) (G : (Text → ℕ → Type 0) → Result X E → Type 0)
    (H : (Text → ℕ → Type 0) → Result Y F → Type 0) → IsRequest k old new known first P G
    → ((input : Text) (before after : Tables) (a : Replica) → P input before after a first → Q input before after a result)
    → ((IsOne : Text → ℕ → Type 0) → G IsOne first → H IsOne result)
    → IsRequest k old new known result Q H
request_on k old new known first result P Q G H request answers gives =
    record {
      clean = request.clean;
      opens = request.opens;
      serves = of_input_map known _ _ (λ input is c o a stands. answers input (k.tables old) (k.tables new) a (is c o a stands)) request.serves;
      answered = of_input_map known _ _ (λ input. gives (IsAnswer k old new input)) request.answered;
      once = once_on k old new known first result G H request.once gives;
    }
