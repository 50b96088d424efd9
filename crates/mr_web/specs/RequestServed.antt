-- What one request did over a keeper, as one record.
use Rattle.std.specs.Prelude.{◌≡◌, ◌⊎◌, ℕ, Option, Result}
use Rattle.mr_model.specs.Http.{Faulty, Response, Runs, response_of, response_text}
use Rattle.mr_model.specs.Replica.{Replica}
use Rattle.mr_model.specs.Replies.{Reply}
use Rattle.mr_model.specs.Step.{Command}
use Rattle.mr_model.specs.Tables.{Tables, Stands}
use Rattle.mr_model.specs.Texts.{Text}
use Rattle.mr_store.specs.declared.keeper.Keeper.{Ghosts}
use Rattle.mr_http.specs.Inputs.{OfInput}
use Rattle.mr_service.specs.Served.{IsServed}
use Rattle.mr_web.specs.RequestAsks.{Asks}
use Rattle.mr_web.specs.RepliesWritten.{IsAnswer}

-- the text of the response, and its status
abbrev pub IsOfResponse : Response → Text → ℕ → Type 0
IsOfResponse response output status = (output ≡ response_text response) × (status ≡ response.status)

-- The keeper was asked nothing, and what is at fault with the input is answered; or it was asked the command that the input asks, once, and the
-- response to just its reply is.
abbrev pub AsksOnce : {K X E : Type 0} → Ghosts K → K → K → Option Text → ((Text → ℕ → Type 0) → Result X E → Type 0) → Result X E → Type 0
AsksOnce keeper old new known Gives result =
    ((new ≡ old) × OfInput known (λ input. Gives (λ output status. (f : Response) × Asks input (Faulty f) × IsOfResponse f output status) result))
    ⊎ ((command : Command) × (reply : Reply) × IsServed keeper old new command reply × OfInput known (λ input. Asks input (Runs command))
    × Gives (IsOfResponse (response_of reply)) result)

-- The keeper before the request and after it, what is known of the reader's bytes, and the result. It is what `Answers` tells of the
-- input, for each replica that the tables stood for. Whether a failure has shut the keeper or not, it is what `Gives` makes of an answer.
-- What a crash may leave, and whether the keeper is open still, `IsServed` says of the command.
pub record IsRequest {K X E : Type 0} (keeper : Ghosts K) (old new : K) (known : Option Text) (result : Result X E)
    (Answers : Text → Tables → Tables → Replica → Result X E → Type 0) (Gives : (Text → ℕ → Type 0) → Result X E → Type 0) : Type 0 where
  pub clean : keeper.is_clean new → keeper.is_clean old
  pub opens : keeper.is_clean new → keeper.is_open new → keeper.is_open old
  pub serves : OfInput known (λ input. keeper.is_clean new → keeper.is_open new → (a : Replica) → Stands (keeper.tables old) a
      → Answers input (keeper.tables old) (keeper.tables new) a result)
  pub answered : OfInput known (λ input. Gives (IsAnswer keeper old new input) result)
  pub once : AsksOnce keeper old new known Gives result
